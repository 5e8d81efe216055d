-- Of theorems: one call of the join that starts or goes on after a given row, in document 02's words.
use Rattle.std.specs.Prelude.{ℕ, suc, ◌*◌, ◌<◌, ◌≡◌, List, [], ◌++◌, length, get_or, take, drop, replicate}
use Rattle.relation.specs.Order.{Row, ◌≺◌}
use Rattle.relation.specs.Lists.{◌∈◌, Ascends}
use Rattle.relation.specs.Rows.{Width, flat}
use Rattle.relation.specs.Exactly.{Exactly}
use Rattle.query.specs.Meaning.{Atom, part, Answer, Listing}
use Rattle.query.specs.Window.{fit}
use Rattle.join_query.specs.Query.{max_variables, order_of, atoms_of}
use Rattle.join_query.specs.declared.Query.{Query}
use Rattle.join_query.specs.declared.Tables.{Tables}
use Rattle.rows_after.specs.After.{padded}
use Rattle.rows_after.specs.declared.JoinedAfter.{JoinedAfter}

-- "It lists the rows strictly after that one, in the order's sequence, of the tables as they stand at that call; the given row needn't be an answer": the rows are exactly
-- the answers that come strictly after it, each once
pub record ListingAfter (n : ℕ) (order : List ℕ) (atoms : List Atom) (given : Row) (rows : List Row) : Type 0 where
  pub wide : Width n rows
  pub sound : (v : Row) → v ∈ rows → Answer atoms v
  pub later : (v : Row) → v ∈ rows → part order given ≺ part order v
  pub complete : (v : Row) → length v ≡ n → Answer atoms v → part order given ≺ part order v → v ∈ rows
  pub ascending : Ascends (λ (r s : Row). part order r ≺ part order s) rows

-- what an accepted call does with the rows that it lists: the window rule is the join's, and "the answer carries the last row written", "words past n are zero"
pub record Lists (n : ℕ) (rows : List Row) (window : List ℕ) (r : JoinedAfter) (after : List ℕ) : Type 0 where
  pub first : r.rows ≡ fit n (length window) (length rows)
  pub receives : after ≡ flat (take r.rows rows) ++ drop (r.rows * n) window
  pub full : Exactly (r.number ≡ 12) (length window < length rows * n)
  pub not_full : (r.number ≡ 12 → ⊥) → r.number ≡ 0
  pub last : (i : ℕ) → r.rows ≡ suc i → r.last ≡ padded (get_or rows i [])

-- a call that goes on: "or the given one if none was"
pub record GoesOn (pool : List ℕ) (ts : Tables) (q : Query) (given : Row) (window : List ℕ) (r : JoinedAfter) (after : List ℕ) : Type 0 where
  pub rows : List Row
  pub exactly : ListingAfter q.n (order_of q) (atoms_of pool ts q) given rows
  pub lists : Lists q.n rows window r after
  pub none : r.rows ≡ 0 → r.last ≡ padded (take q.n given)

-- a start: demand 3's listing, and "at a start without rows .. zeros"
pub record Starts (pool : List ℕ) (ts : Tables) (q : Query) (window : List ℕ) (r : JoinedAfter) (after : List ℕ) : Type 0 where
  pub rows : List Row
  pub exactly : Listing q.n (order_of q) (atoms_of pool ts q) rows
  pub lists : Lists q.n rows window r after
  pub none : r.rows ≡ 0 → r.last ≡ replicate max_variables 0

-- "in refusals but 12, zeros": nothing else is said or done
pub record Refused (number : ℕ) (window : List ℕ) (r : JoinedAfter) (after : List ℕ) : Type 0 where
  pub says : r.number ≡ number
  pub no_rows : r.rows ≡ 0
  pub untouched : after ≡ window
  pub zeros : r.last ≡ replicate max_variables 0

-- "A window without room for a row answers 12 and no rows if any remain"; the row that the call stood at is handed back
pub record NoRoom (rows : List Row) (stood : Row) (window : List ℕ) (r : JoinedAfter) (after : List ℕ) : Type 0 where
  pub twelve : Exactly (r.number ≡ 12) (0 < length rows)
  pub else_zero : (r.number ≡ 12 → ⊥) → r.number ≡ 0
  pub no_rows : r.rows ≡ 0
  pub untouched : after ≡ window
  pub stays : r.last ≡ padded stood

-- "With n = 0 the start gives the empty row, going on gives none": so many rows, which take no words
pub record NoWords (rows : ℕ) (window : List ℕ) (r : JoinedAfter) (after : List ℕ) : Type 0 where
  pub not_refused : r.number ≡ 0
  pub count : r.rows ≡ rows
  pub untouched : after ≡ window
  pub zeros : r.last ≡ replicate max_variables 0
