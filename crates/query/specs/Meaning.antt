-- Public: what a join means: demand 3 of the minutes, word for word, over relations. Nothing here knows of a pool, of cursors or of how the rows are found.
-- An atom's relation is a parameter: the rows that count as stored.
use Rattle.std.specs.Prelude.{ℕ, ◌<◌, ◌≡◌, Bool, true, false, List, [], ◌∷◌, map, length, get_or, eqb}
use Rattle.relation.specs.Order.{Row, pick, ◌≺◌}
use Rattle.relation.specs.Lists.{◌∈◌, Ascends}
use Rattle.relation.specs.Rows.{Asc, Width}

-- an atom: its variables, and the rows stored under them
pub record Atom : Type 0 where
  pub vars : List ℕ
  pub rows : List Row

-- An assignment of words to the variables 0 to n - 1 is a row of n words, by variable number. Its part for the variables xs: their words, in the
-- sequence of xs
abbrev pub part : List ℕ → Row → Row
part xs v = map (λ (x : ℕ). get_or v x 0) xs

-- the part for each atom is a stored row
abbrev pub Answer : List Atom → Row → Type 0
Answer atoms v = (a : Atom) → a ∈ atoms → part a.vars v ∈ a.rows

-- Demand 3: "the rows are exactly the assignments of words to variables whose part for each atom is a stored row: each once, ascending as read in
-- the query's order"
pub record Listing (n : ℕ) (order : List ℕ) (atoms : List Atom) (rows : List Row) : Type 0 where
  -- "the rows are .. assignments of words to variables": a word for each of the n variables. Where each variable is in some atom, these are words of
  -- stored rows
  pub wide : Width n rows
  -- "whose part for each atom is a stored row"
  pub sound : (v : Row) → v ∈ rows → Answer atoms v
  -- "exactly": no such assignment is missing
  pub complete : (v : Row) → length v ≡ n → Answer atoms v → v ∈ rows
  -- "each once, ascending as read in the query's order": strictly, so none stands twice
  pub ascending : Ascends (λ (r s : Row). part order r ≺ part order s) rows

-- ---- "for every query that passes document 01's checks"

-- no number stands twice
abbrev pub Distinct : List ℕ → Type 0
Distinct l = Ascends (λ (x y : ℕ). x ≡ y → ⊥) l

-- what refusal 8 asks: the order, n numbers long, is a permutation of 0 to n - 1
pub record Permutation (n : ℕ) (order : List ℕ) : Type 0 where
  pub size : length order ≡ n
  pub below : (x : ℕ) → x ∈ order → x < n
  pub single : Distinct order

-- what refusal 10 asks of an atom's list: it strictly follows the order, that is, it is the order with some variables left out
unfoldable pub follows : List ℕ → List ℕ → Bool
follows vs [] = true
follows [] (x ∷ xs) = false
follows (v ∷ vs) (x ∷ xs) = pick (eqb x v) (follows vs xs) (follows vs (x ∷ xs))

-- what refusals 10 and 6 ask of an atom's table: an arity of 1 or more that is the length of the list, and rows of that many words, strictly ascending
pub record Table (a : Atom) : Type 0 where
  pub positive : 0 < length a.vars
  pub wide : Width (length a.vars) a.rows
  pub ascending : Asc a.rows

-- the query passes: its order, its atoms' lists, its variables and its tables
pub record Passes (n : ℕ) (order : List ℕ) (atoms : List Atom) : Type 0 where
  -- not 8
  pub permutation : Permutation n order
  -- not 10
  pub follow : (a : Atom) → a ∈ atoms → follows order a.vars ≡ true
  -- not 11: each variable is in some atom
  pub covered : (x : ℕ) → x < n → (a : Atom) × (a ∈ atoms) × (x ∈ a.vars)
  -- not 6
  pub tables : (a : Atom) → a ∈ atoms → Table a
