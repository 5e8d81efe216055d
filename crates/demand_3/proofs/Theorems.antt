-- What `join` is proved to do, said once more in document 01's and the minutes' words, from its contract alone.
use Prim.Native.Nat.{ℕ, suc, ◌*◌, ◌≤◌, ◌<◌, min}
use native.Mathlib.Omega.{arith}
use mathlib.Core.Path.{◌≡◌, refl, sym, subst, ap, ◌∙◌}
use mathlib.Core.Bool.{Bool, true, false, ◌&&◌}
use mathlib.Core.Logic.{inl, inr}
use mathlib.Core.List.{List, [], ◌++◌}
use lib.ListN.{length, take, drop}
use lib.Dec.{leb}
use borrow.Author.Tests.{le-leb}
use Rattle.relation.specs.Order.{Row, pick}
use Rattle.relation.specs.Lists.{Ascends}
use Rattle.relation.specs.Tests as index
use Rattle.relation.proofs.Tests.{and_true, every_none, every_all}
use Rattle.relation.specs.Rows.{flat}
use Rattle.relation.specs.Exactly.{Exactly}
use Rattle.relation.proofs.Sequence.{exactly_then}
use Rattle.query.specs.Meaning as meaning
use Rattle.query.specs.Meaning.{Listing}
use Rattle.query.specs.Checks.{some, permutes, covers}
use Rattle.query.specs.Solve.{listing}
use Rattle.query.specs.Window.{fit, windowed}
use Rattle.query.specs.Outcome.{Comes, told, refused}
use Rattle.query.proofs.Unique.{once}
use Rattle.query.proofs.Listed.{listing_listing}
use Rattle.query.proofs.Window.{full_exactly, fit_whole, more_whole, filled_whole}
use contract.Lifetimes.{Lfts}
use denote.Ref.{Bor}
use denote.MutBor.{MutBor}
use Rattle.seek.specs.declared.SeekStrategy.{SeekStrategy}
use Rattle.leapfrog.specs.Walk.{walk_of, join_seeks}
use Rattle.query.specs.Limits.{max_atoms}
use Rattle.join_query.specs.Query.{max_tables, max_variables, order_of, lists_of, atoms_of, order_ok, named_ok, list_ok, one_kind, whole_rows, names, named, sound_at, shape_ok, join_number, Accepted}
use Rattle.join_query.specs.Facts.{WholeRows}
use Rattle.join_query.specs.Outcome.{listed, outcome}
use Rattle.leapfrog_triejoin.specs.Outcome.{seeks_at, Joins}
use Rattle.leapfrog_triejoin.specs.declared.Joined.{Joined}
use Rattle.join_query.specs.declared.Query.{Query}
use Rattle.join_query.specs.declared.Tables.{Tables}
use Rattle.join_query.proofs.Lists.{names_one, number_0, passed_all, sound_unnamed}
use Rattle.join_query.proofs.Accepted.{passes}
use Rattle.join_query.proofs.Exactly.{rows_decide}
use Rattle.leapfrog_triejoin.proofs.Determined.{one_answer, one_window}
use Rattle.leapfrog_triejoin.proofs.join.Reads.{Post}
use Rattle.join_query.proofs.Outcome.{outcome_refused, outcome_listed}

-- the window of the one empty row, and its seeks
one : (window : List ℕ) (atoms : List meaning.Atom) → windowed window 0 (listing 0 [] atoms) ≡ record { words = window; count = 1; full = false }
unfolding windowed listing fit flat
one window atoms = refl

no_seek : (window : List ℕ) (atoms : List meaning.Atom) → join_seeks 0 [] atoms window ≡ 0
unfolding join_seeks walk_of
no_seek window atoms = refl

-- ---- a query that a check refuses

pub record Refused (number : ℕ) (window : List ℕ) (r : Joined) (after : List ℕ) : Type 0 where
  pub says : r.number ≡ number
  pub no_rows : r.rows ≡ 0
  pub no_seeks : r.seeks ≡ 0
  pub untouched : after ≡ window

pub refused_leaves_the_window : {pool : List ℕ} {ts : Tables} {q : Query} {window : List ℕ} {r : Joined} {after : List ℕ} (number : ℕ) → join_number pool ts q (length window) ≡ suc number → Joins pool ts q window r after → Refused (suc number) window r after
unfolding refused seeks_at
refused_leaves_the_window {pool} {ts} {q} {window} number e j =
    let o = outcome_refused pool ts q window e in
    record {
      says = j.number ∙ ap (λ (c : Comes). c.number) o;
      no_rows = j.rows ∙ ap (λ (c : Comes). c.rows) o;
      no_seeks = j.seeks ∙ ap (λ (n : ℕ). seeks_at n (join_seeks q.n (order_of q) (atoms_of pool ts q) window)) e;
      untouched = j.words ∙ ap (λ (c : Comes). c.words) o;
    }

-- ---- demand 3

-- "for every query that passes document 01's checks", 15, 16 and 17 of document 02 among them
pub record Demand3 (pool : List ℕ) (ts : Tables) (q : Query) (window : List ℕ) (r : Joined) (after : List ℕ) : Type 0 where
  pub rows : List Row
  -- "the rows are exactly the assignments of words to variables whose part for each atom is a stored row: each once, ascending as read in the query's order";
  -- where the atom is laid over, "'stored row' then reads as a row that counts"
  pub exactly : Listing q.n (order_of q) (atoms_of pool ts q) rows
  pub each_once : Ascends (λ (a b : Row). a ≡ b → ⊥) rows
  -- "A small window receives the first rows that fit", by variable number, and words behind them stay
  pub first : r.rows ≡ fit q.n (length window) (length rows)
  pub receives : after ≡ flat (take r.rows rows) ++ drop (r.rows * q.n) window
  -- "and full is said exactly when more exist"; nothing else is said
  pub full : (r.number ≡ 12 → length window < length rows * q.n) × (length window < length rows * q.n → r.number ≡ 12)
  pub not_full : (r.number ≡ 12 → ⊥) → r.number ≡ 0

-- "'fit' now means whole windows": where n is above 0, the window is some number of rows long
pub record WholeWindow (n : ℕ) (rows : List Row) (window : List ℕ) (r : Joined) (after : List ℕ) : Type 0 where
  pub room : ℕ
  pub whole : length window ≡ room * n
  -- it receives so many of the first rows, or all
  pub first : r.rows ≡ min room (length rows)
  -- full is said exactly when more exist, and then it holds those rows and nothing else
  pub full : Exactly (r.number ≡ 12) (room < length rows)
  pub filled : r.number ≡ 12 → after ≡ flat (take room rows)

whole_rows_lem : {pool : List ℕ} {ts : Tables} {q : Query} {window : List ℕ} {r : Joined} {after : List ℕ} (d : Demand3 pool ts q window r after) → 0 < q.n → WholeRows q.n (length window) → WholeWindow q.n d.rows window r after
whole_rows_lem d p (inl e) = absurd (omega (arith, p, e))
whole_rows_lem {q = q} {window} {r} {after} d p (inr (m, e)) = record { room = m; whole = e; first = first; full = full; filled = filled }
  where
    first : r.rows ≡ min m (length d.rows)
    first = d.first ∙ ap (λ (l : ℕ). fit q.n l (length d.rows)) e ∙ fit_whole q.n m (length d.rows) p

    full : Exactly (r.number ≡ 12) (m < length d.rows)
    full = exactly_then d.full (subst (λ (l : ℕ). Exactly (l < length d.rows * q.n) (m < length d.rows)) (sym e) (more_whole q.n m (length d.rows) p))

    filled : r.number ≡ 12 → after ≡ flat (take m d.rows)
    filled h =
        let k : r.rows ≡ m = omega (arith, first, full.0 h) in
        d.receives ∙ ap (λ (x : ℕ). flat (take x d.rows) ++ drop (x * q.n) window) k ∙ filled_whole window q.n m (flat (take m d.rows)) e

module _ {pool : List ℕ} {ts : Tables} {q : Query} {window : List ℕ} (a : Accepted pool ts q (length window)) {r : Joined} {after : List ℕ} (j : Joins pool ts q window r after) where
  accepted_outcome : outcome pool ts q window ≡ told (listed pool ts q window)
  accepted_outcome = outcome_listed pool ts q window a.passed

  number_is : r.number ≡ pick (listed pool ts q window).full 12 0
  unfolding told
  number_is = j.number ∙ ap (λ (c : Comes). c.number) accepted_outcome

  rows_is : r.rows ≡ (listed pool ts q window).count
  unfolding told
  rows_is = j.rows ∙ ap (λ (c : Comes). c.rows) accepted_outcome

  words_is : after ≡ (listed pool ts q window).words
  unfolding told
  words_is = j.words ∙ ap (λ (c : Comes). c.words) accepted_outcome

  abbrev answers : List Row
  answers = listing q.n (order_of q) (atoms_of pool ts q)

  pub demand_3 : Demand3 pool ts q window r after
  unfolding windowed
  demand_3 =
      let f = full_exactly window q.n answers in
      record {
        rows = answers;
        exactly = listing_listing (passes a);
        each_once = once (listing_listing (passes a));
        first = rows_is;
        receives = words_is ∙ ap (λ (m : ℕ). flat (take m answers) ++ drop (m * q.n) window) (sym rows_is);
        full = (λ e. f.0 (twelve (listed pool ts q window).full (sym number_is ∙ e)), λ h. number_is ∙ ap (λ (b : Bool). pick b 12 0) (f.1 h));
        not_full = λ n. number_is ∙ zero_else (listed pool ts q window).full (λ e. n (number_is ∙ e));
      }
    where
      twelve : (b : Bool) → ◌≡◌ {A = ℕ} (pick b 12 0) 12 → b ≡ true
      twelve true e = refl
      twelve false e = absurd (omega arith)

      zero_else : (b : Bool) → (◌≡◌ {A = ℕ} (pick b 12 0) 12 → ⊥) → ◌≡◌ {A = ℕ} (pick b 12 0) 0
      zero_else true n = absurd (n refl)
      zero_else false n = refl

  pub whole_window : 0 < q.n → WholeWindow q.n demand_3.rows window r after
  whole_window p = whole_rows_lem demand_3 p ((rows_decide q.n (length window)).0 (passed_all pool ts q (length window) a.passed).window)

-- "the same under all three seek strategies": of two calls of `join` that differ in the strategy alone, whatever its contract promises of each, the answers
-- and the windows are the same. `Post` is that promise, of the arguments, the answer and the arguments as they are when the call returns
module _ (κs : Lfts 2) (s₁ s₂ : SeekStrategy) (pool : Bor (List ℕ)) (ts : Tables) (q : Query) (window : MutBor (List ℕ)) (r₁ r₂ : Joined) (e₁ e₂ : SeekStrategy × (Bor (List ℕ) × (Tables × (Query × (MutBor (List ℕ) × Unit {0}))))) where
  pub the_same_under_all_strategies : Post κs (s₁, (pool, (ts, (q, (window, tt))))) r₁ e₁ → Post κs (s₂, (pool, (ts, (q, (window, tt))))) r₂ e₂ → (r₁ ≡ r₂) × (e₁.1.1.1.1.0.now ≡ e₂.1.1.1.1.0.now)
  the_same_under_all_strategies one two = (one_answer one two, one_window one two)

-- ---- "No atoms and no variables give one empty row", which takes no words and always fits

pub record EmptyRow (window : List ℕ) (r : Joined) (after : List ℕ) : Type 0 where
  pub not_refused : r.number ≡ 0
  pub one_row : r.rows ≡ 1
  pub no_seeks : r.seeks ≡ 0
  pub untouched : after ≡ window

module _ (pool : List ℕ) (ts : Tables) (q : Query) (variables : q.n ≡ 0) (no_atoms : q.atom_count ≡ 0) (few : ts.count ≤ max_tables) where
  pub nothing_passes : (len : ℕ) → join_number pool ts q len ≡ 0
  unfolding order_ok named_ok named permutes covers some
  nothing_passes len =
      let every_one : (p : ℕ → Bool) → index.every q.atom_count p ≡ true = λ p. subst (λ (m : ℕ). index.every m p ≡ true) (sym no_atoms) (every_none p) in
      sym (number_0 pool ts q len
      (and_true (leb q.n max_variables) (permutes q.n (order_of q)) (le-leb q.n max_variables (omega arith)) (subst (λ (m : ℕ). permutes m (take m q.order) ≡ true) (sym variables) refl))
      (and_true (leb q.atom_count max_atoms) (leb ts.count max_tables && index.every q.atom_count (names_one ts.count q)) (le-leb q.atom_count max_atoms (omega arith))
      (and_true (leb ts.count max_tables) (index.every q.atom_count (names_one ts.count q)) (le-leb ts.count max_tables few) (every_one (names_one ts.count q))))
      (every_one (list_ok ts q))
      (subst (λ (m : ℕ). covers m (lists_of q) ≡ true) (sym variables) refl)
      (subst (λ (m : ℕ). index.every m (one_kind ts q) ≡ true) (sym variables) (every_none (one_kind ts q)))
      (subst (λ (m : ℕ). whole_rows m len ≡ true) (sym variables) refl)
      (every_all (sound_at pool ts q) ts.count (λ t h. sound_unnamed pool ts q t (subst (λ (m : ℕ). some (names t) (take m q.atoms) ≡ false) (sym no_atoms) refl)))
      (every_one (shape_ok ts q)))

  pub one_empty_row : {window : List ℕ} {r : Joined} {after : List ℕ} → Joins pool ts q window r after → EmptyRow window r after
  unfolding told seeks_at
  one_empty_row {window} j =
      let l : listed pool ts q window ≡ record { words = window; count = 1; full = false } = subst (λ (m : ℕ). windowed window m (listing m (take m q.order) (atoms_of pool ts q)) ≡ record { words = window; count = 1; full = false }) (sym variables) (one window (atoms_of pool ts q)) in
      let o : outcome pool ts q window ≡ told (record { words = window; count = 1; full = false }) = outcome_listed pool ts q window (nothing_passes (length window)) ∙ ap told l in
      record {
        not_refused = j.number ∙ ap (λ (c : Comes). c.number) o;
        one_row = j.rows ∙ ap (λ (c : Comes). c.rows) o;
        no_seeks =
            j.seeks
            ∙ (ap (λ (k : ℕ). seeks_at k (join_seeks q.n (order_of q) (atoms_of pool ts q) window)) (nothing_passes (length window))
            ∙ subst (λ (m : ℕ). join_seeks m (take m q.order) (atoms_of pool ts q) window ≡ 0) (sym variables) (no_seek window (atoms_of pool ts q)));
        untouched = j.words ∙ ap (λ (c : Comes). c.words) o;
      }
