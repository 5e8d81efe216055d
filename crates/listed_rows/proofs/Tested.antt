-- A row of words is an answer exactly when every test of the plain engine holds of it, at each variable: an atom is tested where its last variable has its word.
use Prim.Native.Nat.{ℕ, suc, ◌≤◌, ◌<◌}
use mathlib.Core.Path.{◌≡◌, refl, sym, ap, subst, ◌∙◌}
use mathlib.Core.Logic.{⊎_elim}
use mathlib.Core.Bool.{Bool, true, false}
use mathlib.Core.List.{List, [], ◌∷◌, ◌++◌}
use lib.ListN.{length, take, drop}
use lib.Seq.{get_or-take, length-take-le, split_at}
use Rattle.relation.specs.Order.{Row}
use Rattle.relation.specs.Lists.{◌∈◌, hd, tl, not_in_nil, in_cons}
use Rattle.relation.specs.Rows.{same}
use Rattle.relation.proofs.Lists.{get_or_in, in_get_or}
use Rattle.relation.proofs.Tests.{not_both}
use Rattle.query.specs.Checks.{some}
use Rattle.query.specs.Meaning.{Atom, part, Answer, Passes, Listing}
use Rattle.query.specs.Solve.{listing}
use Rattle.query.proofs.Listed.{listing_listing}
use Rattle.query.proofs.Perm.{cover}
use Rattle.query.proofs.Solved.{follow_in}
use Rattle.plain.specs.Plain.{all_hold}
use Rattle.plain.proofs.Columns.{column_in}
use Rattle.plain.proofs.Plain.{part_same, further, key_of, passing, at_next}
use Rattle.listing_verdict.proofs.Fails.{among_in, in_among, decided}

module _ {n : ℕ} {order : List ℕ} {atoms : List Atom} (q : Passes n order atoms) (row : Row) where
  -- an atom with one of the variables vs has its part among its rows, where the tests hold at vs
  stored : (us vs : List ℕ) → order ≡ us ++ vs → ((x : ℕ) → x ∈ vs → all_hold x row atoms ≡ true) → (a : Atom) → a ∈ atoms → {x : ℕ} → x ∈ a.vars → x ∈ vs → part a.vars row ∈ a.rows
  stored us [] o f a i j l = absurd (not_in_nil l)
  stored us (v ∷ vs) o f a i {x} j l =
      let later : (y : ℕ) → y ∈ a.vars → y ∈ vs → part a.vars row ∈ a.rows = λ y p k. stored (us ++ v ∷ []) vs (further q us v vs o) (λ z m. f z (tl m)) a i p k in
      ⊎_elim {C = part a.vars row ∈ a.rows}
      (λ (e : x ≡ v). at_next q us v vs o row (f v (hd refl)) row (λ y h g. refl) a i (column_in v a.vars (subst (λ (y : ℕ). y ∈ a.vars) e j)) later)
      (λ (k : x ∈ vs). later x j k)
      (in_cons l)

  tests_answer : ((v : ℕ) → v < n → all_hold v row atoms ≡ true) → Answer atoms row
  tests_answer f a i =
      let j = get_or_in a.vars 0 0 (q.tables a i).positive in
      stored [] order refl (λ x m. f x (q.permutation.below x m)) a i j (follow_in order a.vars (q.follow a i) j)

  answer_tests : Answer atoms row → (v : ℕ) → v < n → all_hold v row atoms ≡ true
  answer_tests g v h =
      let t = in_get_or 0 (cover q.permutation v h) in
      let o : order ≡ take t.0 order ++ v ∷ drop (suc t.0) order = split_at order t.0 0 t.1 ∙ ap (λ (x : ℕ). take t.0 order ++ x ∷ drop (suc t.0) order) t.2 in
      passing q (take t.0 order) v (drop (suc t.0) order) o row (λ a i c. key_of q (take t.0 order) v (drop (suc t.0) order) o a i c row row (λ x m. refl) (g a i))

  -- the words past n are in no part
  part_front : (a : Atom) → a ∈ atoms → part a.vars (take n row) ≡ part a.vars row
  part_front a i = part_same a.vars (take n row) row (λ x m. get_or-take n row x 0 (q.permutation.below x (follow_in order a.vars (q.follow a i) m)))

  abbrev is_answer : Bool
  is_answer = some (same (take n row)) (listing n order atoms)

  lists : Listing n order atoms (listing n order atoms)
  lists = listing_listing q

  pub all_pass : n ≤ length row → ((v : ℕ) → v < n → all_hold v row atoms ≡ true) → true ≡ some (same (take n row)) (listing n order atoms)
  all_pass h f =
      sym (in_among (lists.complete (take n row) (length-take-le n row h) (λ a i. rw (part_front a i) (tests_answer f a i))))

  pub one_fails : (v : ℕ) → v < n → all_hold v row atoms ≡ false → false ≡ some (same (take n row)) (listing n order atoms)
  one_fails v h e =
      sym (decided is_answer (λ t.
      let g : Answer atoms row = λ a i. subst (λ (p : Row). p ∈ a.rows) (part_front a i) (lists.sound (take n row) (among_in (take n row) (listing n order atoms) t) a i) in
      not_both (all_hold v row atoms) (answer_tests g v h) e))
