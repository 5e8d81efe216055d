-- The test of all atoms, from some atom on. A loop over the atoms takes the first of those left off at each turn; and for a key that is tried, the atoms up to the one that
-- gave it pass: those before it do not hold the variable, and the keys of its own do not depend on the variable's word.
use Prim.Native.Nat.{ℕ, zero, suc, ◌+◌, ◌≤◌, ◌<◌}
use native.Mathlib.Omega.{arith}
use native.Mathlib.Numerals.{add-one}
use mathlib.Core.Path.{◌≡◌, refl, sym, ap, ◌∙◌}
use mathlib.Core.Bool.{Bool, true, false, ◌&&◌}
use mathlib.Core.List.{List, [], ◌∷◌, flat_map}
use lib.ListN.{length, get_or, set, take, drop, drop_of_length-le}
use lib.Seq.{get_or-set_same, get_or-set_other, set-set, drop-cons}
use lib.Dec.{eqb, ltb}
use borrow.Author.Tests.{eqb-true, eqb-false, ltb-false}
use Rattle.relation.specs.Order.{Row, pick}
use Rattle.relation.specs.Lists.{◌∈◌}
use Rattle.relation.specs.Layers.{keys_under}
use Rattle.relation.specs.Tests.{every}
use Rattle.query.specs.Meaning.{Atom, part}
use Rattle.query.specs.Descend.{nobody}
use Rattle.query.specs.Meet.{has}
use Rattle.query.proofs.Meet.{in_has}
use Rattle.plain.specs.Plain.{column, holder, keys_at, tried, holds, all_hold, plainly}

-- the words before v's are the same, whatever the row has for v
part_before : (v : ℕ) (xs : List ℕ) (row : Row) (k : ℕ) → take (column v xs) (part xs (set row v k)) ≡ take (column v xs) (part xs row)
unfolding column
part_before v [] row k = refl
part_before v (x ∷ xs) row k = go (eqb x v) refl (part_before v xs row k)
  where
    go : (b : Bool) → eqb x v ≡ b → take (column v xs) (part xs (set row v k)) ≡ take (column v xs) (part xs row) → take (pick b 0 (suc (column v xs))) (part (x ∷ xs) (set row v k)) ≡ take (pick b 0 (suc (column v xs))) (part (x ∷ xs) row)
    go true e ih = refl
    go false e ih = ap (λ (y : ℕ). y ∷ take (column v xs) (part xs (set row v k))) (get_or-set_other row v x k 0 (eqb-false x v e)) ∙ ap (λ (l : List ℕ). get_or row x 0 ∷ l) ih

-- a test at every index is the test at the first and at those behind it
every_first : (n : ℕ) (p : ℕ → Bool) → every (suc n) p ≡ (p 0 && every n (λ (i : ℕ). p (suc i)))
unfolding every
every_first zero p = go (p 0)
  where
    go : (b : Bool) → (true && b) ≡ (b && true)
    go true = refl
    go false = refl
every_first (suc n) p = ap (λ (b : Bool). b && p (suc n)) (every_first n p) ∙ go (p 0) (every n (λ (i : ℕ). p (suc i))) (p (suc n))
  where
    go : (a b c : Bool) → ((a && b) && c) ≡ (a && (b && c))
    go true b c = refl
    go false b c = refl

module _ (v : ℕ) (row : Row) where
  all_first : (a : Atom) (l : List Atom) → all_hold v row (a ∷ l) ≡ (holds v row a && all_hold v row l)
  unfolding all_hold
  all_first a l = every_first (length l) (λ (i : ℕ). holds v row (get_or (a ∷ l) i nobody))

  -- ---- the atoms from number i on, as a loop tests them

  module _ (atoms : List Atom) (i : ℕ) where
    pub rest_none : length atoms ≤ i → all_hold v row (drop i atoms) ≡ true
    unfolding all_hold every
    rest_none h = ap (all_hold v row) (drop_of_length-le atoms {i = i} h)

    pub rest_next : i < length atoms → all_hold v row (drop i atoms) ≡ (holds v row (get_or atoms i nobody) && all_hold v row (drop (i + 1) atoms))
    rest_next h =
        ap (all_hold v row) (drop-cons atoms i nobody h)
        ∙ all_first (get_or atoms i nobody) (drop (suc i) atoms)
        ∙ ap (λ (n : ℕ). holds v row (get_or atoms i nobody) && all_hold v row (drop n atoms)) (sym (add-one i))

-- ---- a key that is tried: what the row had for v has no part in it

module _ (v : ℕ) (row : Row) (k : ℕ) where
  keys_before : (a : Atom) → keys_at v (set row v k) a ≡ keys_at v row a
  unfolding keys_at
  keys_before a = ap (λ (p : Row). keys_under p a.rows) (part_before v a.vars row k)

  pub tried_before : (atoms : List Atom) → tried v (set row v k) atoms ≡ tried v row atoms
  unfolding tried
  tried_before atoms = keys_before (get_or atoms (holder v atoms) nobody)

  pub plainly_before : (n : ℕ) (vs : List ℕ) (atoms : List Atom) → plainly n (v ∷ vs) atoms (set row v k) ≡ plainly n (v ∷ vs) atoms row
  unfolding plainly
  plainly_before n vs atoms i = flat_map (λ (x : ℕ). pick (all_hold v (set-set row v k x i) atoms) (plainly n vs atoms (set-set row v k x i)) []) (tried_before atoms i)

  -- an atom that does not hold v is not looked at; one that has the key passes
  free : (a : Atom) → length a.vars ≤ column v a.vars → holds v (set row v k) a ≡ true
  unfolding holds
  free a h = go (eqb (suc (column v a.vars)) (length a.vars)) refl
    where
      go : (b : Bool) → eqb (suc (column v a.vars)) (length a.vars) ≡ b → pick b (has (keys_at v (set row v k) a) (get_or (set row v k) v 0)) true ≡ true
      go true e = absurd (omega (arith, eqb-true (suc (column v a.vars)) (length a.vars) e))
      go false e = refl

  module _ (h : v < length row) where
    giver : (a : Atom) → k ∈ keys_at v row a → holds v (set row v k) a ≡ true
    unfolding holds
    giver a m = go (eqb (suc (column v a.vars)) (length a.vars))
      where
        there : has (keys_at v (set row v k) a) (get_or (set row v k) v 0) ≡ true
        there = in_has {k = get_or (set row v k) v 0} {xs = keys_at v (set row v k) a} (rw (keys_before a, get_or-set_same row v k 0 h) m)

        go : (b : Bool) → pick b (has (keys_at v (set row v k) a) (get_or (set row v k) v 0)) true ≡ true
        go true = there
        go false = refl

    pub behind_holder : (atoms : List Atom) → k ∈ tried v row atoms → all_hold v (set row v k) atoms ≡ all_hold v (set row v k) (drop (suc (holder v atoms)) atoms)
    unfolding tried holder
    behind_holder [] m = refl
    behind_holder (a ∷ l) m = go (λ i. behind_holder l i) (ltb (column v a.vars) (length a.vars)) refl m
      where
        passes : holds v (set row v k) a ≡ true → all_hold v (set row v k) (a ∷ l) ≡ all_hold v (set row v k) l
        passes e = all_first v (set row v k) a l ∙ ap (λ (b : Bool). b && all_hold v (set row v k) l) e

        go : (k ∈ tried v row l → all_hold v (set row v k) l ≡ all_hold v (set row v k) (drop (suc (holder v l)) l)) → (b : Bool) → ltb (column v a.vars) (length a.vars) ≡ b → k ∈ keys_at v row (get_or (a ∷ l) (pick b 0 (suc (holder v l))) nobody) → all_hold v (set row v k) (a ∷ l) ≡ all_hold v (set row v k) (drop (suc (pick b 0 (suc (holder v l)))) (a ∷ l))
        go ih true e m = passes (giver a m)
        go ih false e m = passes (free a (omega (arith, ltb-false (column v a.vars) (length a.vars) e))) ∙ ih m
