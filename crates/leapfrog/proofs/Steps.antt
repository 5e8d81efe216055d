-- The definition's steps as equations, and the places of a ring.
use Prim.Native.Nat.{ℕ, suc, ◌+◌, ◌-◌, ◌<◌}
use native.Mathlib.Omega.{arith}
use native.Mathlib.Decide.{ℕ_discrete}
use mathlib.Core.Path.{◌≡◌, refl, sym, ap, ◌∙◌}
use mathlib.Core.Bool.{true, false}
use mathlib.Core.List.{List, [], ◌∷◌}
use lib.ListN.{length, set, drop}
use lib.Dec.{ltb}
use borrow.Author.Tests.{eq-eqb, ne_eqb}
use Rattle.relation.specs.Runs.{from}
use Rattle.leapfrog.specs.Search.{on, out, run_at, first, none, place_after, place_before, more, stopped, search_from, place_run}

-- ---- places

pub after_round : (k p : ℕ) → p + 1 ≡ k → place_after k p ≡ 0
after_round k p e = simp (eq-eqb (p + 1) k e)

pub after_next : (k p : ℕ) → (p + 1 ≡ k → ⊥) → place_after k p ≡ p + 1
after_next k p n = simp (ne_eqb (p + 1) k n)

pub after_in : (k p : ℕ) → p < k → place_after k p < k
after_in k p h = go (ℕ_discrete (p + 1) k)
  where
    go : Dec (p + 1 ≡ k) → place_after k p < k
    go (yes e) = rw (after_round k p e) (omega arith)
    go (no n) = rw (after_next k p n) (omega arith)

pub before_first : (k p : ℕ) → p ≡ 0 → place_before k p ≡ k - 1
before_first k p e = simp (eq-eqb p 0 e)

pub before_later : (k p : ℕ) → (p ≡ 0 → ⊥) → place_before k p ≡ p - 1
before_later k p n = simp (ne_eqb p 0 n)

pub before_in : (k p : ℕ) → p < k → place_before k p < k
before_in k p h = go (ℕ_discrete p 0)
  where
    go : Dec (p ≡ 0) → place_before k p < k
    go (yes e) = rw (before_first k p e) (omega arith)
    go (no n) = rw (before_later k p n) (omega arith)

pub after_before : (k p : ℕ) → p < k → place_after k (place_before k p) ≡ p
after_before k p h = go (ℕ_discrete p 0)
  where
    go : Dec (p ≡ 0) → place_after k (place_before k p) ≡ p
    go (yes e) = rw (before_first k p e) (after_round k (k - 1) (omega arith) ∙ sym e)
    go (no n) = rw (before_later k p n) (after_next k (p - 1) (omega arith) ∙ omega arith)

pub before_after : (k p : ℕ) → p < k → place_before k (place_after k p) ≡ p
before_after k p h = go (ℕ_discrete (p + 1) k)
  where
    go : Dec (p + 1 ≡ k) → place_before k (place_after k p) ≡ p
    go (yes e) = rw (after_round k p e) (omega arith)
    go (no n) = rw (after_next k p n) (before_later k (p + 1) (omega arith) ∙ omega arith)

-- ---- runs that have a key or not

pub none_not : (r : List ℕ) → (r ≡ [] → ⊥) → none r ≡ false
none_not [] n = absurd (n refl)
none_not (x ∷ xs) n = refl

pub none_is : (r : List ℕ) → r ≡ [] → none r ≡ true
none_is r e = ap none e

pub some_cons : (r : List ℕ) → (r ≡ [] → ⊥) → r ≡ first r ∷ drop 1 r
some_cons [] n = absurd (n refl)
some_cons (x ∷ xs) n = refl

pub cons_some : (r : List ℕ) {x : ℕ} {xs : List ℕ} → r ≡ x ∷ xs → r ≡ [] → ⊥
cons_some r e d = let z : ◌≡◌ {A = ℕ} 0 1 = ap length (sym d ∙ e) ∙ absurd (omega (arith, ap length (sym d ∙ e))) in omega arith

-- ---- the search's steps

module _ (fuel : ℕ) (runs : List (List ℕ)) (p most : ℕ) where
  pub step_found : first (run_at runs p) ≡ most → search_from (suc fuel) runs p most ≡ stopped runs p (on most)
  unfolding search_from
  step_found e = simp (eq-eqb (first (run_at runs p)) most e)

  module _ (apart : first (run_at runs p) ≡ most → ⊥) where
    pub step_out : from most (run_at runs p) ≡ [] → search_from (suc fuel) runs p most ≡ more 1 (stopped (set runs p (from most (run_at runs p))) p out)
    unfolding search_from
    step_out e = simp (ne_eqb (first (run_at runs p)) most apart, none_is (from most (run_at runs p)) e)

    pub step_on : (from most (run_at runs p) ≡ [] → ⊥) → search_from (suc fuel) runs p most ≡ more 1 (search_from fuel (set runs p (from most (run_at runs p))) (place_after (length runs) p) (first (from most (run_at runs p))))
    unfolding search_from
    step_on n = simp (ne_eqb (first (run_at runs p)) most apart, none_not (from most (run_at runs p)) n)

-- ---- the sort's steps

module _ (r s : List ℕ) (ss : List (List ℕ)) where
  pub place_before_lem : ltb (first r) (first s) ≡ true → place_run r (s ∷ ss) ≡ r ∷ (s ∷ ss)
  unfolding place_run
  place_before_lem q = simp (place_run, q)

  pub place_behind : ltb (first r) (first s) ≡ false → place_run r (s ∷ ss) ≡ s ∷ place_run r ss
  unfolding place_run
  place_behind q = simp (place_run, q)
