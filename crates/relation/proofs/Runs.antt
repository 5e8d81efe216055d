-- What is left of a run of keys from a target on: its keys, and how it goes on ascending.
-- Idea: a run is cut key by key, so each law goes down the run by the test of its first key.
use Prim.Native.Nat.{ℕ, zero, suc, ◌≤◌, ◌<◌}
use native.Mathlib.Omega.{arith}
use native.Mathlib.Nat.{le_of_suc-le-suc}
use mathlib.Core.Path.{◌≡◌, refl, ap, ◌∙◌}
use mathlib.Core.Logic.{⊎_elim}
use mathlib.Core.Bool.{Bool, true, false}
use mathlib.Core.List.{List, [], ◌∷◌}
use lib.ListN.{length, get_or, drop}
use lib.Dec.{ltb}
use borrow.Author.Tests.{ltb-true, ltb-false, lt-ltb, le-ltb}
use Rattle.relation.specs.Order.{pick}
use Rattle.relation.specs.Lists.{◌∈◌, tl, not_in_nil, in_cons, Ascends, anone, amore}
use Rattle.relation.specs.Runs.{from}
use Rattle.relation.proofs.Lists.{ascends_head}

pub in_from : (t : ℕ) (xs : List ℕ) {k : ℕ} → k ∈ from t xs → k ∈ xs
unfolding from
in_from t [] m = m
in_from t (x ∷ xs) {k} m = go (λ i. in_from t xs i) (ltb x t) m
  where
    go : (k ∈ from t xs → k ∈ xs) → (b : Bool) → k ∈ pick b (from t xs) (x ∷ xs) → k ∈ (x ∷ xs)
    go ih true i = tl (ih i)
    go ih false i = i

pub from_in : (t : ℕ) (xs : List ℕ) {k : ℕ} → t ≤ k → k ∈ xs → k ∈ from t xs
unfolding from
from_in t [] h m = m
from_in t (x ∷ xs) {k} h m = go (λ i. from_in t xs h i) (ltb x t) refl
  where
    go : (k ∈ xs → k ∈ from t xs) → (b : Bool) → ltb x t ≡ b → k ∈ pick b (from t xs) (x ∷ xs)
    go ih true q = ⊎_elim (λ (e : k ≡ x). absurd (omega (arith, ltb-true x t q))) (λ (i : k ∈ xs). ih i) (in_cons m)
    go ih false q = m

pub from_ascends : (t : ℕ) {xs : List ℕ} → Ascends ◌<◌ xs → Ascends ◌<◌ (from t xs)
unfolding from
from_ascends t anone = anone
from_ascends t (amore {r = x} {rs = xs} f s) = go (from_ascends t s) (ltb x t)
  where
    go : Ascends ◌<◌ (from t xs) → (b : Bool) → Ascends ◌<◌ (pick b (from t xs) (x ∷ xs))
    go ih true = ih
    go ih false = amore f s

-- in an ascending run nothing below the target is left
pub from_least : (t : ℕ) {xs : List ℕ} {k : ℕ} → Ascends ◌<◌ xs → k ∈ from t xs → t ≤ k
unfolding from
from_least t anone m = absurd (not_in_nil m)
from_least t {k = k} (amore {r = x} {rs = xs} f s) m = go (λ i. from_least t s i) (ltb x t) refl m
  where
    go : (k ∈ from t xs → t ≤ k) → (b : Bool) → ltb x t ≡ b → k ∈ pick b (from t xs) (x ∷ xs) → t ≤ k
    go ih true q i = ih i
    go ih false q i = ⊎_elim (λ (e : k ≡ x). omega (arith, ltb-false x t q)) (λ (j : k ∈ xs). omega (arith, ltb-false x t q, f k j)) (in_cons i)

-- a seek's offset d: every key before it is below the target, and the one at it is not
pub from_drop : (t : ℕ) (xs : List ℕ) (d : ℕ) → d ≤ length xs → ((i : ℕ) → i < d → get_or xs i 0 < t) → (d < length xs → t ≤ get_or xs d 0) → from t xs ≡ drop d xs
unfolding from
from_drop t [] zero h f g = refl
from_drop t [] (suc d) h f g = refl
from_drop t (x ∷ xs) zero h f g = ap (λ (b : Bool). pick b (from t xs) (x ∷ xs)) (le-ltb x t (g (omega arith)))
from_drop t (x ∷ xs) (suc d) h f g =
    ap (λ (b : Bool). pick b (from t xs) (x ∷ xs)) (lt-ltb x t (f 0 (omega arith)))
    ∙ from_drop t xs d (le_of_suc-le-suc h) (λ i l. f (suc i) (omega arith)) (λ l. g (omega arith))

-- the head of an ascending run is its least key
pub head_least : {x : ℕ} {xs : List ℕ} → Ascends ◌<◌ (x ∷ xs) → (k : ℕ) → k ∈ (x ∷ xs) → x ≤ k
head_least {x} {xs} h k m = ⊎_elim (λ (e : k ≡ x). omega arith) (λ (i : k ∈ xs). omega (arith, ascends_head h k i)) (in_cons m)

-- a seek past the head leaves fewer keys
pub from_shorter : (t x : ℕ) (xs : List ℕ) → x < t → length (from t (x ∷ xs)) ≤ length xs
unfolding from
from_shorter t x xs h = rw (lt-ltb x t h) (short t xs)
  where
    short : (t : ℕ) (xs : List ℕ) → length (from t xs) ≤ length xs
    short t [] = omega arith
    short t (y ∷ ys) = go (short t ys) (ltb y t)
      where
        go : length (from t ys) ≤ length ys → (b : Bool) → length (pick b (from t ys) (y ∷ ys)) ≤ suc (length ys)
        go ih true = omega arith
        go ih false = omega arith
