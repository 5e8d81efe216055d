-- Runs that go on: each piece with its tail behind it, by place.
use Prim.Native.Nat.{ℕ, zero, suc, ◌+◌, ◌<◌}
use native.Mathlib.Omega.{arith}
use native.Mathlib.Nat.{le_of_suc-le-suc}
use mathlib.Core.Path.{◌≡◌, refl, sym, ap}
use mathlib.Core.Bool.{Bool, true, false}
use mathlib.Core.List.{List, [], ◌∷◌, ◌++◌, map, append-nil}
use lib.ListN.{length, set, drop, length-append}
use lib.Dec.{ltb}
use Rattle.relation.specs.Order.{pick}
use Rattle.relation.specs.Runs.{from}
use Rattle.query.specs.Meet.{total}
use Rattle.leapfrog.specs.Search.{run_at, first}

pub zipped : List (List ℕ) → List (List ℕ) → List (List ℕ)
zipped [] ts = []
zipped (p ∷ ps) [] = p ∷ zipped ps []
zipped (p ∷ ps) (t ∷ ts) = (p ++ t) ∷ zipped ps ts

pub zipped_length : (ps ts : List (List ℕ)) → length (zipped ps ts) ≡ length ps
unfolding zipped
zipped_length [] ts = refl
zipped_length (p ∷ ps) [] = ap suc (zipped_length ps [])
zipped_length (p ∷ ps) (t ∷ ts) = ap suc (zipped_length ps ts)

pub zipped_at : (ps ts : List (List ℕ)) (j : ℕ) → j < length ps → run_at (zipped ps ts) j ≡ run_at ps j ++ run_at ts j
unfolding zipped
zipped_at [] ts j h = absurd (omega arith)
zipped_at (p ∷ ps) [] zero h = sym (append-nil p)
zipped_at (p ∷ ps) [] (suc j) h = zipped_at ps [] j (le_of_suc-le-suc h)
zipped_at (p ∷ ps) (t ∷ ts) zero h = refl
zipped_at (p ∷ ps) (t ∷ ts) (suc j) h = zipped_at ps ts j (le_of_suc-le-suc h)

-- a piece changed, or a piece and its tail
pub zipped_set : (ps ts : List (List ℕ)) (p : ℕ) (s : List ℕ) → zipped (set ps p s) ts ≡ set (zipped ps ts) p (s ++ run_at ts p)
unfolding zipped
zipped_set [] ts p s = refl
zipped_set (x ∷ ps) [] zero s = ap (λ (r : List ℕ). r ∷ zipped ps []) (sym (append-nil s))
zipped_set (x ∷ ps) [] (suc p) s = ap (λ (rs : List (List ℕ)). x ∷ rs) (zipped_set ps [] p s)
zipped_set (x ∷ ps) (t ∷ ts) zero s = refl
zipped_set (x ∷ ps) (t ∷ ts) (suc p) s = ap (λ (rs : List (List ℕ)). (x ++ t) ∷ rs) (zipped_set ps ts p s)

pub set_twice : {A : Type 0} (l : List A) (p : ℕ) (x y : A) → set (set l p x) p y ≡ set l p y
set_twice [] p x y = refl
set_twice (z ∷ l) zero x y = refl
set_twice (z ∷ l) (suc p) x y = ap (λ (m : List _). z ∷ m) (set_twice l p x y)

pub zipped_total : (ps ts : List (List ℕ)) → length ts ≡ length ps → total (zipped ps ts) ≡ total ps + total ts
unfolding total zipped
zipped_total [] [] e = refl
zipped_total [] (t ∷ ts) e = absurd (omega arith)
zipped_total (p ∷ ps) [] e = absurd (omega arith)
zipped_total (p ∷ ps) (t ∷ ts) e = let h : length ts ≡ length ps = omega arith in omega (arith, zipped_total ps ts h, length-append p t)

pub zipped_map : (f g : ℕ → List ℕ) (l : List ℕ) → map (λ (a : ℕ). f a ++ g a) l ≡ zipped (map f l) (map g l)
unfolding zipped
zipped_map f g [] = refl
zipped_map f g (a ∷ l) = ap (λ (rs : List (List ℕ)). (f a ++ g a) ∷ rs) (zipped_map f g l)

-- ---- a run of two parts, cut at a target

pub from_behind : (t : ℕ) (xs ys : List ℕ) → from t xs ≡ [] → from t (xs ++ ys) ≡ from t ys
unfolding from
from_behind t [] ys e = refl
from_behind t (x ∷ xs) ys e = go (λ i. from_behind t xs ys i) (ltb x t) e
  where
    go : (from t xs ≡ [] → from t (xs ++ ys) ≡ from t ys) → (b : Bool) → pick b (from t xs) (x ∷ xs) ≡ [] → pick b (from t (xs ++ ys)) (x ∷ (xs ++ ys)) ≡ from t ys
    go ih true e = ih e
    go ih false e = absurd (let z = ap length e in omega arith)

pub from_before : (t : ℕ) (xs ys : List ℕ) → (from t xs ≡ [] → ⊥) → from t (xs ++ ys) ≡ from t xs ++ ys
unfolding from
from_before t [] ys n = absurd (n refl)
from_before t (x ∷ xs) ys n = go (λ i. from_before t xs ys i) (ltb x t) n
  where
    go : ((from t xs ≡ [] → ⊥) → from t (xs ++ ys) ≡ from t xs ++ ys) → (b : Bool) → (pick b (from t xs) (x ∷ xs) ≡ [] → ⊥) → pick b (from t (xs ++ ys)) (x ∷ (xs ++ ys)) ≡ pick b (from t xs) (x ∷ xs) ++ ys
    go ih true n = ih n
    go ih false n = refl

pub first_before : (xs ys : List ℕ) → (xs ≡ [] → ⊥) → first (xs ++ ys) ≡ first xs
first_before [] ys n = absurd (n refl)
first_before (x ∷ xs) ys n = refl

pub some_before : (xs ys : List ℕ) → (xs ≡ [] → ⊥) → xs ++ ys ≡ [] → ⊥
some_before [] ys n e = n refl
some_before (x ∷ xs) ys n e = let z = ap length e in omega arith

pub drop_before : (xs ys : List ℕ) → (xs ≡ [] → ⊥) → drop 1 (xs ++ ys) ≡ drop 1 xs ++ ys
drop_before [] ys n = absurd (n refl)
drop_before (x ∷ xs) ys n = refl
