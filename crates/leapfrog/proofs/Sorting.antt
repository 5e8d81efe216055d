-- The laws of the sort of runs: it keeps the runs and their number, and first keys do not fall along it.
-- Idea: each law is one of `placeRun`, carried over the runs placed.
use Prim.Native.Nat.{ℕ, zero, suc, ◌≤◌, ◌<◌}
use native.Mathlib.Omega.{arith}
use native.Mathlib.Nat.{eq-or-lt_of_le, le_of_suc-le-suc}
use mathlib.Core.Path.{◌≡◌, refl, sym, subst, ap, ◌∙◌}
use mathlib.Core.Logic.{◌⊎◌, inl, inr, ⊎_elim}
use mathlib.Core.Bool.{Bool, true, false}
use mathlib.Core.List.{List, [], ◌∷◌}
use lib.ListN.{length, get_or}
use lib.Dec.{ltb}
use borrow.Author.Tests.{ltb-true, ltb-false}
use Rattle.relation.specs.Lists.{◌∈◌, hd, tl, not_in_nil, in_cons, Ascends, anone, amore}
use Rattle.query.proofs.Meet.{get_or_in}
use Rattle.leapfrog.specs.Search.{first, place_run, sorted_runs}
use Rattle.leapfrog.proofs.Steps.{place_before_lem, place_behind}

abbrev Rises : List (List ℕ) → Type 0
Rises rs = Ascends (λ (a b : List ℕ). first a ≤ first b) rs

module _ (r : List ℕ) where
  place_length : (ss : List (List ℕ)) → length (place_run r ss) ≡ suc (length ss)
  unfolding place_run
  place_length [] = refl
  place_length (s ∷ ss) = go (place_length ss) (ltb (first r) (first s)) refl
    where
      go : length (place_run r ss) ≡ suc (length ss) → (t : Bool) → ltb (first r) (first s) ≡ t → length (place_run r (s ∷ ss)) ≡ suc (suc (length ss))
      go ih true q = ap length (place_before_lem r s ss q)
      go ih false q = ap length (place_behind r s ss q) ∙ ap suc ih

  place_in : (ss : List (List ℕ)) {x : List ℕ} → x ∈ place_run r ss → (x ≡ r) ⊎ (x ∈ ss)
  unfolding place_run
  place_in [] m = in_cons m
  place_in (s ∷ ss) {x} m = go (λ i. place_in ss i) (ltb (first r) (first s)) refl m
    where
      go : (x ∈ place_run r ss → (x ≡ r) ⊎ (x ∈ ss)) → (t : Bool) → ltb (first r) (first s) ≡ t → x ∈ place_run r (s ∷ ss) → (x ≡ r) ⊎ (x ∈ (s ∷ ss))
      go ih true q m = in_cons (subst (λ (l : List (List ℕ)). x ∈ l) (place_before_lem r s ss q) m)
      go ih false q m =
          ⊎_elim (λ (e : x ≡ s). inr (hd e)) (λ (i : x ∈ place_run r ss). ⊎_elim (λ (e : x ≡ r). inl e) (λ (j : x ∈ ss). inr (tl j)) (ih i))
          (in_cons (subst (λ (l : List (List ℕ)). x ∈ l) (place_behind r s ss q) m))

  in_place : (ss : List (List ℕ)) {x : List ℕ} → (x ≡ r) ⊎ (x ∈ ss) → x ∈ place_run r ss
  unfolding place_run
  in_place [] {x} o = ⊎_elim (λ (e : x ≡ r). hd e) (λ (m : x ∈ []). absurd (not_in_nil m)) o
  in_place (s ∷ ss) {x} o = go (λ i. in_place ss i) (ltb (first r) (first s)) refl
    where
      go : ((x ≡ r) ⊎ (x ∈ ss) → x ∈ place_run r ss) → (t : Bool) → ltb (first r) (first s) ≡ t → x ∈ place_run r (s ∷ ss)
      go ih true q = subst (λ (l : List (List ℕ)). x ∈ l) (sym (place_before_lem r s ss q)) (⊎_elim (λ (e : x ≡ r). hd e) (λ (m : x ∈ (s ∷ ss)). tl m) o)
      go ih false q =
          subst (λ (l : List (List ℕ)). x ∈ l) (sym (place_behind r s ss q))
          (⊎_elim (λ (e : x ≡ r). tl (ih (inl e))) (λ (m : x ∈ (s ∷ ss)). ⊎_elim (λ (e : x ≡ s). hd e) (λ (i : x ∈ ss). tl (ih (inr i))) (in_cons m)) o)

  place_rises : {ss : List (List ℕ)} → Rises ss → Rises (place_run r ss)
  unfolding place_run
  place_rises anone = amore (λ q m. absurd (not_in_nil m)) anone
  place_rises (amore {r = s} {rs = ss} f a) = go (place_rises a) (ltb (first r) (first s)) refl
    where
      go : Rises (place_run r ss) → (t : Bool) → ltb (first r) (first s) ≡ t → Rises (place_run r (s ∷ ss))
      go ih true q =
          subst Rises (sym (place_before_lem r s ss q))
          (amore (λ c m. ⊎_elim (λ (e : c ≡ s). rw e (omega (arith, ltb-true (first r) (first s) q))) (λ (i : c ∈ ss). omega (arith, ltb-true (first r) (first s) q, f c i)) (in_cons m)) (amore f a))
      go ih false q =
          subst Rises (sym (place_behind r s ss q))
          (amore (λ c m. ⊎_elim (λ (e : c ≡ r). rw e (ltb-false (first r) (first s) q)) (λ (i : c ∈ ss). f c i) (place_in ss m)) ih)

module _ (runs : List (List ℕ)) where
  pub sorted_length : (k : ℕ) → length (sorted_runs runs k) ≡ k
  unfolding sorted_runs
  sorted_length zero = refl
  sorted_length (suc k) = place_length (get_or runs k []) (sorted_runs runs k) ∙ ap suc (sorted_length k)

  pub sorted_in : (k : ℕ) → k ≤ length runs → {x : List ℕ} → x ∈ sorted_runs runs k → x ∈ runs
  unfolding sorted_runs
  sorted_in zero h m = absurd (not_in_nil m)
  sorted_in (suc k) h {x} m =
      ⊎_elim (λ (e : x ≡ get_or runs k []). rw e (get_or_in runs k [] h)) (λ (i : x ∈ sorted_runs runs k). sorted_in k (omega arith) i)
      (place_in (get_or runs k []) (sorted_runs runs k) m)

  pub in_sorted : (k j : ℕ) → j < k → get_or runs j [] ∈ sorted_runs runs k
  unfolding sorted_runs
  in_sorted zero j h = absurd (omega arith)
  in_sorted (suc k) j h =
      in_place (get_or runs k []) (sorted_runs runs k)
      (⊎_elim (λ (e : j ≡ k). inl (ap (λ (i : ℕ). get_or runs i []) e)) (λ (l : j < k). inr (in_sorted k j l)) (eq-or-lt_of_le (le_of_suc-le-suc h)))

  pub sorted_rises : (k : ℕ) → Rises (sorted_runs runs k)
  unfolding sorted_runs
  sorted_rises zero = anone
  sorted_rises (suc k) = place_rises (get_or runs k []) (sorted_rises k)

-- by place
pub rises_at : {rs : List (List ℕ)} → Rises rs → (i j : ℕ) → i < j → j < length rs → first (get_or rs i []) ≤ first (get_or rs j [])
rises_at anone i j h g = absurd (omega arith)
rises_at (amore f s) zero zero h g = absurd (omega arith)
rises_at (amore {rs = l} f s) zero (suc j) h g = f (get_or l j []) (get_or_in l j [] (le_of_suc-le-suc g))
rises_at (amore f s) (suc i) zero h g = absurd (omega arith)
rises_at (amore f s) (suc i) (suc j) h g = rises_at s i j (le_of_suc-le-suc h) (le_of_suc-le-suc g)
