-- The first index at which a test fails: it is that one, and how a loop finds it. And whether a row is among others, as a test and as a fact.
use Prim.Native.Nat.{ℕ, zero, suc, ◌≤◌, ◌<◌}
use native.Mathlib.Omega.{arith}
use mathlib.Core.Path.{◌≡◌, refl, sym, ap, subst, ◌∙◌}
use mathlib.Core.Bool.{Bool, true, false}
use mathlib.Core.List.{List}
use Rattle.relation.specs.Order.{Row, pick}
use Rattle.relation.specs.Lists.{◌∈◌}
use Rattle.relation.specs.Rows.{same}
use Rattle.relation.proofs.Sorting.{same→eq, same_refl}
use Rattle.relation.proofs.Tests.{T_true, true_T, not_both}
use Rattle.query.specs.Checks.{some}
use Rattle.query.proofs.Checks.{some_in, in_some}
use Rattle.listing_verdict.specs.Verdict.{first_fail}

pub fail_le : (n : ℕ) (p : ℕ → Bool) → first_fail n p ≤ n
unfolding first_fail
fail_le zero p = omega arith
fail_le (suc n) p = go (p 0) (fail_le n (λ (i : ℕ). p (suc i)))
  where
    go : (b : Bool) → first_fail n (λ (i : ℕ). p (suc i)) ≤ n → pick b (suc (first_fail n (λ (i : ℕ). p (suc i)))) 0 ≤ suc n
    go true h = omega arith
    go false h = omega arith

pub fail_before : (n : ℕ) (p : ℕ → Bool) (j : ℕ) → j < first_fail n p → p j ≡ true
unfolding first_fail
fail_before zero p j h = absurd (omega arith)
fail_before (suc n) p j h = go (fail_before n (λ (i : ℕ). p (suc i))) (p 0) refl j h
  where
    go : ((j : ℕ) → j < first_fail n (λ (i : ℕ). p (suc i)) → p (suc j) ≡ true) → (b : Bool) → p 0 ≡ b → (j : ℕ) → j < pick b (suc (first_fail n (λ (i : ℕ). p (suc i)))) 0 → p j ≡ true
    go ih false e j h = absurd (omega arith)
    go ih true e zero h = e
    go ih true e (suc j) h = ih j (omega arith)

pub fail_here : (n : ℕ) (p : ℕ → Bool) → first_fail n p < n → p (first_fail n p) ≡ false
unfolding first_fail
fail_here zero p h = absurd (omega arith)
fail_here (suc n) p h = go (fail_here n (λ (i : ℕ). p (suc i))) (p 0) refl h
  where
    go : (first_fail n (λ (i : ℕ). p (suc i)) < n → p (suc (first_fail n (λ (i : ℕ). p (suc i)))) ≡ false) → (b : Bool) → p 0 ≡ b → pick b (suc (first_fail n (λ (i : ℕ). p (suc i)))) 0 < suc n → p (pick b (suc (first_fail n (λ (i : ℕ). p (suc i)))) 0) ≡ false
    go ih false e h = e
    go ih true e h = ih (omega arith)

-- how a loop finds it: an index where it fails, behind those where it does not
pub fail_is : (n : ℕ) (p : ℕ → Bool) (i : ℕ) → i ≤ n → ((j : ℕ) → j < i → p j ≡ true) → (i < n → p i ≡ false) → first_fail n p ≡ i
unfolding first_fail
fail_is zero p i h f g = omega arith
fail_is (suc n) p zero h f g = ap (λ (b : Bool). pick b (suc (first_fail n (λ (i : ℕ). p (suc i)))) 0) (g (omega arith))
fail_is (suc n) p (suc i) h f g =
    ap (λ (b : Bool). pick b (suc (first_fail n (λ (i : ℕ). p (suc i)))) 0) (f 0 (omega arith))
    ∙ ap suc (fail_is n (λ (i : ℕ). p (suc i)) i (omega arith) (λ j k. f (suc j) (omega arith)) (λ k. g (omega arith)))

-- ---- a row among others

pub among_in : (r : Row) (rows : List Row) → some (same r) rows ≡ true → r ∈ rows
among_in r rows e = let t = some_in (same r) rows e in subst (λ (x : Row). x ∈ rows) (sym (same→eq r t.0 (true_T (same r t.0) t.2))) t.1

pub in_among : {r : Row} {rows : List Row} → r ∈ rows → some (same r) rows ≡ true
in_among {r} m = in_some (same r) m (T_true (same r r) (same_refl r))

pub decided : (b : Bool) → (b ≡ true → ⊥) → b ≡ false
decided true f = absurd (f refl)
decided false f = refl

pub not_among : (r : Row) (rows : List Row) → (r ∈ rows → ⊥) → some (same r) rows ≡ false
not_among r rows f = decided (some (same r) rows) (λ e. f (among_in r rows e))

pub among_not : {r : Row} {rows : List Row} → some (same r) rows ≡ false → r ∈ rows → ⊥
among_not {r} {rows} e m = not_both (some (same r) rows) (in_among m) e
