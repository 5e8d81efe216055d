-- Checks made in sequence: an answer is given exactly when the facts before it hold and its own does not. A check is a test b of a fact P; where b fails
-- its answer k is given, else that of the checks behind it, m.
use mathlib.Core.Path.{◌≡◌, refl, sym, ◌∙◌}
use mathlib.Core.Bool.{Bool, true, false, not}
use mathlib.Core.Logic.{◌⊎◌, inl, inr}
use Rattle.relation.specs.Order.{pick}
use Rattle.relation.specs.Exactly.{Exactly}
use Rattle.relation.proofs.Tests.{not_both}

-- by way of a third
pub exactly_then : {P Q R : Type 0} → Exactly P Q → Exactly Q R → Exactly P R
exactly_then f g = (λ p. g.0 (f.0 p), λ r. f.1 (g.1 r))

-- of equal values one is n exactly when the other is
pub exactly_same : {A : Type 0} {x y n : A} → x ≡ y → Exactly (x ≡ n) (y ≡ n)
exactly_same e = (λ p. sym e ∙ p, λ p. e ∙ p)

-- code asks whether a check failed
pub turned : {A : Type 0} (b : Bool) (k m : A) → pick (not b) k m ≡ pick b m k
turned true k m = refl
turned false k m = refl

module _ (b : Bool) {P : Type 0} (d : Exactly (b ≡ true) P) {A : Type 0} (k m : A) where
  -- the check's own answer
  pub here : (m ≡ k → ⊥) → Exactly (pick b m k ≡ k) (P → ⊥)
  here other = go b d
    where
      go : (c : Bool) → Exactly (c ≡ true) P → Exactly (pick c m k ≡ k) (P → ⊥)
      go true f = (λ e. absurd (other e), λ n. absurd (n (f.0 refl)))
      go false f = (λ e p. not_both false (f.1 p) refl, λ n. refl)

  -- an answer of those behind it
  pub later : (n : A) {Q : Type 0} → (k ≡ n → ⊥) → (P → Exactly (m ≡ n) Q) → Exactly (pick b m k ≡ n) (P × Q)
  later n {Q} other g = go b d
    where
      go : (c : Bool) → Exactly (c ≡ true) P → Exactly (pick c m k ≡ n) (P × Q)
      go true f = let p = f.0 refl in (λ e. (p, (g p).0 e), λ t. (g p).1 t.1)
      go false f = (λ e. absurd (other e), λ t. not_both false (f.1 t.0) refl)

  -- its own answer, which one behind it gives too
  pub here_or_later : {Q : Type 0} → (P → Exactly (m ≡ k) Q) → Exactly (pick b m k ≡ k) ((P → ⊥) ⊎ (P × Q))
  here_or_later {Q} g = go b d
    where
      back : (c : Bool) → Exactly (c ≡ true) P → (P → ⊥) ⊎ (P × Q) → pick c m k ≡ k
      back true f (inl n) = absurd (n (f.0 refl))
      back true f (inr t) = (g t.0).1 t.1
      back false f w = refl

      go : (c : Bool) → Exactly (c ≡ true) P → Exactly (pick c m k ≡ k) ((P → ⊥) ⊎ (P × Q))
      go true f = let p = f.0 refl in (λ e. inr (p, (g p).0 e), back true f)
      go false f = (λ e. inl (λ p. not_both false (f.1 p) refl), back false f)

-- an answer that neither gives
pub neither : {A : Type 0} (b : Bool) (k m n : A) → (k ≡ n → ⊥) → (m ≡ n → ⊥) → pick b m k ≡ n → ⊥
neither true k m n f g e = g e
neither false k m n f g e = f e
