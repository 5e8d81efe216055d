-- The ring of a leapfrog: keys do not fall from place p round. Idea: the least key, put past all the others, leaves a ring that starts at the next place.
use mathlib.Core.Path.{◌≡◌, sym, subst}
use mathlib.Core.Logic.{⊎_elim}
use Prim.Native.Nat.{ℕ, ◌+◌, ◌<◌, ◌≤◌}
use native.Mathlib.Nat.{eq-or-lt_of_le, le_refl}
use native.Mathlib.Decide.{dec_lt}
use native.Mathlib.Omega.{arith}
use Rattle.query.specs.Ring.{Round}

-- the key at p is put past all the others
pub record Passed (κ κ' : ℕ → ℕ) (k p : ℕ) : Type 0 where
  pub others : (j : ℕ) → j < k → (j ≡ p → ⊥) → κ' j ≡ κ j
  pub most : (j : ℕ) → j < k → κ j ≤ κ' p

module _ {κ κ' : ℕ → ℕ} {k p : ℕ} (m : Passed κ κ' k p) where
  below_new : (i : ℕ) → i < k → i ≤ p → κ' i ≤ κ' p
  below_new i h le =
      ⊎_elim (λ e. subst (λ (x : ℕ). κ' i ≤ κ' x) e (le_refl (κ' i)))
      (λ l. omega (arith, m.others i h (λ e. omega arith), m.most i h))
      (eq-or-lt_of_le le)

  pub step : p + 1 < k → Round κ k p → Round κ' k (p + 1)
  step h r = record {
    up = λ i j a b c. omega (arith, m.others i (omega arith) (λ e. omega arith), m.others j c (λ e. omega arith), r.up i j (omega arith) b c);
    wrapped = λ i j a b. ⊎_elim
        (λ e. subst (λ (x : ℕ). κ' i ≤ κ' x) (sym e) (below_new i (omega arith) (omega arith)))
        (λ l. omega (arith, m.others i (omega arith) (λ e. omega arith), m.others j (omega arith) (λ e. omega arith), r.wrapped i j a l))
        (eq-or-lt_of_le {n = j} {m = p} (omega arith));
    over = λ i j a b c. ⊎_elim
        (λ e. subst (λ (x : ℕ). κ' i ≤ κ' x) (sym e) (omega (arith, m.others i c (λ e. omega arith), m.most i c)))
        (λ l. omega (arith, m.others i c (λ e. omega arith), m.others j (omega arith) (λ e. omega arith), r.over i j l (omega arith) c))
        (eq-or-lt_of_le {n = j} {m = p} (omega arith));
  }

  pub turn : p + 1 ≡ k → Round κ k p → Round κ' k 0
  turn h r = record {
    up = λ i j a b c. ⊎_elim
        (λ e. subst (λ (x : ℕ). κ' i ≤ κ' x) (sym e) (below_new i (omega arith) (omega arith)))
        (λ l. omega (arith, m.others i (omega arith) (λ e. omega arith), m.others j c (λ e. omega arith), r.wrapped i j b l))
        (eq-or-lt_of_le {n = j} {m = p} (omega arith));
    wrapped = λ i j a b. absurd (omega arith);
    over = λ i j a b c. absurd (omega arith);
  }

-- z is the place before p, so its key is the greatest: where it agrees with the least, all do
pub agree : {κ : ℕ → ℕ} {k p : ℕ} (z x : ℕ) → p < k → Round κ k p → (p ≡ 0 → z + 1 ≡ k) → (0 < p → z + 1 ≡ p) → z < k → κ p ≡ x → κ z ≡ x → (j : ℕ) → j < k → κ j ≡ x
agree {κ} {k} {p} z x h r first later zk e f j c = go (dec_lt j p) (dec_lt 0 p)
  where
    go : Dec (j < p) → Dec (0 < p) → κ j ≡ x
    go (yes l) o = omega (arith, r.over p j l (le_refl p) h, r.wrapped j z (omega (arith, later (omega arith))) (omega (arith, later (omega arith))))
    go (no l) (yes o) = omega (arith, r.up p j (le_refl p) (omega arith) c, r.over j z (omega (arith, later o)) (omega arith) c)
    go (no l) (no o) = omega (arith, r.up p j (le_refl p) (omega arith) c, r.up j z (omega arith) (omega (arith, first (omega arith))) zk)
