-- A test at every index: what a loop that makes it knows, turn by turn, and what it comes to; beside it the laws of tests that it needs.
use Prim.Native.Nat.{ℕ, zero, suc, ◌+◌, ◌≤◌, ◌<◌}
use mathlib.Core.Path.{◌≡◌, refl, sym, ap, ◌∙◌}
use mathlib.Core.Bool.{Bool, true, false, not, ◌&&◌, ◌||◌}
use mathlib.Core.Logic.{⊎_elim}
use native.Mathlib.Omega.{arith}
use native.Mathlib.Nat.{eq-or-lt_of_le}
use native.Mathlib.Numerals.{add-one}
use lib.Dec.{T}
use borrow.Author.Tests.{not-true, not-false}
use Rattle.relation.specs.Tests.{every}

pub T_true : (b : Bool) → T b → b ≡ true
T_true true t = refl
T_true false t = absurd t

pub true_T : (b : Bool) → b ≡ true → T b
true_T true e = tt
true_T false e = let z : ◌≡◌ {A = ℕ} 0 1 = cc in absurd (omega arith)

-- what is false is not true
pub not_both {ℓ} : {A : Type ℓ} (b : Bool) → b ≡ true → b ≡ false → A
not_both b p q = let z : ◌≡◌ {A = ℕ} 0 1 = cc in absurd (omega arith)

pub and_true : (a b : Bool) → a ≡ true → b ≡ true → (a && b) ≡ true
and_true true b p q = q
and_true false b p q = p

pub and_left : (a b : Bool) → (a && b) ≡ true → a ≡ true
and_left true b e = refl
and_left false b e = e

pub and_right : (a b : Bool) → (a && b) ≡ true → b ≡ true
and_right true b e = e
and_right false b e = not_both false e refl

pub and_false_left : (a b : Bool) → a ≡ false → (a && b) ≡ false
and_false_left a b e = ap (λ (x : Bool). x && b) e

pub and_false_right : (a b : Bool) → b ≡ false → (a && b) ≡ false
and_false_right true b e = e
and_false_right false b e = refl

pub or_right : (a b : Bool) → b ≡ true → (a || b) ≡ true
or_right true b e = refl
or_right false b e = e

-- a test b behind a test a, for code that makes them one after the other
pub gate_shut : (a b : Bool) → a ≡ false → false ≡ (a && b)
gate_shut a b e = sym (and_false_left a b e)

pub gate_open : (a b r : Bool) → a ≡ true → r ≡ b → r ≡ (a && b)
gate_open a b r e f = f ∙ ap (λ (x : Bool). x && b) (sym e)

-- what code knows of a test t, once it went by its result r
pub passed : {r t : Bool} → r ≡ t → not r ≡ false → t ≡ true
passed {r} e h = sym e ∙ not-false r h

pub failed : {r t : Bool} → r ≡ t → not r ≡ true → t ≡ false
failed {r} e h = sym e ∙ not-true r h

module _ (p : ℕ → Bool) where
  -- no index yet; one index more
  pub every_none : every 0 p ≡ true
  unfolding every
  every_none = refl

  pub every_more : (n : ℕ) → every n p ≡ true → p n ≡ true → every (n + 1) p ≡ true
  unfolding every
  every_more n e h = ap (λ (m : ℕ). every m p) (add-one n) ∙ and_true (every n p) (p n) e h

  -- every index passes
  pub every_at : (n : ℕ) → every n p ≡ true → (i : ℕ) → i < n → p i ≡ true
  unfolding every
  every_at zero e i h = absurd (omega arith)
  every_at (suc n) e i h =
      ⊎_elim
      (λ (q : i ≡ n). ap p q ∙ and_right (every n p) (p n) e)
      (λ (q : i < n). every_at n (and_left (every n p) (p n) e) i q)
      (eq-or-lt_of_le {n = i} {m = n} (omega arith))

  pub every_all : (n : ℕ) → ((i : ℕ) → i < n → p i ≡ true) → every n p ≡ true
  unfolding every
  every_all zero f = refl
  every_all (suc n) f = and_true (every n p) (p n) (every_all n (λ i h. f i (omega arith))) (f n (omega arith))

  -- one index fails
  pub every_fails : (n i : ℕ) → i < n → p i ≡ false → every n p ≡ false
  unfolding every
  every_fails zero i h e = absurd (omega arith)
  every_fails (suc n) i h e =
      ⊎_elim
      (λ (q : i ≡ n). and_false_right (every n p) (p n) (ap p (sym q) ∙ e))
      (λ (q : i < n). and_false_left (every n p) (p n) (every_fails n i q e))
      (eq-or-lt_of_le {n = i} {m = n} (omega arith))

  -- fewer indices pass too
  pub every_fewer : (m n : ℕ) → m ≤ n → every n p ≡ true → every m p ≡ true
  every_fewer m n h e = every_all m (λ i k. every_at n e i (omega arith))
