-- Numbers in their limits, and off them: what the tests of arity and capacity decide.
use Prim.Native.Nat.{ℕ, ◌≤◌, ◌<◌}
use mathlib.Core.Path.{◌≡◌}
use mathlib.Core.Bool.{true, false, ◌&&◌}
use mathlib.Core.Logic.{◌⊎◌, inl, inr}
use native.Mathlib.Omega.{arith}
use native.Mathlib.Decide.{dec_lt}
use lib.Dec.{ltb, leb}
use borrow.Author.Tests.{lt-ltb, le-ltb, le-leb, lt-leb}
use Rattle.relation.proofs.Tests.{and_true, and_false_left, and_false_right}

-- 1 to the greatest
abbrev pub From1To : ℕ → ℕ → Type 0
From1To most n = (0 < n) × (n ≤ most)

-- 0 or over the greatest
abbrev pub Off : ℕ → ℕ → Type 0
Off most n = (n ≡ 0) ⊎ (most < n)

module _ (most n : ℕ) where
  pub on : From1To most n → (ltb 0 n && leb n most) ≡ true
  on h = and_true (ltb 0 n) (leb n most) (lt-ltb 0 n h.0) (le-leb n most h.1)

  pub off : Off most n → (ltb 0 n && leb n most) ≡ false
  off (inl e) = and_false_left (ltb 0 n) (leb n most) (le-ltb 0 n (omega arith))
  off (inr h) = and_false_right (ltb 0 n) (leb n most) (lt-leb n most h)

  pub either : From1To most n ⊎ Off most n
  either = go (dec_lt 0 n) (dec_lt most n)
    where
      go : Dec (0 < n) → Dec (most < n) → From1To most n ⊎ Off most n
      go (no a) b = inr (inl (omega arith))
      go (yes a) (yes b) = inr (inr b)
      go (yes a) (no b) = inl (a, omega arith)
