-- The two definitions by halves, as the two functions compute them: a word from 2^63 up and a grade from 0 up differ by 2^63, any other goes by
-- the mirror.
use Prim.Native.Nat.{ℕ, suc, ◌≤◌, ◌<◌, ◌+◌, ◌-◌, ◌^◌}
use mathlib.Core.Path.{◌≡◌, refl, ap, sym, subst, ◌∙◌}
use mathlib.Core.Bool.{true, false}
use native.Mathlib.Omega.{arith}
use borrow.Author.Tests.{lt-ltb, le-ltb, leb-false}
use lib.IntN.{ℤ, pos, negsuc, ◌-ℤ◌, nat_abs}
use lib.Signed.{le_z}
use mir.Syntax.{w64}
use mir.Val.{SFits}
use mir.Facts.{to_z-of_z}
use Rattle.grade.specs.Word.{word_of, grade_of}
use Rattle.grade.proofs.Mirror.{R, down, mirror_at}

pub low_half : (w : ℕ) → w < 2 ^ 63 → grade_of w ≡ negsuc (2 ^ 63 - suc w)
unfolding grade_of
low_half w h = simp (grade_of, lt-ltb w (2 ^ 63) h)

pub high_half : (w : ℕ) → 2 ^ 63 ≤ w → grade_of w ≡ pos (w - 2 ^ 63)
unfolding grade_of
high_half w h = simp (grade_of, le-ltb w (2 ^ 63) h)

word_up : (z : ℤ) → le_z (pos 0) z ≡ true → 9223372036854775808 + nat_abs z ≡ word_of z
unfolding word_of
word_up (pos n) e = refl
word_up (negsuc n) e = let z : ◌≡◌ {A = ℕ} 0 1 = cc in absurd (omega arith)

pub word_from_0 : (x : ℤ) → SFits w64 x → le_z (pos 0) (R x) ≡ true → 9223372036854775808 + nat_abs (R x) ≡ word_of x
word_from_0 x f = subst (λ (z : ℤ). le_z (pos 0) z ≡ true → 9223372036854775808 + nat_abs z ≡ word_of x) (sym (to_z-of_z f)) (word_up x)

word_down : (x : ℤ) → SFits w64 x → le_z (pos 0) x ≡ false → 9223372036854775807 - nat_abs (negsuc 0 -ℤ x) ≡ word_of x
unfolding word_of
word_down (pos n) f e = absurd (omega (arith, leb-false 0 n e))
word_down (negsuc n) f e = let h : n < 2 ^ 63 = f.sfits in rw (down n) (omega arith)

pub word_below_0 : (x : ℤ) → SFits w64 x → le_z (pos 0) (R x) ≡ false → 9223372036854775807 - nat_abs (R (negsuc 0 -ℤ R x)) ≡ word_of x
word_below_0 x f e =
    ap (λ (z : ℤ). 9223372036854775807 - nat_abs z) (to_z-of_z (mirror_at x f e).sfits)
    ∙ subst (λ (z : ℤ). le_z (pos 0) z ≡ false → 9223372036854775807 - nat_abs (negsuc 0 -ℤ z) ≡ word_of x) (sym (to_z-of_z f)) (word_down x f) e
