-- Signed arithmetic at 64 bits, whatever a grade's word is: a number in the range is read back as it is, one from 0 up casts to a word, and one
-- below 0 has the mirror -1 - x, which is 0 .. 2^63 - 1 and casts too.
use Prim.Native.Nat.{ℕ, suc, zero, ◌≤◌, ◌<◌, ◌-◌, ◌+◌, ◌^◌}
use mathlib.Core.Path.{◌≡◌, refl, ap, sym, subst, ◌∙◌}
use mathlib.Core.Bool.{true, false}
use native.Mathlib.Omega.{arith}
use borrow.Author.Tests.{le-ltb, leb-false}
use lib.IntN.{ℤ, pos, negsuc, ◌-ℤ◌, nat_abs}
use lib.Signed.{le_z, non_neg}
use lib.Dec.{T}
use mir.Syntax.{w64}
use mir.Val.{Fits, SFits, to_z, of_z}
use mir.Facts.{to_z-of_z, to_z_pos}

-- -1 - x, both ways
pub down : (n : ℕ) → negsuc 0 -ℤ negsuc n ≡ pos n
down n =
    let h : 1 ≤ suc n = omega arith in
    let e : suc n - 1 ≡ n = omega arith in
    simp (le-ltb (suc n) 1 h) (ap pos e)

up : (n : ℕ) → negsuc 0 -ℤ pos n ≡ negsuc n
up zero = refl
up (suc n) = let e : suc (0 + n) ≡ suc n = omega arith in ap negsuc e

-- a signed number as a local holds it and gives it back
abbrev pub R : ℤ → ℤ
R x = to_z w64 (of_z w64 x)

half : (z : ℤ) → SFits w64 z → le_z (pos 0) z ≡ true → T (non_neg z) × Fits w64 (nat_abs z)
half (pos n) f e = (tt, record { fits = let h : n < 2 ^ 63 = f.sfits in omega arith })
half (negsuc n) f e = let z : ◌≡◌ {A = ℕ} 0 1 = cc in absurd (omega arith)

pub cast_up : (x : ℤ) → SFits w64 x → le_z (pos 0) (R x) ≡ true → T (non_neg (R x)) × Fits w64 (nat_abs (R x))
cast_up x f = subst (λ (z : ℤ). le_z (pos 0) z ≡ true → T (non_neg z) × Fits w64 (nat_abs z)) (sym (to_z-of_z f)) (half x f)

small : (z : ℤ) → SFits w64 z → le_z (pos 0) z ≡ true → nat_abs z < 2 ^ 63
small (pos n) f e = f.sfits
small (negsuc n) f e = let z : ◌≡◌ {A = ℕ} 0 1 = cc in absurd (omega arith)

pub up_small : (x : ℤ) → SFits w64 x → le_z (pos 0) (R x) ≡ true → nat_abs (R x) < 2 ^ 63
up_small x f = subst (λ (z : ℤ). le_z (pos 0) z ≡ true → nat_abs z < 2 ^ 63) (sym (to_z-of_z f)) (small x f)

-- what is known of the mirror of a number below 0
pub record Mirror (m : ℤ) : Type 0 where
  pub sfits : SFits w64 m
  pub cast : T (non_neg m) × Fits w64 (nat_abs m)
  pub small : nat_abs m < 2 ^ 63

mirror : (x : ℤ) → SFits w64 x → le_z (pos 0) x ≡ false → Mirror (negsuc 0 -ℤ x)
mirror (pos n) f e = absurd (omega (arith, leb-false 0 n e))
mirror (negsuc n) f e =
    let h : n < 2 ^ 63 = f.sfits in
    subst Mirror (sym (down n)) (record { sfits = record { sfits = h }; cast = (tt, record { fits = omega arith }); small = h })

pub mirror_at : (x : ℤ) → SFits w64 x → le_z (pos 0) (R x) ≡ false → Mirror (negsuc 0 -ℤ R x)
mirror_at x f = subst (λ (z : ℤ). le_z (pos 0) z ≡ false → Mirror (negsuc 0 -ℤ z)) (sym (to_z-of_z f)) (mirror x f)

-- the same of the mirror read back from its local
pub mirror_back : (x : ℤ) → SFits w64 x → le_z (pos 0) (R x) ≡ false → Mirror (R (negsuc 0 -ℤ R x))
mirror_back x f e = subst Mirror (sym (to_z-of_z (mirror_at x f e).sfits)) (mirror_at x f e)

-- the other way: the mirror of a number that is not below 0
up_at : (m : ℕ) → m < 2 ^ 63 → negsuc 0 -ℤ to_z w64 m ≡ negsuc m
up_at m h = ap (λ (z : ℤ). negsuc 0 -ℤ z) (to_z_pos w64 h) ∙ up m

pub up_fits : (m : ℕ) → m < 2 ^ 63 → SFits w64 (negsuc 0 -ℤ to_z w64 m)
up_fits m h = subst (λ (z : ℤ). SFits w64 z) (sym (up_at m h)) (record { sfits = h })

pub up_back : (m : ℕ) → m < 2 ^ 63 → R (negsuc 0 -ℤ to_z w64 m) ≡ negsuc m
up_back m h = to_z-of_z (up_fits m h) ∙ up_at m h
