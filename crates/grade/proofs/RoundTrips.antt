-- A grade and its word: each is had back from the other, over the whole signed range and over every word, so no two grades share a word.
-- Callers need these laws and the names `word_of` and `gradeOf`, and nothing of how a word is made.
use Prim.Native.Nat.{ℕ, suc, ◌+◌, ◌-◌, ◌^◌, ◌<◌}
use mathlib.Core.Path.{◌≡◌, refl, sym, ap, ◌∙◌}
use mathlib.Core.Bool.{Bool, true, false}
use native.Mathlib.Omega.{arith}
use borrow.Author.Tests.{ltb-true, ltb-false}
use lib.Dec.{ltb}
use lib.IntN.{ℤ, pos, negsuc}
use mir.Syntax.{w64}
use mir.Val.{Fits, SFits}
use Rattle.grade.specs.Word.{word_of, grade_of}
use Rattle.grade.proofs.Halves.{low_half, high_half}

-- a grade's word is a word ..
pub word_fits : (g : ℤ) → SFits w64 g → Fits w64 (word_of g)
unfolding word_of
word_fits (pos n) f = record { fits = let h : n < 2 ^ 63 = f.sfits in omega arith }
word_fits (negsuc n) f = record { fits = let h : n < 2 ^ 63 = f.sfits in omega arith }

-- .. that gives the grade back
pub grade_word : (g : ℤ) → SFits w64 g → grade_of (word_of g) ≡ g
unfolding word_of
grade_word (pos n) f =
    let e : 2 ^ 63 + n - 2 ^ 63 ≡ n = omega arith in
    high_half (2 ^ 63 + n) (omega arith) ∙ ap pos e
grade_word (negsuc n) f =
    let h : n < 2 ^ 63 = f.sfits in
    let e : 2 ^ 63 - suc (2 ^ 63 - suc n) ≡ n = omega arith in
    low_half (2 ^ 63 - suc n) (omega arith) ∙ ap negsuc e

-- a word's grade is in the signed range ..
pub grade_fits : (w : ℕ) → Fits w64 w → SFits w64 (grade_of w)
unfolding grade_of
grade_fits w f = go (ltb w (2 ^ 63)) refl
  where
    go : (b : Bool) → ltb w (2 ^ 63) ≡ b → SFits w64 (grade_of w)
    go true q = rw (low_half w (ltb-true w (2 ^ 63) q)) (record { sfits = omega (arith, ltb-true w (2 ^ 63) q) })
    go false q =
        let h : w < 2 ^ 64 = f.fits in
        rw (high_half w (ltb-false w (2 ^ 63) q)) (record { sfits = omega (arith, ltb-false w (2 ^ 63) q) })

-- .. and gives the word back
pub word_grade : (w : ℕ) → Fits w64 w → word_of (grade_of w) ≡ w
unfolding word_of
word_grade w f = go (ltb w (2 ^ 63)) refl
  where
    go : (b : Bool) → ltb w (2 ^ 63) ≡ b → word_of (grade_of w) ≡ w
    go true q = ap word_of (low_half w (ltb-true w (2 ^ 63) q)) ∙ omega (arith, ltb-true w (2 ^ 63) q)
    go false q = ap word_of (high_half w (ltb-false w (2 ^ 63) q)) ∙ omega (arith, ltb-false w (2 ^ 63) q)

-- so a word has one grade
pub word_one : (g h : ℤ) → SFits w64 g → SFits w64 h → word_of g ≡ word_of h → g ≡ h
word_one g h f k e = sym (grade_word g f) ∙ ap grade_of e ∙ grade_word h k
