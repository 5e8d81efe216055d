-- Words ascend as grades do, over the whole signed range, and a word is its grade plus 2^63, said in whole numbers.
use Prim.Native.Nat.{ℕ, suc, ◌+◌, ◌^◌, ◌<◌}
use mathlib.Core.Path.{◌≡◌, refl, ap}
use mathlib.Core.Bool.{true}
use native.Mathlib.Omega.{arith}
use borrow.Author.Tests.{lt-ltb, ltb-true, le-ltb}
use lib.IntN.{ℤ, pos, negsuc, ◌+ℤ◌}
use lib.Signed.{lt_z}
use mir.Syntax.{w64}
use mir.Val.{SFits}
use Rattle.grade.specs.Word.{word_of}

pub the_word_is_the_grade_plus_2^63 : (g : ℤ) → SFits w64 g → g +ℤ pos (2 ^ 63) ≡ pos (word_of g)
unfolding word_of
the_word_is_the_grade_plus_2^63 (pos n) f = let e : n + 2 ^ 63 ≡ 2 ^ 63 + n = omega arith in ap pos e
the_word_is_the_grade_plus_2^63 (negsuc n) f = simp (le-ltb (2 ^ 63) (suc n) f.sfits)

-- a smaller grade has a smaller word
smaller_word : (g h : ℤ) → SFits w64 g → lt_z g h ≡ true → word_of g < word_of h
unfolding word_of
smaller_word (pos m) (pos n) f e = omega (arith, ltb-true m n e)
smaller_word (pos m) (negsuc n) f e = let z : ◌≡◌ {A = ℕ} 0 1 = cc in absurd (omega arith)
smaller_word (negsuc m) (pos n) f e = omega arith
smaller_word (negsuc m) (negsuc n) f e = let i : m < 2 ^ 63 = f.sfits in omega (arith, ltb-true n m e)

-- a smaller word is that of a smaller grade
smaller_grade : (g h : ℤ) → word_of g < word_of h → lt_z g h ≡ true
unfolding word_of
smaller_grade (pos m) (pos n) l = lt-ltb m n (omega arith)
smaller_grade (pos m) (negsuc n) l = absurd (omega arith)
smaller_grade (negsuc m) (pos n) l = refl
smaller_grade (negsuc m) (negsuc n) l = lt-ltb n m (omega arith)

-- a grade is below another exactly when its word is
pub words_ascend_as_grades_do : (g h : ℤ) → SFits w64 g → SFits w64 h → (lt_z g h ≡ true → word_of g < word_of h) × (word_of g < word_of h → lt_z g h ≡ true)
words_ascend_as_grades_do g h f k = (smaller_word g h f, smaller_grade g h)
