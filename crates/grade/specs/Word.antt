-- Public: the word of a grade and the grade of a word.
use Rattle.std.specs.Prelude.{ℕ, suc, ◌+◌, ◌-◌, ◌^◌, true, false, ltb, ℤ, pos, negsuc}

-- the grade plus 2^63; `negsuc n` is the number -(n + 1)
unfoldable pub word_of : ℤ → ℕ
word_of (pos n) = 2 ^ 63 + n
word_of (negsuc n) = 2 ^ 63 - suc n

-- the reverse: the word less 2^63
unfoldable pub grade_of : ℕ → ℤ
grade_of w = elim (ltb w (2 ^ 63)) [ true ↦ negsuc (2 ^ 63 - suc w) | false ↦ pos (w - 2 ^ 63) ]
