-- Zero, minus one and both ends of the signed range, both ways, each computed.
use mathlib.Core.Path.{◌≡◌, refl}
use Prim.Native.Nat.{ℕ}
use lib.IntN.{ℤ, pos, negsuc}
use Rattle.grade.specs.Word.{word_of, grade_of}

-- the word of the grade, and the grade of the word
pub record Pair (g : ℤ) (w : ℕ) : Type 0 where
  pub word : word_of g ≡ w
  pub grade : grade_of w ≡ g

pub record GradeCases : Type 0 where
  pub zero : Pair (pos 0) 9223372036854775808
  pub minus_one : Pair (negsuc 0) 9223372036854775807
  pub most : Pair (pos 9223372036854775807) 18446744073709551615
  pub least : Pair (negsuc 9223372036854775807) 0

pub cases : GradeCases
unfolding word_of grade_of
cases = record {
  zero = record { word = refl; grade = refl };
  minus_one = record { word = refl; grade = refl };
  most = record { word = refl; grade = refl };
  least = record { word = refl; grade = refl };
}
