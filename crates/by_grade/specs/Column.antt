-- Of theorems: a column that holds the words of grades.
use Rattle.std.specs.Prelude.{ℕ, ◌<◌, ◌≡◌, List, length, get_or, ℤ}
use Rattle.std.specs.Int.{w64}
use Rattle.std.proofs.Common.{SFits}
use Rattle.relation.specs.Order.{Row}
use Rattle.relation.specs.Lists.{◌∈◌}
use Rattle.query.specs.Meaning.{Atom}
use Rattle.grade.specs.Word.{word_of}

-- w is the word of a grade, a signed number of 64 bits
pub record GradeWord (w : ℕ) : Type 0 where
  pub grade : ℤ
  pub fits : SFits w64 grade
  pub word : w ≡ word_of grade

-- some atom has the variable v in a column that holds words of grades
pub record GradeColumn (v : ℕ) (atoms : List Atom) : Type 0 where
  pub atom : Atom
  pub among : atom ∈ atoms
  pub column : ℕ
  pub inside : column < length atom.vars
  pub variable : get_or atom.vars column 0 ≡ v
  pub grades : (q : Row) → q ∈ atom.rows → GradeWord (get_or q column 0)
