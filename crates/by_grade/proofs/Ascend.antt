-- Where a variable stands first in a query's order and one of its columns holds words of grades, demand 3's rows ascend by grade.
use Prim.Native.Nat.{ℕ, zero, suc, ◌<◌}
use mathlib.Core.Path.{◌≡◌, refl, ap, ap₂, subst, ◌∙◌}
use mathlib.Core.Bool.{true}
use mathlib.Core.List.{List, [], ◌∷◌}
use native.Mathlib.Omega.{arith}
use lib.ListN.{length, get_or}
use lib.IntN.{ℤ, pos, negsuc}
use lib.Signed.{lt_z, le_z}
use borrow.Author.Tests.{ltb-true, le-leb}
use Rattle.relation.specs.Order.{Row, ◌≺◌, word≺, rest≺}
use Rattle.relation.specs.Lists.{◌∈◌, hd, tl, Ascends, anone, amore}
use Rattle.query.specs.Meaning.{Atom, part, Listing}
use Rattle.grade.specs.Word.{word_of, grade_of}
use Rattle.grade.proofs.RoundTrips.{grade_word}
use Rattle.grade.proofs.Order.{words_ascend_as_grades_do}
use Rattle.by_grade.specs.Column.{GradeWord, GradeColumn}

-- the grade that a row gives the variable v
abbrev pub grade_in : ℕ → Row → ℤ
grade_in v row = grade_of (get_or row v 0)

part_word : (xs : List ℕ) (i : ℕ) (row : Row) → i < length xs → get_or (part xs row) i 0 ≡ get_or row (get_or xs i 0) 0
part_word [] i row h = absurd (omega arith)
part_word (x ∷ xs) zero row h = refl
part_word (x ∷ xs) (suc i) row h = part_word xs i row (omega arith)

le_itself : (g : ℤ) → le_z g g ≡ true
le_itself (pos n) = le-leb n n (omega arith)
le_itself (negsuc n) = le-leb n n (omega arith)

lt_le : (g h : ℤ) → lt_z g h ≡ true → le_z g h ≡ true
lt_le (pos m) (pos n) e = le-leb m n (omega (arith, ltb-true m n e))
lt_le (pos m) (negsuc n) e = let z : ◌≡◌ {A = ℕ} 0 1 = cc in absurd (omega arith)
lt_le (negsuc m) (pos n) e = refl
lt_le (negsuc m) (negsuc n) e = le-leb n m (omega (arith, ltb-true n m e))

-- words of grades that do not fall
grades_of : {x y : ℕ} → GradeWord x → GradeWord y → x < y → le_z (grade_of x) (grade_of y) ≡ true
grades_of {x} {y} a b h =
    let p : grade_of x ≡ a.grade = ap grade_of a.word ∙ grade_word a.grade a.fits in
    let q : grade_of y ≡ b.grade = ap grade_of b.word ∙ grade_word b.grade b.fits in
    let l : word_of a.grade < word_of b.grade = omega (arith, a.word, b.word) in
    ap₂ le_z p q ∙ lt_le a.grade b.grade ((words_ascend_as_grades_do a.grade b.grade a.fits b.fits).1 l)

module _ {n v : ℕ} {vs : List ℕ} {atoms : List Atom} {rows : List Row} (l : Listing n (v ∷ vs) atoms rows) (c : GradeColumn v atoms) where
  grade_word_of : (r : Row) → r ∈ rows → GradeWord (get_or r v 0)
  grade_word_of r m =
      subst GradeWord (part_word c.atom.vars c.column r c.inside ∙ ap (λ (x : ℕ). get_or r x 0) c.variable)
      (c.grades (part c.atom.vars r) (l.sound r m c.atom c.among))

  not_above : (r s : Row) → r ∈ rows → s ∈ rows → part (v ∷ vs) r ≺ part (v ∷ vs) s → le_z (grade_in v r) (grade_in v s) ≡ true
  not_above r s i j (word≺ h) = grades_of (grade_word_of r i) (grade_word_of s j) h
  not_above r s i j (rest≺ e t) = subst (λ (w : ℕ). le_z (grade_in v r) (grade_of w) ≡ true) e (le_itself (grade_in v r))

  pub rows_ascend_by_grade : Ascends (λ (r s : Row). le_z (grade_in v r) (grade_in v s) ≡ true) rows
  rows_ascend_by_grade = go rows (λ r m. m) l.ascending
    where
      go : (rs : List Row) → ((r : Row) → r ∈ rs → r ∈ rows) → Ascends (λ (r s : Row). part (v ∷ vs) r ≺ part (v ∷ vs) s) rs → Ascends (λ (r s : Row). le_z (grade_in v r) (grade_in v s) ≡ true) rs
      go [] i anone = anone
      go (r ∷ rs) i (amore f a) = amore (λ s m. not_above r s (i r (hd refl)) (i s (tl m)) (f s m)) (go rs (λ s m. i s (tl m)) a)
