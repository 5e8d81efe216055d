-- `grade::grade_of` meets its contract: each arm is its half of the words. In the lower one m is below 2^63, so -1 - m is in the range.
use Prim.Native.Nat.{suc, ◌-◌, ◌<◌, ◌≤◌, ◌^◌}
use mathlib.Core.Path.{◌≡◌, sym, ap, ◌∙◌}
use lib.IntN.{negsuc}
use Rattle.grade.proofs.Mirror.{up_fits, up_back}
use Rattle.grade.proofs.Halves.{low_half, high_half}
use native.Mathlib.Omega.{arith}
use mir.Syntax.{w64}
use mir.Facts.{to_z_pos}
use Rattle.grade.proofs.grade_of.Goals as goal

pub overflow_sub-result : goal.overflow_sub-result
overflow_sub-result c = up_fits (9223372036854775807 - c.args.word) (omega arith)

pub returns-then-word-lt9223372036854775808 : goal.returns-then-word-lt9223372036854775808
returns-then-word-lt9223372036854775808 c =
    let w = c.args.word in
    let m = 9223372036854775807 - w in
    let h : m < 2 ^ 63 = omega arith in
    let l : w < 2 ^ 63 = omega (arith, c.if-word-lt9223372036854775808.true) in
    let e : m ≡ 2 ^ 63 - suc w = omega arith in
    up_back m h ∙ ap negsuc e ∙ sym (low_half w l)

pub returns-else-word-lt9223372036854775808 : goal.returns-else-word-lt9223372036854775808
returns-else-word-lt9223372036854775808 c =
    let w = c.args.word in
    let l : 2 ^ 63 ≤ w = omega (arith, c.if-word-lt9223372036854775808.false) in
    let h : w - 9223372036854775808 < 2 ^ 63 = omega (arith, c.ranges.word.fits) in
    to_z_pos w64 h ∙ sym (high_half w l)
