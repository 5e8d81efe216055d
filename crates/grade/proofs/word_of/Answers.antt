-- `grade::word_of` meets its contract: from 0 up the cast is the number that is added, and below 0 m = -1 - grade stands in for it (`Mirror`).
use native.Mathlib.Omega.{arith}
use Rattle.grade.proofs.Mirror.{cast_up, up_small, mirror_at, mirror_back}
use Rattle.grade.proofs.Halves.{word_from_0, word_below_0}
use Rattle.grade.proofs.word_of.Goals as goal

pub overflow_cast-result : goal.overflow_cast-result
overflow_cast-result c = cast_up c.args.grade c.ranges.grade c.if-grade-ge0.true

pub overflow_add-result : goal.overflow_add-result
overflow_add-result c = omega (arith, up_small c.args.grade c.ranges.grade c.if-grade-ge0.true)

pub overflow_sub-m : goal.overflow_sub-m
overflow_sub-m c = (mirror_at c.args.grade c.ranges.grade c.if-grade-ge0.false).sfits

pub overflow_cast-result-else-grade-ge0 : goal.overflow_cast-result-else-grade-ge0
overflow_cast-result-else-grade-ge0 c = (mirror_back c.args.grade c.ranges.grade c.if-grade-ge0.false).cast

pub overflow_sub-result : goal.overflow_sub-result
overflow_sub-result c = omega (arith, (mirror_back c.args.grade c.ranges.grade c.if-grade-ge0.false).small)

pub returns-then-grade-ge0 : goal.returns-then-grade-ge0
returns-then-grade-ge0 c = omega (arith, word_from_0 c.args.grade c.ranges.grade c.if-grade-ge0.true)

pub returns-else-grade-ge0 : goal.returns-else-grade-ge0
returns-else-grade-ge0 c = word_below_0 c.args.grade c.ranges.grade c.if-grade-ge0.false
