-- The goal of `lower` that the check leaves.
use Rattle.std.proofs.Common.{◌<◌, arith, get_or, length}
use Rattle.std.proofs.lemmas.List.{get_or_default}
use Rattle.std.proofs.lemmas.List.Edits.{map_over_more}
use Rattle.wedge.specs.Shift.{lessened}
use Rattle.wedge.proofs.lower.Goals as goal

pub loop-word-preserved : goal.loop-word-preserved
loop-word-preserved c =
    let l = c.loop-word in
    let x = get_or l.words l.word-index 0 in
    let h : l.word-index < length l.words = omega arith in
    map_over_more lessened c.args.words.now l.words l.word-index x c.loop-word-test.true l.invariant (get_or_default l.words l.word-index 0 x h)
