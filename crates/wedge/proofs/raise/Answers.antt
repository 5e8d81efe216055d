-- The goal of `raise` that the check leaves.
use Rattle.std.proofs.Common.{◌∙◌, ◌<◌, ap, arith, set, get_or, length, add-one, suc}
use Rattle.std.proofs.lemmas.List.{get_or_default}
use Rattle.std.proofs.lemmas.List.Edits.{map_over_more}
use Rattle.wedge.proofs.raise.Goals as goal

pub loop-word-preserved : goal.loop-word-preserved
loop-word-preserved c =
    let l = c.loop-word in
    let x = get_or l.words l.word-index 0 in
    let h : l.word-index < length l.words = omega arith in
    ap (set l.words l.word-index) (add-one x) ∙ map_over_more suc c.args.words.now l.words l.word-index x c.loop-word-test.true l.invariant (get_or_default l.words l.word-index 0 x h)
