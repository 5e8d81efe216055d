-- The goals of `rises` that the check leaves.
use Rattle.std.proofs.Common.{arith}
use Rattle.replay_leapfrogs.proofs.Rising.{rising_first, rising_more, risen}
use Rattle.replay_leapfrogs.proofs.runs.rises.Goals as goal

pub loop-i-init : goal.loop-i-init
loop-i-init c = rising_first _ _ (omega arith)

pub loop-i-preserved : goal.loop-i-preserved
loop-i-preserved c = rising_more _ _ c.loop-i.invariant (omega arith) (omega arith)

pub returns : goal.returns
returns c = λ e. risen _ _ c.loop-i.invariant (omega arith)
