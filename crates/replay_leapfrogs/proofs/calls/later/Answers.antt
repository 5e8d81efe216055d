-- The goals of `later` that the check leaves.
use Rattle.replay_leapfrogs.proofs.Order.{ended_here}
use Rattle.replay_leapfrogs.proofs.calls.later.Goals as goal

pub loop-init : goal.loop-init
loop-init c = c.requires

pub step-answer-requires : goal.step-answer-requires
step-answer-requires c = ended_here c.in-Key.is c.loop.invariant

pub loop-preserved : goal.loop-preserved
loop-preserved c = c.step-answer.ensures
