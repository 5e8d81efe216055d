-- The goals of `stand` that the check leaves.
use Rattle.std.proofs.Common.{arith, rules}
use Rattle.replay_leapfrogs.proofs.Order.{one_more, order_ready}
use borrow.Author.Rules.{rules}
use Rattle.replay_leapfrogs.proofs.runs.Runs.stand.Goals as goal

pub loop-j-preserved : goal.loop-j-preserved
loop-j-preserved c = one_more c.loop-j.invariant (c.rises.ensures c.if-not-rises.false)

pub returns : goal.returns
returns c = λ e. order_ready (omega arith) (omega arith) (search rules) (λ a l. c.loop-j.invariant a (omega arith))
