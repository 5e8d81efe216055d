-- The goals of `common_prefix_len` that the check leaves.
use Rattle.from_sorted.proofs.Shared.{sharing_apart, sharing_on, sharing_end}
use Rattle.from_sorted.proofs.common_prefix_len.Goals as goal

pub returns-then-x-k : goal.returns-then-x-k
returns-then-x-k c = sharing_apart c.requires c.loop-k.invariant c.loop-k-test.true c.if-x-k.true

pub loop-k-preserved : goal.loop-k-preserved
loop-k-preserved c = sharing_on c.requires c.loop-k.invariant c.loop-k-test.true c.if-x-k.false

pub returns : goal.returns
returns c = sharing_end c.requires c.loop-k.invariant c.loop-k-test.false
