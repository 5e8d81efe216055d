-- `calls::begin` meets its contract: the ring is in atom order, so the leapfrog may begin, and where it ends is what the definition of its calls comes to.
use Rattle.leapfrog_join.proofs.Beginning.{begun_left}
use Rattle.replay_leapfrogs.proofs.Order.{begin_asks}
use Rattle.replay_leapfrogs.proofs.calls.begin.Goals as goal

pub leapfrog_init-requires-clause-ready : goal.leapfrog_init-requires-clause-ready
leapfrog_init-requires-clause-ready c = (begin_asks c.requires.ring_value c.requires.ready).0

pub leapfrog_init-requires-clause-ascends : goal.leapfrog_init-requires-clause-ascends
leapfrog_init-requires-clause-ascends c = (begin_asks c.requires.ring_value c.requires.ready).1

pub returns : goal.returns
returns c =
    let a = begin_asks c.requires.ring_value c.requires.ready in
    rw c.unsought.ensures (begun_left a.0 a.1 c.leapfrog_init.ensures).ended
