-- `calls::step` meets its contract: where the ring agrees both calls may be asked, and each ends as the definition of its algorithm comes to.
use Rattle.leapfrog_join.proofs.Laws.{went_next, went_seek}
use Rattle.replay_leapfrogs.proofs.calls.step.Goals as goal

pub returns-in-Next : goal.returns-in-Next
returns-in-Next c = rw c.unsought.ensures (went_next c.requires c.leapfrog_next.ensures).ended

pub returns-in-Init : goal.returns-in-Init
returns-in-Init c = (went_seek c.requires c.args.told.target c.leapfrog_seek.ensures.ran).ended
