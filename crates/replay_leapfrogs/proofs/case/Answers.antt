-- `case` is safe and ends: its calls are asked only where the runs were tested.

use Rattle.replay_leapfrogs.proofs.case.Goals as goal

pub walk-requires : goal.walk-requires
walk-requires c = c.stand.ensures c.if-not-stand.false
