-- `runs::rises` meets its contract: each turn tests one key more against the one before it.
use Rattle.replay_leapfrogs.proofs.Rising.{Rising}
use Rattle.replay_leapfrogs.proofs.runs.rises.Given as goal

abbrev pub invariant-loop-i : goal.invariant-loop-i
invariant-loop-i l = Rising l.pool l.x l.i
