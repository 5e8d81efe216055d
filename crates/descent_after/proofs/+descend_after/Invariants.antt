-- The measure of `descend_after`: how many variables are left.
use Prim.Native.Nat.{◌-◌}
use Rattle.descent_after.proofs.+descend_after.Given as goal

abbrev pub decreases-descend_after : goal.decreases-descend_after
decreases-descend_after l = l.join.now.n - l.depth
