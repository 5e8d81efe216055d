-- `reached` meets its contract: j is how far the variables passed reach.
use Prim.Native.Nat.{◌≤◌}
use mathlib.Core.Path.{◌≡◌}
use lib.ListN.{take}
use Rattle.join_query.specs.Checking.{reached}
use Rattle.join_checks.proofs.reached.Given as goal

abbrev pub invariant-loop-v : goal.invariant-loop-v
invariant-loop-v l = (l.j ≤ l.v-index) × (l.j ≡ reached (take l.v-index l.first) l.list)
