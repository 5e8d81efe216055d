-- `seek::galloping` meets its contract. The loop's invariant: what the rule has left to do from bound on comes to the answer, and
-- half the bound is inside the run. The measure is what is left of the run.
use mathlib.Core.List.{List}
use Prim.Native.Nat.{ℕ, ◌≤◌, ◌<◌, ◌-◌, ◌/◌}
use lib.ListN.{length}
use Rattle.seek.specs.Seek.{galloping_of}
use Rattle.seek.proofs.Gallops.{Galloping}
use Rattle.seek.proofs.galloping.Given as goal

-- `room`: a bound is at least the probes that led to it, so the count can't wrap
pub record Galloped (run : List ℕ) (target bound probes : ℕ) : Type 0 where
  pub positive : 1 ≤ bound
  pub half : bound / 2 < length run
  pub room : probes ≤ bound
  pub going : Galloping run target (galloping_of run target) bound probes

abbrev pub invariant-loop-bound : goal.invariant-loop-bound
invariant-loop-bound l = Galloped l.run l.target l.bound l.probes

abbrev pub decreases-loop-bound : goal.decreases-loop-bound
decreases-loop-bound l = length l.run - l.bound
