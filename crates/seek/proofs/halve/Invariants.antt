-- `seek::halve` meets its contract. The loop's invariant: what the rule has left to do on lo..hi comes to the answer on from..to. The
-- measure is hi - lo.
use mathlib.Core.List.{List}
use Prim.Native.Nat.{ℕ, ◌≤◌, ◌+◌, ◌-◌}
use lib.ListN.{length}
use Rattle.seek.specs.Seek.{halving}
use Rattle.seek.proofs.Halves.{Going}
use Rattle.seek.proofs.halve.Given as goal

-- `room`: each probe is paid for by a key that leaves lo..hi, so the count can't wrap
pub record Halved (run : List ℕ) (target from to spent lo hi probes : ℕ) : Type 0 where
  pub ordered : lo ≤ hi
  pub inside : hi ≤ length run
  pub room : probes + (hi - lo) ≤ spent + (to - from)
  pub going : Going run target (halving run target from to spent) lo hi probes

abbrev pub invariant-loop-lo : goal.invariant-loop-lo
invariant-loop-lo l = Halved l.run l.target l.from l.to l.spent l.lo l.hi l.probes

abbrev pub decreases-loop-lo : goal.decreases-loop-lo
decreases-loop-lo l = l.hi - l.lo
