-- The goals of `halve` that the check leaves.
use mathlib.Core.Path.{refl}
use native.Mathlib.Omega.{arith}
use native.Mathlib.Nat.{le_refl}
use Rattle.seek.proofs.Halves.{going_below, going_above, going_done}
use Rattle.seek.proofs.halve.Goals as goal

pub loop-lo-init : goal.loop-lo-init
loop-lo-init c =
    record { ordered = omega arith; inside = omega arith; room = omega arith; going = record { fuel = _; enough = le_refl _; goes = refl } }

pub loop-lo-preserved-then-run-mid : goal.loop-lo-preserved-then-run-mid
loop-lo-preserved-then-run-mid c =
    record {
      ordered = omega arith;
      inside = omega arith;
      room = omega arith;
      going = going_below c.loop-lo.invariant.going c.loop-lo-test.true c.if-run-mid.true;
    }

pub loop-lo-preserved : goal.loop-lo-preserved
loop-lo-preserved c =
    record {
      ordered = omega arith;
      inside = omega arith;
      room = omega arith;
      going = going_above c.loop-lo.invariant.going c.loop-lo-test.true c.if-run-mid.false;
    }

pub returns : goal.returns
returns c = going_done c.loop-lo.invariant.going c.loop-lo-test.false
