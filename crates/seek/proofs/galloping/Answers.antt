-- The goals of `galloping` that the check leaves.
use mathlib.Core.Path.{sym}
use native.Mathlib.Omega.{arith}
use Rattle.seek.proofs.Gallops.{none, at_once, start, on, stop, past}
use Rattle.seek.proofs.galloping.Goals as goal

pub returns-then-len-eq0 : goal.returns-then-len-eq0
returns-then-len-eq0 c = sym (none _ _ c.if-len-eq0.true)

pub returns-then-target-run : goal.returns-then-target-run
returns-then-target-run c = sym (at_once _ _ (omega arith) c.if-target-run.true)

pub loop-bound-init : goal.loop-bound-init
loop-bound-init c = record { positive = omega arith; half = omega arith; room = omega arith; going = start _ _ (omega arith) c.if-target-run.false }

pub returns-then-target-run-2 : goal.returns-then-target-run-2
returns-then-target-run-2 c =
    stop c.loop-bound.invariant.going c.loop-bound.invariant.positive c.loop-bound-test.true c.if-target-run-2.true c.halve.ensures

pub loop-bound-preserved : goal.loop-bound-preserved
loop-bound-preserved c =
    record {
      positive = omega arith;
      half = omega arith;
      room = omega arith;
      going = on c.loop-bound.invariant.going c.loop-bound.invariant.positive c.loop-bound-test.true c.if-target-run-2.false;
    }

pub returns : goal.returns
returns c =
    past c.loop-bound.invariant.going c.loop-bound.invariant.positive c.loop-bound-test.false c.halve-2.ensures
