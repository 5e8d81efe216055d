-- `make_plan` meets its contract: the depths passed are planned.
use Rattle.join_plan.proofs.Plans.{Planning}
use Rattle.join_plan.proofs.make_plan.Given as goal

abbrev pub invariant-loop-d : goal.invariant-loop-d
invariant-loop-d l = Planning l.plan l.ts l.q l.d
