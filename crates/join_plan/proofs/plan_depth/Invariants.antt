-- `plan_depth` meets its contract: of the atoms passed, those that take part have their openings.
use Rattle.join_plan.proofs.Plans.{Filling}
use Rattle.join_plan.proofs.plan_depth.Given as goal

abbrev pub invariant-loop-i : goal.invariant-loop-i
invariant-loop-i l = Filling l.ts l.q l.d l.depth.openings l.k l.i
