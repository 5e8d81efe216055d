-- `make_ends` meets its contract: the ends of the atoms passed are written.
use Rattle.join_plan.specs.Plan.{FirstsEnded}
use Rattle.join_plan.proofs.make_ends.Given as goal

abbrev pub invariant-loop-i : goal.invariant-loop-i
invariant-loop-i l = FirstsEnded l.ends l.ts l.q l.i
