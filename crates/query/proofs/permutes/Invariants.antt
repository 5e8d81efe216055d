-- `query::permutes` meets its contract: the numbers passed are below the length and differ from one another.
use Rattle.query.proofs.Permuting.{Permuting}
use Rattle.query.proofs.permutes.Given as goal

abbrev pub invariant-loop-i : goal.invariant-loop-i
invariant-loop-i l = Permuting l.list l.i
