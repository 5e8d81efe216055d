-- `Formed::shapes_ok` meets its contract: each atom passed is plain, or its two tables are of the same shape.
use mathlib.Core.Path.{◌≡◌}
use mathlib.Core.Bool.{true}
use Rattle.relation.specs.Tests.{every}
use Rattle.join_query.specs.Query.{shape_ok}
use Rattle.join_checks.proofs.Formed.shapes_ok.Given as goal

abbrev pub invariant-loop-a : goal.invariant-loop-a
invariant-loop-a l = every l.a-index (shape_ok l.self.ts.now l.self.q.now) ≡ true
