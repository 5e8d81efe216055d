-- `Formed::binds_only` meets its contract: each atom passed has only columns of this kind where its variable is v.
use mathlib.Core.Path.{◌≡◌}
use mathlib.Core.Bool.{true}
use Rattle.relation.specs.Tests.{every}
use Rattle.join_query.specs.Query.{columns_ok}
use Rattle.join_checks.proofs.Formed.binds_only.Given as goal

abbrev pub invariant-loop-a : goal.invariant-loop-a
invariant-loop-a l = every l.a-index (columns_ok l.self.ts.now l.self.q.now l.v l.grade) ≡ true
