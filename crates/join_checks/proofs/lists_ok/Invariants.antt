-- `lists_ok` meets its contract: each atom passed has a list that passes.
use mathlib.Core.Path.{◌≡◌}
use mathlib.Core.Bool.{true}
use Rattle.relation.specs.Tests.{every}
use Rattle.join_query.specs.Query.{list_ok}
use Rattle.join_checks.proofs.lists_ok.Given as goal

abbrev pub invariant-loop-a : goal.invariant-loop-a
invariant-loop-a l = every l.a-index (list_ok l.ts l.fn.q) ≡ true
