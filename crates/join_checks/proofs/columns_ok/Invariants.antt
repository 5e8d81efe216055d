-- `columns_ok` meets its contract: each column passed is of this kind, where v is its variable.
use Prim.Native.Nat.{◌≤◌}
use mathlib.Core.Path.{◌≡◌}
use mathlib.Core.Bool.{true}
use Rattle.relation.specs.Tests.{every}
use Rattle.join_query.specs.Query.{column_ok}
use Rattle.join_checks.proofs.columns_ok.Given as goal

abbrev pub invariant-loop-j : goal.invariant-loop-j
invariant-loop-j l = (l.j ≤ l.a.len) × (every l.j (column_ok l.t l.a l.v l.grade) ≡ true)
