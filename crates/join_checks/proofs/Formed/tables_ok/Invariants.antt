-- `Formed::tables_ok` meets its contract: each table passed is undamaged or not named.
use mathlib.Core.Path.{◌≡◌}
use mathlib.Core.Bool.{true}
use Rattle.relation.specs.Tests.{every}
use Rattle.join_query.specs.Query.{sound_at}
use Rattle.join_checks.proofs.Formed.tables_ok.Given as goal

abbrev pub invariant-loop-i : goal.invariant-loop-i
invariant-loop-i l = every l.i (sound_at l.pool l.self.ts.now l.self.q.now) ≡ true
