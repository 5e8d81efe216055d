-- `Formed::held` meets its contract: no list passed has v.
use Prim.Native.Nat.{ℕ, ◌<◌}
use mathlib.Core.Path.{◌≡◌}
use mathlib.Core.Bool.{false}
use Rattle.query.specs.Meet.{has}
use Rattle.join_query.specs.Query.{atom_at, vars_of}
use Rattle.join_checks.proofs.Formed.held.Given as goal

abbrev pub invariant-loop-a : goal.invariant-loop-a
invariant-loop-a l = (k : ℕ) → k < l.a-index → has (vars_of (atom_at l.self.q.now k)) l.v ≡ false
