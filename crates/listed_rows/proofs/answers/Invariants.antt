use Prim.Native.Nat.{ℕ, ◌<◌}
use mathlib.Core.Path.{◌≡◌}
use Rattle.join_query.specs.Query.{atoms_of}
use mathlib.Core.Bool.{true}
use Rattle.plain.specs.Plain.{all_hold}
use Rattle.listed_rows.proofs.answers.Given as goal

abbrev pub invariant-loop-v : goal.invariant-loop-v
invariant-loop-v l = (x : ℕ) → x < l.v → all_hold x l.row (atoms_of l.asked.pool.now l.asked.tables.now l.asked.query.now) ≡ true
