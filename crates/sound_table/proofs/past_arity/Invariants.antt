-- `sound_table::past_arity` meets its contract: it starts at the arity, below which the test holds.
use mathlib.Core.Path.{◌≡◌}
use mathlib.Core.Bool.{true}
use Rattle.relation.specs.Tests.{every}
use Rattle.column_trie.specs.Table.{past_at}
use Rattle.sound_table.proofs.past_arity.Given as goal

abbrev pub invariant-loop-d : goal.invariant-loop-d
invariant-loop-d l = every l.d (past_at l.t) ≡ true
