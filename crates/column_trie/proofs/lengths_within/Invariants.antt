-- `column_trie::lengths_within` meets its contract: the test held at every depth passed, and fails at the depth that ends the loop early.
use mathlib.Core.Path.{◌≡◌}
use mathlib.Core.Bool.{true}
use Rattle.relation.specs.Tests.{every}
use Rattle.column_trie.specs.Table.{within_at}
use Rattle.column_trie.proofs.lengths_within.Given as goal

abbrev pub invariant-loop-d : goal.invariant-loop-d
invariant-loop-d l = every l.d (within_at l.t) ≡ true
