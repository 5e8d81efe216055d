-- A build, then inserts and removals, then a cursor: it moves as the trie iterator over the set that the sequence means.
use Prim.Native.Nat.{ℕ}
use mathlib.Core.Path.{◌≡◌, subst}
use mathlib.Core.Bool.{Bool}
use mathlib.Core.List.{List}
use Rattle.relation.specs.Order.{Row}
use Rattle.relation.specs.Rows.{as_set}
use Rattle.column_trie.specs.declared.ColumnTrie.{ColumnTrie}
use Rattle.column_trie_place.specs.Checks.{at_root}
use Rattle.from_sorted.specs.Given.{rows_given}
use Rattle.column_trie_build.specs.Build.{Builds}
use Rattle.from_sorted.specs.declared.Built.{Built}
use Rattle.trie_iterator.specs.TrieIterator.{root, Call}
use Rattle.trie_iterator.specs.Cursor.{Follows}
use Rattle.trie_iterator.proofs.Laws.{a_cursor_moves_as_the_trie_iterator}
use Rattle.sequences.specs.Steps.{Step, meant, Done}
use Rattle.sequences.proofs.Then.{a_build_and_any_sequence_leave_the_set_that_they_mean}

pub after_a_build_and_any_sequence_a_cursor_moves_as_the_trie_iterator :
    (given lent : List ℕ) (start arity capacity : ℕ) (kinds : List Bool) {given' lent' : List ℕ} {r : Built} → Builds given lent start arity capacity kinds given' lent' r → r.number ≡ 0 →
    {steps : List Step} {pool : List ℕ} {t : ColumnTrie} → Done lent' r.table steps pool t → (cs : List Call) → Follows pool t (meant steps (as_set (rows_given arity given))) root at_root cs
after_a_build_and_any_sequence_a_cursor_moves_as_the_trie_iterator given lent start arity capacity kinds b z {steps} {pool} {t} done cs =
    let k = a_build_and_any_sequence_leave_the_set_that_they_mean given lent start arity capacity kinds b z done in
    subst (λ (rows : List Row). Follows pool t rows root at_root cs) k.rows_are (a_cursor_moves_as_the_trie_iterator k.undamaged cs)
