-- A build, then inserts and removals, each accepted: they leave the layers of the set that the sequence makes of the rows given.
use Prim.Native.Nat.{ℕ}
use mathlib.Core.Path.{◌≡◌, sym, subst}
use mathlib.Core.Bool.{Bool}
use mathlib.Core.List.{List, ◌++◌, map}
use lib.ListN.{length}
use Rattle.relation.specs.Order.{Row}
use Rattle.relation.specs.Rows.{as_set}
use Rattle.relation.specs.Layers.{layers_of}
use Rattle.relation.proofs.Tables.{layers_count}
use Rattle.column_trie.specs.declared.ColumnTrie.{ColumnTrie}
use Rattle.column_trie.proofs.Layers.{Whole}
use Rattle.column_trie.proofs.Stored.{header_whole}
use Rattle.from_sorted.specs.Given.{rows_given}
use Rattle.from_sorted.specs.Answer.{kept_kinds}
use Rattle.column_trie_build.specs.Build.{Builds}
use Rattle.from_sorted.specs.declared.Built.{Built}
use Rattle.build_laws.proofs.Leaves.{built_accepted, built_table, build_leaves_the_layers_of_the_set_of_rows}
use Rattle.insert_laws.proofs.Laws.{Table, table_of_lem}
use Rattle.sequences.specs.Steps.{Step, puts, meant, Done}
use Rattle.sequences.proofs.Steps.{any_sequence_leaves_the_set_that_it_means, inserts_mean_the_set_of_all_rows_given}

module _ (given lent : List ℕ) (start arity capacity : ℕ) (kinds : List Bool) {given' lent' : List ℕ} {r : Built} (b : Builds given lent start arity capacity kinds given' lent' r) (z : r.number ≡ 0) where
  whole : Whole r.table
  whole =
      let rows = as_set (rows_given arity given) in
      subst Whole (sym (built_table given lent start arity capacity kinds b z))
      (header_whole start arity capacity (kept_kinds arity kinds) (layers_of arity rows) (length rows) (layers_count arity 0 rows) (built_accepted given lent start arity capacity kinds b z).few)

  -- what the build alone leaves
  pub a_build_leaves_the_set_of_all_rows_given : Table start arity capacity (kept_kinds arity kinds) (as_set (rows_given arity given)) lent' r.table
  a_build_leaves_the_set_of_all_rows_given =
      let l = build_leaves_the_layers_of_the_set_of_rows given lent start arity capacity kinds b z in
      subst (λ (x : ColumnTrie). Table x.start x.arity x.capacity x.grade (as_set (rows_given arity given)) lent' r.table) (built_table given lent start arity capacity kinds b z)
      (table_of_lem whole l.undamaged l.rows)

  -- any sequence from there
  pub a_build_and_any_sequence_leave_the_set_that_they_mean : {steps : List Step} {pool : List ℕ} {t : ColumnTrie} → Done lent' r.table steps pool t → Table start arity capacity (kept_kinds arity kinds) (meant steps (as_set (rows_given arity given))) pool t
  a_build_and_any_sequence_leave_the_set_that_they_mean = any_sequence_leaves_the_set_that_it_means a_build_leaves_the_set_of_all_rows_given

  -- inserts alone
  pub a_build_and_inserts_leave_the_set_of_all_rows_given : (tuples : List Row) {pool : List ℕ} {t : ColumnTrie} → Done lent' r.table (map puts tuples) pool t → Table start arity capacity (kept_kinds arity kinds) (as_set (tuples ++ rows_given arity given)) pool t
  a_build_and_inserts_leave_the_set_of_all_rows_given tuples {pool} {t} d =
      subst (λ (rows : List Row). Table start arity capacity (kept_kinds arity kinds) rows pool t) (inserts_mean_the_set_of_all_rows_given tuples (rows_given arity given)) (a_build_and_any_sequence_leave_the_set_that_they_mean d)
