-- "The new table is what a build of the permuted rows leaves": of the two calls' contracts, header and pool word for word.
use Prim.Native.Nat.{ℕ}
use mathlib.Core.Path.{◌≡◌, sym, ap, ap₂, ◌∙◌}
use mathlib.Core.Bool.{Bool}
use mathlib.Core.List.{List}
use lib.ListN.{length}
use Rattle.relation.specs.Order.{Row}
use Rattle.relation.specs.Rows.{Members}
use Rattle.relation.specs.Layers.{layers_of}
use Rattle.relation.proofs.Sorting.{as_set_cong}
use Rattle.column_trie.specs.Limits.{max_arity}
use Rattle.column_trie.specs.Pool.{store}
use Rattle.column_trie.specs.Table.{table_of}
use Rattle.column_trie.specs.declared.ColumnTrie.{ColumnTrie}
use Rattle.column_trie.proofs.Layers.{Whole}
use Rattle.from_sorted.specs.Given.{rows_given}
use Rattle.from_sorted.specs.Answer.{kept_kinds}
use Rattle.from_sorted.specs.declared.Built.{Built}
use Rattle.column_trie_build.specs.Build.{Builds}
use Rattle.build_laws.proofs.Leaves.{built_pool, built_table}
use Rattle.permuted_rows.specs.Permuted.{rows_permuted}
use Rattle.column_trie_permute.specs.Permute.{kinds_permuted, Permutes}
use Rattle.permute_laws.proofs.Leaves.{rebuilt_pool, rebuilt_table}

-- a build over the permuted rows, in any sequence, with the permuted kinds, at the same place of the same pool
pub a_rebuild_leaves_what_a_build_of_the_permuted_rows_leaves :
    {pool : List ℕ} {t : ColumnTrie} {columns into : List ℕ} {start capacity : ℕ} {into' : List ℕ} {r : Built} → Whole t → length columns ≡ max_arity → Permutes pool t columns into start capacity into' r → r.number ≡ 0 →
    {given given' built : List ℕ} {kinds : List Bool} {s : Built} → Builds given into start t.arity capacity kinds given' built s → s.number ≡ 0 → Members (rows_given t.arity given) (rows_permuted pool t columns) → kept_kinds t.arity kinds ≡ kept_kinds t.arity (kinds_permuted t columns) →
    (r ≡ s) × (into' ≡ built)
a_rebuild_leaves_what_a_build_of_the_permuted_rows_leaves {pool} {t} {columns} {into} {start} {capacity} {into'} {r} o long b z {given} {given'} {built} {kinds} {s} x y m k =
    let e = as_set_cong (rows_given t.arity given) (rows_permuted pool t columns) m in
    let table : r.table ≡ s.table =
    rebuilt_table o long b z
    ∙ ap₂ (table_of start t.arity capacity) (sym k) (sym e)
    ∙ sym (built_table given into start t.arity capacity kinds x y) in (
      λ i. record { number = (z ∙ sym y) i; table = table i },
      rebuilt_pool o long b z
          ∙ ap (λ (rows : List Row). store start capacity (layers_of t.arity rows) into) (sym e)
          ∙ sym (built_pool given into start t.arity capacity kinds x y),
    )
