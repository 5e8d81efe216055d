-- "Words past a length keep what they held. No call changes a pool word outside its table's own": so does a rebuild, accepted or refused, by its contract; a refused
-- one gives no table, its header is all zeros.
use Prim.Native.Nat.{ℕ}
use mathlib.Core.Path.{◌≡◌, sym, ap, ◌∙◌, subst, subst₂}
use mathlib.Core.List.{List}
use native.Mathlib.Omega.{arith}
use native.Mathlib.Decide.{ℕ_discrete}
use lib.ListN.{length}
use Rattle.relation.specs.Layers.{layers_of}
use Rattle.relation.proofs.Sorting.{as_set_asc}
use Rattle.relation.proofs.Tables.{layers_undamaged}
use Rattle.column_trie.specs.Limits.{max_arity}
use Rattle.column_trie.specs.Kept.{Kept}
use Rattle.column_trie.specs.Table.{empty_table}
use Rattle.column_trie.specs.declared.ColumnTrie.{ColumnTrie}
use Rattle.column_trie.proofs.Kept.{stored_kept, unchanged_kept}
use Rattle.column_trie.proofs.Layers.{Whole}
use Rattle.from_sorted.specs.Answer.{kept_kinds}
use Rattle.from_sorted.specs.declared.Built.{Built}
use Rattle.from_sorted.proofs.Answer.{if_refused}
use Rattle.permuted_rows.specs.Permuted.{rows_permuted}
use Rattle.column_trie_permute.specs.Permute.{kinds_permuted, permute_number, rows_left, Permutes}
use Rattle.permute_laws.proofs.Leaves.{sound, wide, few, rebuilt_pool, rebuilt_table}

pub record Untouched (into into' : List ℕ) (r : Built) : Type 0 where
  pub table : r.table ≡ empty_table 0 0 0
  pub words : into' ≡ into

module _ {pool : List ℕ} {t : ColumnTrie} {columns into : List ℕ} {start capacity : ℕ} {into' : List ℕ} {r : Built} (b : Permutes pool t columns into start capacity into' r) where
  pub a_refused_rebuild_leaves_everything_untouched : (r.number ≡ 0 → ⊥) → Untouched into into' r
  a_refused_rebuild_leaves_everything_untouched n =
      let k = permute_number pool t columns (length into) start capacity in
      let z : k ≡ 0 → ⊥ = λ e. n (ap (λ (x : Built). x.number) b.answer ∙ e) in
      record {
        table = ap (λ (x : Built). x.table) b.answer ∙ if_refused k _ (empty_table 0 0 0) z;
        words = b.words ∙ if_refused k _ into z;
      }

  pub a_rebuild_keeps_every_other_word : Whole t → length columns ≡ max_arity → Kept into into' r.table
  a_rebuild_keeps_every_other_word o long = go (ℕ_discrete r.number 0)
    where
      filled : r.number ≡ 0 → Kept into into' r.table
      filled z =
          let rows = rows_left pool t columns in
          let s = sound o long b z in
          let u = layers_undamaged capacity s.arity.0 (as_set_asc (rows_permuted pool t columns)) (wide o long b z) (few o long b z) in
          subst₂ (Kept into) (sym (rebuilt_pool o long b z)) (sym (rebuilt_table o long b z))
          (stored_kept start t.arity capacity (kept_kinds t.arity (kinds_permuted t columns)) (layers_of t.arity rows) (length rows) into u.arity s.arity.1 (λ d h. u.room d (omega (arith, h, u.arity))))

      go : Dec (r.number ≡ 0) → Kept into into' r.table
      go (yes z) = filled z
      go (no n) = subst (λ (p : List ℕ). Kept into p r.table) (sym (a_refused_rebuild_leaves_everything_untouched n).words) (unchanged_kept into r.table)
