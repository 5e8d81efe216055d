-- The two outcomes of a rebuild, by its number: refused, and rebuilt.
use Prim.Native.Nat.{ℕ}
use mathlib.Core.Path.{◌≡◌, sym, ◌∙◌}
use mathlib.Core.List.{List}
use lib.ListN.{length}
use Rattle.relation.specs.Layers.{layers_of}
use Rattle.column_trie.specs.Pool.{store}
use Rattle.column_trie.specs.Table.{empty_table, table_of}
use Rattle.column_trie.specs.declared.ColumnTrie.{ColumnTrie}
use Rattle.from_sorted.specs.Answer.{unless_refused, kept_kinds}
use Rattle.from_sorted.specs.declared.Built.{Built}
use Rattle.from_sorted.proofs.Answer.{if_built, if_refused}
use Rattle.column_trie_permute.specs.Permute.{kinds_permuted, permute_number, rows_left, Permutes}

module _ (pool : List ℕ) (t : ColumnTrie) (columns into : List ℕ) (start capacity : ℕ) {n : ℕ} {u : ColumnTrie} (e : n ≡ permute_number pool t columns (length into) start capacity) where
  pub permutes_refused : (n ≡ 0 → ⊥) → u ≡ empty_table 0 0 0 → Permutes pool t columns into start capacity into (record { number = n; table = u })
  permutes_refused h f =
      let k = permute_number pool t columns (length into) start capacity in
      let z : k ≡ 0 → ⊥ = λ q. h (e ∙ q) in
      let left : u ≡ unless_refused k _ (empty_table 0 0 0) = f ∙ sym (if_refused k _ (empty_table 0 0 0) z) in
      record { answer = λ i. record { number = e i; table = left i }; words = sym (if_refused k _ into z) }

  pub permutes_rebuilt : {into' : List ℕ} → n ≡ 0 → u ≡ table_of start t.arity capacity (kept_kinds t.arity (kinds_permuted t columns)) (rows_left pool t columns) → into' ≡ store start capacity (layers_of t.arity (rows_left pool t columns)) into → Permutes pool t columns into start capacity into' (record { number = n; table = u })
  permutes_rebuilt h f p =
      let k = permute_number pool t columns (length into) start capacity in
      let z : k ≡ 0 = sym e ∙ h in
      let left : u ≡ unless_refused k _ (empty_table 0 0 0) = f ∙ sym (if_built k _ (empty_table 0 0 0) z) in
      record { answer = λ i. record { number = e i; table = left i }; words = p ∙ sym (if_built k _ into z) }

-- one outcome for each list of arguments
pub determined : {pool columns into p q : List ℕ} {t : ColumnTrie} {start capacity : ℕ} {r s : Built} → Permutes pool t columns into start capacity p r → Permutes pool t columns into start capacity q s → (r ≡ s) × (p ≡ q)
determined x y = (x.answer ∙ sym y.answer, x.words ∙ sym y.words)
