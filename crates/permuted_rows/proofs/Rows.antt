-- Rows with their columns in another order: how many, how long, and word by word.
use Prim.Native.Nat.{ℕ, zero, suc, ◌<◌}
use mathlib.Core.Path.{◌≡◌, refl, ap, ◌∙◌}
use mathlib.Core.List.{List, [], ◌∷◌}
use native.Mathlib.Omega.{arith}
use lib.ListN.{length, take, get_or, length-map}
use lib.Seq.{get_or-take, length-take-le}
use Rattle.relation.specs.Order.{Row}
use Rattle.query.specs.Meaning.{part}
use Rattle.column_trie.specs.Limits.{max_arity}
use Rattle.column_trie.specs.Table.{rows_in, Undamaged}
use Rattle.column_trie.specs.declared.ColumnTrie.{ColumnTrie}
use Rattle.column_trie.proofs.Layers.{Whole}
use Rattle.column_trie.proofs.Damage.{undamaged_told}
use Rattle.column_trie.proofs.Tables.{holds}
use Rattle.permuted_rows.specs.Permuted.{permuted, rows_permuted}
use Rattle.permuted_rows.specs.Legible.{Legible}

pub length_permuted : (cs : List ℕ) (rows : List Row) → length (permuted cs rows) ≡ length rows
unfolding permuted
length_permuted cs rows = length-map rows (part cs)

pub permuted_at : (cs : List ℕ) (rows : List Row) (i : ℕ) → i < length rows → get_or (permuted cs rows) i [] ≡ part cs (get_or rows i [])
unfolding permuted
permuted_at cs [] i h = absurd (omega arith)
permuted_at cs (r ∷ rows) zero h = refl
permuted_at cs (r ∷ rows) (suc i) h = permuted_at cs rows i (omega arith)

pub part_word : (cs : List ℕ) (v : Row) (k : ℕ) → k < length cs → get_or (part cs v) k 0 ≡ get_or v (get_or cs k 0) 0
part_word [] v k h = absurd (omega arith)
part_word (c ∷ cs) v zero h = refl
part_word (c ∷ cs) v (suc k) h = part_word cs v k (omega arith)

-- of a table
module _ {pool : List ℕ} {t : ColumnTrie} {columns : List ℕ} (o : Whole t) (l : Legible pool t columns) (long : length columns ≡ max_arity) (i : ℕ) (h : i < t.tuple_count) where
  sound : Undamaged pool t
  sound = undamaged_told pool t l.sound

  counted : i < length (rows_in pool t)
  counted = omega (arith, (holds o sound).counted)

  size : length (take t.arity columns) ≡ t.arity
  size = length-take-le t.arity columns (omega (arith, sound.arity.1))

  row_is : get_or (rows_permuted pool t columns) i [] ≡ part (take t.arity columns) (get_or (rows_in pool t) i [])
  row_is = permuted_at (take t.arity columns) (rows_in pool t) i counted

  pub row_long : length (get_or (rows_permuted pool t columns) i []) ≡ t.arity
  row_long = ap length row_is ∙ length-map (take t.arity columns) (λ (x : ℕ). get_or (get_or (rows_in pool t) i []) x 0) ∙ size

  pub row_word : (k : ℕ) → k < t.arity → get_or (get_or (rows_permuted pool t columns) i []) k 0 ≡ get_or (get_or (rows_in pool t) i []) (get_or columns k 0) 0
  row_word k b =
      ap (λ (r : Row). get_or r k 0) row_is
      ∙ part_word (take t.arity columns) (get_or (rows_in pool t) i []) k (omega (arith, size))
      ∙ ap (λ (c : ℕ). get_or (get_or (rows_in pool t) i []) c 0) (get_or-take t.arity columns k 0 b)
