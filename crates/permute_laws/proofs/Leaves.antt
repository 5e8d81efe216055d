-- What an accepted rebuild leaves: an undamaged table with the permuted rows, ascending, and their kinds.
use Prim.Native.Nat.{ℕ, ◌≤◌}
use mathlib.Core.Path.{◌≡◌, refl, sym, ap, ◌∙◌, subst, subst₂}
use mathlib.Core.List.Memᴰ
use mathlib.Core.List.{List}
use native.Mathlib.Omega.{arith}
use lib.ListN.{length, take, length-map}
use lib.Seq.{length-take-le}
use Rattle.relation.specs.Order.{Row}
use Rattle.relation.specs.Rows.{Width, Members}
use Rattle.relation.specs.Layers.{layers_of}
use Rattle.relation.proofs.Sorting.{as_set_asc, as_set_members, length_as_set}
use Rattle.relation.proofs.Tables.{layers_undamaged}
use Rattle.query.specs.Meaning.{part}
use Rattle.column_trie.specs.Limits.{max_arity}
use Rattle.column_trie.specs.Pool.{store}
use Rattle.column_trie.specs.Table.{table_of, empty_table, layers_in, rows_in, Undamaged}
use Rattle.column_trie.specs.declared.ColumnTrie.{ColumnTrie}
use Rattle.column_trie.proofs.Damage.{undamaged_told}
use Rattle.column_trie.proofs.Layers.{Whole}
use Rattle.column_trie.proofs.Stored.{header_whole}
use Rattle.column_trie.proofs.Tables.{Holds, holds, stored}
use Rattle.from_sorted.specs.Answer.{kept_kinds}
use Rattle.from_sorted.specs.declared.Built.{Built}
use Rattle.from_sorted.proofs.Answer.{if_built}
use Rattle.from_sorted.proofs.Taken.{kept_plain}
use Rattle.permuted_rows.specs.Permuted.{permuted, rows_permuted}
use Rattle.permuted_rows.proofs.Rows.{length_permuted}
use Rattle.column_trie_permute.specs.Permute.{kinds_permuted, permute_number, rows_left, Permutes}
use Rattle.column_trie_permute.proofs.Numbers.{Accepted, accepted}

-- the table r in `into` is t with its columns permuted
pub record PermutedTable (pool : List ℕ) (t : ColumnTrie) (columns into : List ℕ) (r : ColumnTrie) : Type 0 where
  pub undamaged : Undamaged into r
  pub rows : rows_in into r ≡ rows_left pool t columns
  pub members : Members (rows_in into r) (rows_permuted pool t columns)
  pub layers : layers_in into r ≡ layers_of t.arity (rows_left pool t columns)
  pub kinds : r.grade ≡ kept_kinds t.arity (kinds_permuted t columns)

-- permuted rows have a word for each of the columns
pub permuted_wide : (cs : List ℕ) (rows : List Row) → Width (length cs) (permuted cs rows)
unfolding permuted
permuted_wide cs rows q m =
    let f = Memᴰ.of_map (part cs) rows m in
    ap length (sym f.2) ∙ length-map cs _

-- what a contract with number 0 says of table and pool
module _ {pool : List ℕ} {t : ColumnTrie} {columns into : List ℕ} {start capacity : ℕ} {into' : List ℕ} {r : Built} (o : Whole t) (long : length columns ≡ max_arity) (b : Permutes pool t columns into start capacity into' r) (z : r.number ≡ 0) where
  pub zero_number : permute_number pool t columns (length into) start capacity ≡ 0
  zero_number = sym (ap (λ (x : Built). x.number) b.answer) ∙ z

  pub rebuild_accepted : Accepted pool t columns (length into) start capacity
  rebuild_accepted = accepted pool t columns (length into) start capacity zero_number

  pub sound : Undamaged pool t
  sound = undamaged_told pool t rebuild_accepted.sound

  pub old : Holds pool t (rows_in pool t)
  old = holds o sound

  pub size : length (take t.arity columns) ≡ t.arity
  size = length-take-le t.arity columns (omega (arith, sound.arity.1))

  pub rebuilt_pool : into' ≡ store start capacity (layers_of t.arity (rows_left pool t columns)) into
  rebuilt_pool = b.words ∙ if_built (permute_number pool t columns (length into) start capacity) _ into zero_number

  pub rebuilt_table : r.table ≡ table_of start t.arity capacity (kept_kinds t.arity (kinds_permuted t columns)) (rows_left pool t columns)
  rebuilt_table = ap (λ (x : Built). x.table) b.answer ∙ if_built (permute_number pool t columns (length into) start capacity) _ (empty_table 0 0 0) zero_number

  pub wide : Width t.arity (rows_left pool t columns)
  wide q m = permuted_wide (take t.arity columns) (rows_in pool t) q ((as_set_members (rows_permuted pool t columns) q).0 m) ∙ size

  pub few : length (rows_left pool t columns) ≤ capacity
  few = omega (arith, length_as_set (rows_permuted pool t columns), length_permuted (take t.arity columns) (rows_in pool t), old.counted, rebuild_accepted.room)

  -- the new header's arrays of lengths have one entry for each depth
  pub rebuilt_whole : Whole r.table
  rebuilt_whole =
      let u = layers_undamaged capacity sound.arity.0 (as_set_asc (rows_permuted pool t columns)) wide few in
      subst Whole (sym rebuilt_table) (header_whole start t.arity capacity (kept_kinds t.arity (kinds_permuted t columns)) (layers_of t.arity (rows_left pool t columns)) (length (rows_left pool t columns)) u.arity sound.arity.1)

  pub a_rebuild_leaves_the_table_with_its_columns_permuted : PermutedTable pool t columns into' r.table
  a_rebuild_leaves_the_table_with_its_columns_permuted =
      let a = rebuild_accepted in
      let g = kept_kinds t.arity (kinds_permuted t columns) in
      let s = stored start t.arity capacity g (rows_left pool t columns) into sound.arity.0 sound.arity.1 a.roomy a.small a.fits (kept_plain t.arity (kinds_permuted t columns)) (as_set_asc (rows_permuted pool t columns)) wide few in
      subst₂ (PermutedTable pool t columns) (sym rebuilt_pool) (sym rebuilt_table) (record {
        undamaged = s.undamaged;
        rows = s.rows_back;
        members = subst (λ (rs : List Row). Members rs (rows_permuted pool t columns)) (sym s.rows_back) (as_set_members (rows_permuted pool t columns));
        layers = s.layers_back;
        kinds = refl;
      })
