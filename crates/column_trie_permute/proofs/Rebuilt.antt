-- An accepted rebuild: its rows can be read and ranked, the ranks are laid where the last keys will lie, and what is filled over them is the new table.
use Prim.Native.Nat.{ℕ, ◌+◌, ◌-◌, ◌≤◌, ◌<◌}
use mathlib.Core.Path.{◌≡◌, refl, sym, ap, ◌∙◌, subst}
use mathlib.Core.List.{List, []}
use native.Mathlib.Omega.{arith}
use lib.ListN.{length, get_or}
use Rattle.relation.specs.Order.{Row}
use Rattle.relation.specs.Rows.{Asc, Width, sort, as_set}
use Rattle.relation.specs.Layers.{layers_of}
use Rattle.relation.proofs.Lists.{in_get_or}
use Rattle.relation.proofs.Sorting.{sort_sorted, sort_members, as_set_asc, as_set_cong}
use Rattle.relation.proofs.Tables.{layers_count, layers_undamaged}
use Rattle.column_trie.specs.Limits.{max_arity}
use Rattle.column_trie.specs.Pool.{store, spot}
use Rattle.column_trie.specs.Table.{Undamaged, empty_table, refilled}
use Rattle.column_trie.specs.declared.ColumnTrie.{ColumnTrie}
use Rattle.column_trie.proofs.Damage.{undamaged_told}
use Rattle.column_trie.proofs.Header.{layer_inside}
use Rattle.column_trie.proofs.Layers.{Whole}
use Rattle.column_trie.proofs.Pool.{lay_in, lay_length}
use Rattle.column_trie.proofs.Tables.{holds}
use Rattle.from_sorted.specs.Answer.{kept_kinds}
use Rattle.from_sorted.specs.Push.{Filling, Fills}
use Rattle.from_sorted.proofs.Answer.{regraded}
use Rattle.permuted_rows.specs.Legible.{Legible}
use Rattle.permuted_rows.specs.Seen.{rows_seen}
use Rattle.permuted_rows.specs.declared.Permuted.{Permuted}
use Rattle.permuted_rows.proofs.Rows.{row_long}
use Rattle.permuted_fill.specs.Ranks.{RankAt, RankedIn, Laying}
use Rattle.permuted_fill.proofs.Ranks.{rows_count}
use Rattle.column_trie_permute.specs.Permute.{kinds_permuted, rows_left}
use Rattle.column_trie_permute.proofs.Columns.{columns_inside}
use Rattle.column_trie_permute.proofs.Distinct.{permuted_different, sort_is_set}
use Rattle.column_trie_permute.proofs.Numbers.{Accepted}
use Rattle.column_trie_permute.proofs.Under.{store_under}

-- the table that is filled
abbrev pub vacant : ColumnTrie → List ℕ → ℕ → ℕ → ColumnTrie
vacant t columns start capacity = regraded (empty_table start t.arity capacity) (kept_kinds t.arity (kinds_permuted t columns))

module _ {pool : List ℕ} {t : ColumnTrie} {columns : List ℕ} {len start capacity : ℕ} (o : Whole t) (long : length columns ≡ max_arity) (a : Accepted pool t columns len start capacity) where
  pub sound : Undamaged pool t
  sound = undamaged_told pool t a.sound

  pub legible : Legible pool t columns
  legible = record { sound = a.sound; inside = columns_inside t.arity columns sound.arity.1 long a.permutation }

  -- the words of the last layer lie in the second pool
  pub base_inside : spot start capacity (t.arity - 1) + t.tuple_count ≤ len
  base_inside = omega (arith, a.room, a.fits, sound.arity.0, layer_inside start t.arity capacity (t.arity - 1) (omega (arith, sound.arity.0)))

module _ (rows : Permuted) {len start capacity : ℕ} (long : length rows.columns ≡ max_arity) (a : Accepted rows.pool.now rows.table rows.columns len start capacity) where
  intact : Undamaged rows.pool.now rows.table
  intact = sound rows.whole long a

  -- the permuted rows, and as they are sorted
  width : Width rows.table.arity (rows_seen rows)
  width q m = let p = in_get_or [] m in sym (ap length p.2) ∙ row_long rows.whole rows.legible long p.0 (omega (arith, p.1, rows_count rows))

  width_sort : Width rows.table.arity (sort (rows_seen rows))
  width_sort q m = width q ((sort_members (rows_seen rows) q).0 m)

  sort_set : sort (rows_seen rows) ≡ rows_left rows.pool.now rows.table rows.columns
  sort_set = sort_is_set (permuted_different a.permutation (holds rows.whole intact).width (holds rows.whole intact).asc)

  asc_sort : Asc (sort (rows_seen rows))
  asc_sort = subst Asc (sym sort_set) (as_set_asc (rows_seen rows))

  -- the ranks are laid
  module _ {into into' : List ℕ} (l : length into ≡ len) (r : RankedIn rows into (spot start capacity (rows.table.arity - 1)) into') where
    kept : length into' ≡ len
    kept = ap length r.words ∙ lay_length into (spot start capacity (rows.table.arity - 1)) r.numbers ∙ l

    filling : Filling (length into') (vacant rows.table rows.columns start capacity) (sort (rows_seen rows))
    filling = record {
      positive = intact.arity.0;
      few = intact.arity.1;
      small = a.small;
      fits = omega (arith, a.fits, kept);
      room = omega (arith, r.ranked.many, a.room);
      sorted = sort_sorted (rows_seen rows);
      empty = refl;
    }

    lies : (j : ℕ) → j < rows.table.tuple_count → RankAt rows j (get_or into' (spot start capacity (rows.table.arity - 1) + j) 0)
    lies j h =
        let at = spot start capacity (rows.table.arity - 1) in
        let e : get_or into' (at + j) 0 ≡ get_or r.numbers j 0 = ap (λ (p : List ℕ). get_or p (at + j) 0) r.words ∙ lay_in into at r.numbers j 0 (omega (arith, r.ranked.long)) (omega (arith, r.ranked.long, (base_inside rows.whole long a))) in
        subst (RankAt rows j) (sym e) (r.ranked.ranks j h)

    laying_vacant : Laying rows into' (vacant rows.table rows.columns start capacity)
    laying_vacant = record { arity = refl; many = r.ranked.many; fill = filling; width = width_sort; asc = asc_sort; lies = lies }

    pub laying : {empty : ColumnTrie} → empty ≡ vacant rows.table rows.columns start capacity → Laying rows into' empty
    laying e = subst (Laying rows into') (sym e) laying_vacant

    -- and gone once the table is filled
    own_set : as_set (sort (rows_seen rows)) ≡ rows_left rows.pool.now rows.table rows.columns
    own_set = as_set_cong (sort (rows_seen rows)) (rows_seen rows) (sort_members (rows_seen rows))

    left_many : length (rows_left rows.pool.now rows.table rows.columns) ≡ rows.table.tuple_count
    left_many = ap length (sym sort_set) ∙ sym r.ranked.many

    ranks_gone : store start capacity (layers_of rows.table.arity (rows_left rows.pool.now rows.table rows.columns)) into' ≡ store start capacity (layers_of rows.table.arity (rows_left rows.pool.now rows.table rows.columns)) into
    ranks_gone =
        let n = rows.table.arity in
        let ls = layers_of n (rows_left rows.pool.now rows.table rows.columns) in
        let c = layers_count n 0 (rows_left rows.pool.now rows.table rows.columns) in
        let u = layers_undamaged capacity intact.arity.0 (as_set_asc (rows_seen rows)) (subst (Width n) sort_set width_sort) (omega (arith, left_many, a.room)) in
        ap (store start capacity ls) r.words
        ∙ store_under start capacity ls into (n - 1) r.numbers (omega (arith, c, intact.arity.0)) (λ e m. u.room e (omega (arith, c))) (omega (arith, u.counted, left_many, r.ranked.long)) (omega (arith, r.ranked.long, (base_inside rows.whole long a)))

    module _ {empty : ColumnTrie} {into'' : List ℕ} {filled : ColumnTrie} (e : empty ≡ vacant rows.table rows.columns start capacity) (f : Fills into' empty (sort (rows_seen rows)) into'' filled) where
      fills : Fills into' (vacant rows.table rows.columns start capacity) (sort (rows_seen rows)) into'' filled
      fills = subst (λ (u : ColumnTrie). Fills into' u (sort (rows_seen rows)) into'' filled) e f

      pub rebuilt_table : filled ≡ refilled (vacant rows.table rows.columns start capacity) (rows_left rows.pool.now rows.table rows.columns)
      rebuilt_table = fills.header ∙ ap (refilled (vacant rows.table rows.columns start capacity)) own_set

      pub rebuilt_words : into'' ≡ store start capacity (layers_of rows.table.arity (rows_left rows.pool.now rows.table rows.columns)) into
      rebuilt_words = fills.words ∙ ap (λ (rs : List Row). store start capacity (layers_of rows.table.arity rs) into') own_set ∙ ranks_gone
