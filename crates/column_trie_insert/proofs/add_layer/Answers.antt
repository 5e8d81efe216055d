-- `column_trie_insert::add_layer` meets its contract: a shift of the keys, then one of the intervals (Grows.antt).
use Prim.Native.Nat.{ℕ, suc, ◌+◌, ◌-◌}
use mathlib.Core.Path.{◌≡◌}
use mathlib.Core.List.{List}
use native.Mathlib.Omega.{arith}
use lib.ListN.{length, take, drop}
use borrow.Rule.Slice.PartMut.{put_mid}
use Rattle.column_trie.specs.Table.{data_len_at, interval_len_at}
use Rattle.column_trie.proofs.Header.{LayerFits, layer_fits, header_told, length_part}
use Rattle.column_trie.proofs.Words.{part_at}
use Rattle.wedge.proofs.Lists.{length_wedged, length_gap, gap}
use Rattle.wedge.proofs.Lent.{lent_more, lent_lifted, part_long}
use Rattle.layer_by_layer.proofs.Relays.{Keyed, keyed_long}
use Rattle.column_trie_insert.proofs.Grows.{wedged_in, small_left, added_new, added_old}
use Rattle.column_trie_insert.proofs.add_layer.Goals as goal
use Rattle.column_trie_insert.proofs.add_layer.Goals.{After-wedge, Start}

-- where the layer lies
told : (s : Start) → LayerFits (length s.args.pool.now) s.args.t s.args.d
told s = layer_fits (header_told (length s.args.pool.now) s.args.t s.requires.sound) s.requires.depth

pub overflow_add-interval_from : goal.overflow_add-interval_from
overflow_add-interval_from c = omega (arith, told (goal.at.overflow_add-interval_from c).Start, c.layer_at-data_from.ensures)

pub overflow_add-data_to : goal.overflow_add-data_to
overflow_add-data_to c = omega (arith, told (goal.at.overflow_add-data_to c).Start, c.layer_at-data_from.ensures)

pub overflow_add-data_to-2 : goal.overflow_add-data_to-2
overflow_add-data_to-2 c = omega (arith, told (goal.at.overflow_add-data_to-2 c).Start, c.layer_at-data_from.ensures)

pub offset_bounds-pool-data_from : goal.offset_bounds-pool-data_from
offset_bounds-pool-data_from c = omega (arith, told (goal.at.offset_bounds-pool-data_from c).Start, c.layer_at-data_from.ensures)

pub slice_bounds-wedge-end : goal.slice_bounds-wedge-end
slice_bounds-wedge-end c = omega (arith, told (goal.at.slice_bounds-wedge-end c).Start, c.layer_at-data_from.ensures, c.requires.key_room)

-- the pool once the layer's key is in
abbrev lent_keys : (c : After-wedge) → ℕ
lent_keys c = c.layer_at-data_from.result + data_len_at c.args.t c.args.d + 1 - c.layer_at-data_from.result

abbrev pool₁ : (c : After-wedge) → List ℕ
pool₁ c = put_mid c.layer_at-data_from.result (lent_keys c) c.args.pool.now c.wedge.new.words

keyed : (c : After-wedge) → Keyed (wedged_in c.args.at c.args.key) c.args.pool.now c.args.t c.args.d c.layer_at-data_from.result (pool₁ c)
keyed c =
    let from = c.layer_at-data_from.result in
    let n = data_len_at c.args.t c.args.d in
    let f = layer_fits (header_told (length c.args.pool.now) c.args.t c.requires.sound) c.requires.depth in
    record {
      layer = f;
      room = omega (arith, length_wedged c.args.at c.args.key (take n (drop from c.args.pool.now)), length_part c.args.pool.now from n (omega (arith, f, c.layer_at-data_from.ensures)), c.requires.key_room);
      data_from_is = c.layer_at-data_from.ensures;
      words = lent_more c.args.pool.now from n (lent_keys c) (omega arith) (omega (arith, f, c.layer_at-data_from.ensures, c.requires.key_room)) (wedged_in c.args.at c.args.key) (length_wedged c.args.at c.args.key) _ c.wedge.ensures;
    }

-- where the intervals start
abbrev base : (c : After-wedge) → ℕ
base c = c.layer_at-data_from.result + c.args.t.capacity

pub overflow_add-interval_to : goal.overflow_add-interval_to
overflow_add-interval_to c = omega (arith, told (goal.at.overflow_add-interval_to c).Start, c.layer_at-data_from.ensures)

pub slice_bounds-wedge_raised-end : goal.slice_bounds-wedge_raised-end
slice_bounds-wedge_raised-end c = let k = keyed (goal.at.slice_bounds-wedge_raised-end c).After-wedge in omega (arith, k, keyed_long k, c.requires.new c.if-fresh.true)

pub wedge_raised-requires : goal.wedge_raised-requires
wedge_raised-requires c =
    let s = (goal.at.wedge_raised-requires c).After-wedge in
    let k = keyed s in
    let n = c.requires.new c.if-fresh.true in
    let m = base s + interval_len_at c.args.t c.args.d + 1 - base s in
    let long : length (take m (drop (base s) (pool₁ s))) ≡ m = part_long (pool₁ s) (base s) m (omega (arith, k, keyed_long k, n.1)) in
    (omega (arith, long, n.0), λ j h b. omega (arith, part_at (pool₁ s) (base s) m j (omega (arith, long)), small_left c.args.at c.args.key k c.requires.small (base s + j) (omega arith) (omega (arith, long))))

pub overflow_add-interval_from-else-fresh : goal.overflow_add-interval_from-else-fresh
overflow_add-interval_from-else-fresh c = omega (arith, told (goal.at.overflow_add-interval_from-else-fresh c).Start, c.layer_at-data_from.ensures, c.requires.old c.if-fresh.false)

pub overflow_add-interval_from-else-fresh-2 : goal.overflow_add-interval_from-else-fresh-2
overflow_add-interval_from-else-fresh-2 c = omega (arith, told (goal.at.overflow_add-interval_from-else-fresh-2 c).Start, c.layer_at-data_from.ensures, c.requires.old c.if-fresh.false)

pub offset_bounds-pool-interval_from-else-fresh : goal.offset_bounds-pool-interval_from-else-fresh
offset_bounds-pool-interval_from-else-fresh c = omega (arith, told (goal.at.offset_bounds-pool-interval_from-else-fresh c).Start, c.layer_at-data_from.ensures, c.requires.old c.if-fresh.false)

pub slice_bounds-raise-end : goal.slice_bounds-raise-end
slice_bounds-raise-end c = let k = keyed (goal.at.slice_bounds-raise-end c).After-wedge in omega (arith, k, keyed_long k, c.requires.old c.if-fresh.false)

pub raise-requires : goal.raise-requires
raise-requires c = λ j h b.
    let s = (goal.at.raise-requires c).After-wedge in
    let k = keyed s in
    let from = base s + c.args.i + 1 in
    let m = base s + interval_len_at c.args.t c.args.d - from in
    let long : length (take m (drop from (pool₁ s))) ≡ m = part_long (pool₁ s) from m (omega (arith, k, keyed_long k, c.requires.old c.if-fresh.false)) in
    omega (arith, part_at (pool₁ s) from m j (omega (arith, long)), small_left c.args.at c.args.key k c.requires.small (from + j) (omega arith) (omega (arith, long)))

pub returns-then-fresh : goal.returns-then-fresh
returns-then-fresh c =
    let s = (goal.at.returns-then-fresh c).After-wedge in
    let k = keyed s in
    let n = interval_len_at c.args.t c.args.d in
    let m = base s + n + 1 - base s in
    added_new c.args.at c.args.key k c.args.i c.args.fresh (put_mid (base s) m (pool₁ s) c.wedge_raised.new.words) c.if-fresh.true
    (lent_more (pool₁ s) (base s) n m (omega arith) (omega (arith, k, keyed_long k, c.requires.new c.if-fresh.true)) (gap c.args.i c.args.at suc) (length_gap c.args.i c.args.at suc) c.wedge_raised.new.words c.wedge_raised.ensures)

pub returns-else-fresh : goal.returns-else-fresh
returns-else-fresh c =
    let s = (goal.at.returns-else-fresh c).After-wedge in
    let k = keyed s in
    let n = interval_len_at c.args.t c.args.d in
    let from = base s + c.args.i + 1 in
    let m = base s + n - from in
    let o = c.requires.old c.if-fresh.false in
    added_old c.args.at c.args.key k c.args.i c.args.fresh (put_mid from m (pool₁ s) c.raise.new.words) c.if-fresh.false
    (lent_lifted (pool₁ s) (base s) (c.args.i + 1) n from m (omega arith) (omega (arith, o)) (omega (arith, k, keyed_long k)) suc c.raise.new.words c.raise.ensures)
