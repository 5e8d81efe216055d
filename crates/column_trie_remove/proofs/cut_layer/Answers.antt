-- `column_trie_remove::cut_layer` meets its contract: a shift of the keys, then one of the intervals (Shrinks.antt).
use Prim.Native.Nat.{ℕ, ◌+◌, ◌-◌}
use mathlib.Core.Path.{◌≡◌, ap, ◌∙◌}
use mathlib.Core.List.{List}
use native.Mathlib.Omega.{arith}
use lib.ListN.{length, take, drop}
use borrow.Rule.Slice.PartMut.{put_mid}
use Rattle.column_trie.specs.Table.{data_len_at, interval_len_at}
use Rattle.column_trie.proofs.Header.{LayerFits, layer_fits, header_told, length_part}
use Rattle.column_trie.proofs.Words.{part_at}
use Rattle.wedge.specs.Shift.{lessened}
use Rattle.wedge.proofs.Lists.{length_closed, length_lapse, lapse}
use Rattle.wedge.proofs.Lent.{lent_less, lent_lifted, part_long}
use Rattle.layer_by_layer.proofs.Relays.{Keyed, keyed_long}
use Rattle.column_trie_remove.proofs.Shrinks.{closed_up, positive_left, cut_lone, cut_kept}
use Rattle.column_trie_remove.proofs.cut_layer.Goals as goal
use Rattle.column_trie_remove.proofs.cut_layer.Goals.{After-close, Start}

-- where the layer lies
told : (s : Start) → LayerFits (length s.args.pool.now) s.args.t s.args.d
told s = layer_fits (header_told (length s.args.pool.now) s.args.t s.requires.sound) s.requires.depth

pub overflow_add-interval_from : goal.overflow_add-interval_from
overflow_add-interval_from c = omega (arith, told (goal.at.overflow_add-interval_from c).Start, c.layer_at-data_from.ensures)

pub overflow_add-data_to : goal.overflow_add-data_to
overflow_add-data_to c = omega (arith, told (goal.at.overflow_add-data_to c).Start, c.layer_at-data_from.ensures)

pub offset_bounds-pool-data_from : goal.offset_bounds-pool-data_from
offset_bounds-pool-data_from c = omega (arith, told (goal.at.offset_bounds-pool-data_from c).Start, c.layer_at-data_from.ensures)

pub slice_bounds-close-end : goal.slice_bounds-close-end
slice_bounds-close-end c = omega (arith, told (goal.at.slice_bounds-close-end c).Start, c.layer_at-data_from.ensures)

pub close-requires : goal.close-requires
close-requires c =
    let n = c.layer_at-data_from.result + data_len_at c.args.t c.args.d - c.layer_at-data_from.result in
    omega (arith, c.requires.place, part_long c.args.pool.now c.layer_at-data_from.result n (omega (arith, told (goal.at.close-requires c).Start, c.layer_at-data_from.ensures)))

-- the pool once the layer's key is out
abbrev lent_keys : (c : After-close) → ℕ
lent_keys c = c.layer_at-data_from.result + data_len_at c.args.t c.args.d - c.layer_at-data_from.result

abbrev pool₁ : (c : After-close) → List ℕ
pool₁ c = put_mid c.layer_at-data_from.result (lent_keys c) c.args.pool.now c.close.new.words

keyed : (c : After-close) → Keyed (closed_up c.args.at) c.args.pool.now c.args.t c.args.d c.layer_at-data_from.result (pool₁ c)
keyed c =
    let from = c.layer_at-data_from.result in
    let n = data_len_at c.args.t c.args.d in
    let f = layer_fits (header_told (length c.args.pool.now) c.args.t c.requires.sound) c.requires.depth in
    let long : length (take n (drop from c.args.pool.now)) ≡ n = length_part c.args.pool.now from n (omega (arith, f, c.layer_at-data_from.ensures)) in
    let short : length (closed_up c.args.at (take n (drop from c.args.pool.now))) ≡ n - 1 = length_closed c.args.at (take n (drop from c.args.pool.now)) (omega (arith, long, c.requires.place)) ∙ ap (λ (m : ℕ). m - 1) long in
    record {
      layer = f;
      room = omega (arith, short, f);
      data_from_is = c.layer_at-data_from.ensures;
      words = lent_less c.args.pool.now from n (lent_keys c) (omega arith) (omega (arith, f, c.layer_at-data_from.ensures)) (closed_up c.args.at) short c.close.new.words c.close.ensures;
    }

-- where the intervals start
abbrev base : (c : After-close) → ℕ
base c = c.layer_at-data_from.result + c.args.t.capacity

pub overflow_add-interval_to : goal.overflow_add-interval_to
overflow_add-interval_to c = omega (arith, told (goal.at.overflow_add-interval_to c).Start, c.layer_at-data_from.ensures)

pub slice_bounds-close_lowered-end : goal.slice_bounds-close_lowered-end
slice_bounds-close_lowered-end c = let k = keyed (goal.at.slice_bounds-close_lowered-end c).After-close in omega (arith, k, keyed_long k)

pub close_lowered-requires : goal.close_lowered-requires
close_lowered-requires c =
    let s = (goal.at.close_lowered-requires c).After-close in
    let k = keyed s in
    let m = base s + interval_len_at c.args.t c.args.d - base s in
    let long : length (take m (drop (base s) (pool₁ s))) ≡ m = part_long (pool₁ s) (base s) m (omega (arith, k, keyed_long k)) in (
      omega (arith, long, c.requires.interval),
      λ j h b. omega (arith, part_at (pool₁ s) (base s) m j (omega (arith, long)), positive_left c.args.i c.args.at k c.requires.place c.requires.positive (base s + j) (omega arith) (omega (arith, long))),
    )

pub overflow_add-interval_from-else-lone : goal.overflow_add-interval_from-else-lone
overflow_add-interval_from-else-lone c = omega (arith, told (goal.at.overflow_add-interval_from-else-lone c).Start, c.layer_at-data_from.ensures, c.requires.interval)

pub overflow_add-interval_from-else-lone-2 : goal.overflow_add-interval_from-else-lone-2
overflow_add-interval_from-else-lone-2 c = omega (arith, told (goal.at.overflow_add-interval_from-else-lone-2 c).Start, c.layer_at-data_from.ensures, c.requires.interval)

pub offset_bounds-pool-interval_from-else-lone : goal.offset_bounds-pool-interval_from-else-lone
offset_bounds-pool-interval_from-else-lone c = omega (arith, told (goal.at.offset_bounds-pool-interval_from-else-lone c).Start, c.layer_at-data_from.ensures, c.requires.interval)

pub slice_bounds-lower-end : goal.slice_bounds-lower-end
slice_bounds-lower-end c = let k = keyed (goal.at.slice_bounds-lower-end c).After-close in omega (arith, k, keyed_long k)

pub lower-requires : goal.lower-requires
lower-requires c = λ j h b.
    let s = (goal.at.lower-requires c).After-close in
    let k = keyed s in
    let from = base s + c.args.i + 1 in
    let m = base s + interval_len_at c.args.t c.args.d - from in
    let long : length (take m (drop from (pool₁ s))) ≡ m = part_long (pool₁ s) from m (omega (arith, k, keyed_long k, c.requires.interval)) in
    omega (arith, part_at (pool₁ s) from m j (omega (arith, long)), positive_left c.args.i c.args.at k c.requires.place c.requires.positive (from + j) (omega arith) (omega (arith, long)))

pub returns-then-lone : goal.returns-then-lone
returns-then-lone c =
    let s = (goal.at.returns-then-lone c).After-close in
    let k = keyed s in
    let n = interval_len_at c.args.t c.args.d in
    let m = base s + n - base s in
    let long : length (take n (drop (base s) (pool₁ s))) ≡ n = length_part (pool₁ s) (base s) n (omega (arith, k, keyed_long k)) in
    cut_lone c.args.i c.args.at k c.requires.place c.args.lone (put_mid (base s) m (pool₁ s) c.close_lowered.new.words) c.if-lone.true c.requires.interval
    (lent_less (pool₁ s) (base s) n m (omega arith) (omega (arith, k, keyed_long k)) (lapse c.args.i lessened)
    (length_lapse c.args.i lessened (take n (drop (base s) (pool₁ s))) (omega (arith, long, c.requires.interval)) ∙ ap (λ (z : ℕ). z - 1) long)
    c.close_lowered.new.words c.close_lowered.ensures)

pub returns-else-lone : goal.returns-else-lone
returns-else-lone c =
    let s = (goal.at.returns-else-lone c).After-close in
    let k = keyed s in
    let n = interval_len_at c.args.t c.args.d in
    let from = base s + c.args.i + 1 in
    let m = base s + n - from in
    cut_kept c.args.i c.args.at k c.requires.place c.args.lone (put_mid from m (pool₁ s) c.lower.new.words) c.if-lone.false
    (lent_lifted (pool₁ s) (base s) (c.args.i + 1) n from m (omega arith) (omega (arith, c.requires.interval)) (omega (arith, k, keyed_long k)) lessened c.lower.new.words c.lower.ensures)
