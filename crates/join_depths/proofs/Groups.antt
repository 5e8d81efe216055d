-- What the pool's words say of an undamaged table: at each depth its keys and intervals are those of the rows that it holds, and from one interval to the
-- next stand the keys under one beginning. Idea: an undamaged table is the layers of its own rows; a part of a layer's keys is a part of the pool.
use Prim.Native.Nat.{ℕ, zero, suc, ◌+◌, ◌-◌, ◌≤◌, ◌<◌}
use native.Mathlib.Omega.{arith}
use mathlib.Core.Path.{◌≡◌, sym, ap, ◌∙◌}
use mathlib.Core.List.{List, [], ◌∷◌, ◌++◌}
use lib.ListN.{length, take, drop, get_or, length-take}
use lib.Seq.{get_or-take, take-take, take-nil, drop-drop, slice}
use Rattle.relation.specs.Order.{Row}
use Rattle.relation.specs.Lists.{Ascends}
use Rattle.relation.specs.Layers.{Layer, layer, prefixes, keys_under, layer_at}
use Rattle.query.specs.Descend.{prefix_at}
use Rattle.query.proofs.Beyond.{keys_ascend}
use Rattle.relation.proofs.Intervals.{layer_is, prefix_length, intervals_many, keys_many, group_under, group_end, group_some, group_child}
use Rattle.column_trie.specs.Pool.{spot, reads}
use Rattle.column_trie.specs.Table.{data_len_at, interval_len_at, layer_in, rows_in, Undamaged}
use Rattle.column_trie.specs.declared.ColumnTrie.{ColumnTrie}
use Rattle.column_trie.proofs.Header.{LayerFits, layer_fits, length_part}
use Rattle.column_trie.proofs.Layers.{reads_at}
use Rattle.column_trie.proofs.Stored.{in_pool}
use Rattle.column_trie.proofs.Words.{part_at}
use Rattle.join_query.proofs.Accepted.{related, table_wide}
use Rattle.leapfrog_search.specs.Leapfrog.{part}
use Rattle.leapfrog_search.proofs.Parts.{part_length}

-- ---- lists

reads_short : (at c : ℕ) (ks ns pool : List ℕ) → (length (reads at c ks ns pool) ≤ length ks) × (length (reads at c ks ns pool) ≤ length ns)
unfolding reads
reads_short at c [] ns pool = (omega arith, omega arith)
reads_short at c (k ∷ ks) [] pool = (omega arith, omega arith)
reads_short at c (k ∷ ks) (n ∷ ns) pool = let r = reads_short (at + c + c) c ks ns pool in (omega arith, omega arith)

drop_take : (b e : ℕ) (l : List ℕ) → drop b (take e l) ≡ take (e - b) (drop b l)
drop_take zero e l = ap (λ (n : ℕ). take n l) (let z : e ≡ e - 0 = omega arith in z)
drop_take (suc b) zero l = ap (λ (n : ℕ). take n (drop (suc b) l)) (let z : 0 ≡ 0 - suc b = omega arith in z)
drop_take (suc b) (suc e) [] = sym (take-nil (suc e - suc b))
drop_take (suc b) (suc e) (x ∷ l) = drop_take b e l ∙ ap (λ (n : ℕ). take n (drop b l)) (let z : e - b ≡ suc e - suc b = omega arith in z)

-- a part of a part
part_part : (pool : List ℕ) (at n b e : ℕ) → e ≤ n → slice b e (take n (drop at pool)) ≡ part pool (at + b) (at + e)
part_part pool at n b e h =
    ap (drop b) (take-take e n (drop at pool) h)
    ∙ drop_take b e (drop at pool)
    ∙ ap (take (e - b)) (drop-drop b at pool)
    ∙ ap (λ (m : ℕ). take m (drop (at + b) pool)) (let z : e - b ≡ at + e - (at + b) = omega arith in z)

-- ---- a table

module _ {pool : List ℕ} {t : ColumnTrie} (u : Undamaged pool t) where
  -- its two lists of lengths have an entry for each depth
  long : (length (take t.arity t.data_len) ≡ t.arity) × (length (take t.arity t.interval_len) ≡ t.arity)
  long =
      let r = reads_short t.start t.capacity (take t.arity t.data_len) (take t.arity t.interval_len) pool in
      let e = u.layers.arity in
      (omega (arith, r.0, e, length-take t.arity t.data_len), omega (arith, r.1, e, length-take t.arity t.interval_len))

  module _ (d : ℕ) (b : d < t.arity) where
    abbrev rows : List Row
    rows = rows_in pool t

    abbrev lay : Layer
    lay = layer_at d rows

    -- where its keys start, and its intervals
    abbrev pub keys_from : ℕ
    keys_from = spot t.start t.capacity d

    abbrev intervals_from : ℕ
    intervals_from = spot t.start t.capacity d + t.capacity

    here : layer_in pool t d ≡ lay
    here =
        sym (reads_at t.start t.capacity (take t.arity t.data_len) (take t.arity t.interval_len) pool d (long.0 ∙ sym long.1) (omega (arith, long.0))
        ∙ (let x : get_or (take t.arity t.data_len) d 0 ≡ data_len_at t d = get_or-take t.arity t.data_len d 0 b in
        let y : get_or (take t.arity t.interval_len) d 0 ≡ interval_len_at t d = get_or-take t.arity t.interval_len d 0 b in
        cc))
        ∙ ap (λ (ls : List Layer). layer ls d) (related u).built
        ∙ layer_is (table_wide u) d b

    fits : LayerFits (length pool) t d
    fits = layer_fits (in_pool u) b

    keys_are : take (data_len_at t d) (drop keys_from pool) ≡ lay.keys
    keys_are = ap (λ (l : Layer). l.keys) here

    pub intervals_are : take (interval_len_at t d) (drop intervals_from pool) ≡ lay.intervals
    intervals_are = ap (λ (l : Layer). l.intervals) here

    pub key_count : data_len_at t d ≡ length lay.keys
    key_count = sym (length_part pool keys_from (data_len_at t d) (omega (arith, fits))) ∙ ap length keys_are

    pub interval_count : interval_len_at t d ≡ length lay.intervals
    interval_count = sym (length_part pool intervals_from (interval_len_at t d) (omega (arith, fits))) ∙ ap length intervals_are

    key_word : (j : ℕ) → j < data_len_at t d → get_or pool (keys_from + j) 0 ≡ get_or lay.keys j 0
    key_word j k = sym (part_at pool keys_from (data_len_at t d) j k) ∙ ap (λ (l : List ℕ). get_or l j 0) keys_are

    -- they lie in the pool, in one part
    pub keys_in : keys_from + data_len_at t d ≤ length pool
    keys_in = omega (arith, fits)

    pub keys_run : part pool keys_from (keys_from + data_len_at t d) ≡ lay.keys
    keys_run = ap (λ (n : ℕ). take n (drop keys_from pool)) (let e : keys_from + data_len_at t d - keys_from ≡ data_len_at t d = omega arith in e) ∙ keys_are

    pub intervals_in : intervals_from + interval_len_at t d ≤ length pool
    intervals_in = omega (arith, fits)

    -- an interval for each beginning of d words; where there are no keys, there are no longer beginnings
    pub interval_each : interval_len_at t d ≡ length (prefixes d rows)
    interval_each = interval_count ∙ intervals_many (table_wide u) d b

    pub key_each : data_len_at t d ≡ length (prefixes (suc d) rows)
    key_each = key_count ∙ keys_many (table_wide u) d b

    -- the group of interval i, as places of the pool
    abbrev pub low : ℕ → ℕ
    low i = keys_from + get_or lay.intervals i 0

    abbrev pub high : ℕ → ℕ
    high i = keys_from + get_or lay.intervals (suc i) (length lay.keys)

    module _ (i : ℕ) (k : i < length (prefixes d rows)) where
      ends_in : get_or lay.intervals (suc i) (length lay.keys) ≤ data_len_at t d
      ends_in = omega (arith, group_end (table_wide u) d b i k, key_count)

      -- its keys are those under the beginning
      pub group_run : part pool (low i) (high i) ≡ keys_under (prefix_at d i rows) rows
      group_run =
          sym (part_part pool keys_from (data_len_at t d) (get_or lay.intervals i 0) (get_or lay.intervals (suc i) (length lay.keys)) ends_in)
          ∙ ap (slice (get_or lay.intervals i 0) (get_or lay.intervals (suc i) (length lay.keys))) keys_are
          ∙ group_under (table_wide u) d b i k

      pub group_ends : high i ≤ length pool
      group_ends = omega (arith, ends_in, fits)

      pub group_starts : low i < high i
      group_starts = omega (arith, group_some (table_wide u) d b i k, ap length group_run, part_length pool (low i) (high i) group_ends)

      pub group_rises : Ascends ◌<◌ (part pool (low i) (high i))
      group_rises = rw group_run (keys_ascend (prefix_at d i rows) (table_wide u) (omega (arith, prefix_length (table_wide u) d i (omega arith) k)))

      -- the key at a place of it leads to an interval below, whose words are one more
      pub group_below : (at : ℕ) → low i ≤ at → at < high i → (at - keys_from < length (prefixes (suc d) rows)) × (prefix_at (suc d) (at - keys_from) rows ≡ prefix_at d i rows ++ get_or pool at 0 ∷ [])
      group_below at lo hi =
          let j = at - keys_from in
          let e : keys_from + j ≡ at = omega arith in
          let c = group_child (table_wide u) d b i j k (omega arith) (omega arith) in
          (c.0, c.1 ∙ ap (λ (x : ℕ). prefix_at d i rows ++ x ∷ []) (sym (key_word j (omega (arith, ends_in))) ∙ ap (λ (x : ℕ). get_or pool x 0) e))
