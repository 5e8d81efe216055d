-- The loop that adds a row, layer by layer: each turn gives layer d its key, with an interval of its own where the parent is new (crate
-- layer_by_layer says which layers stand in the pool on the way).
use Prim.Native.Nat.{ℕ, suc, ◌+◌, ◌-◌, ◌≤◌, ◌<◌, ◌^◌}
use mathlib.Core.Path.{◌≡◌, refl, sym, ap, subst, ◌∙◌}
use mathlib.Core.Bool.{Bool, true, false}
use mathlib.Core.Logic.{◌⊎◌, inl, inr}
use mathlib.Core.List.{List, []}
use native.Mathlib.Omega.{arith}
use Rattle.std.specs.Prelude.{Option, Some, None, is_none, unwrap_or}
use lib.ListN.{length, take, get_or}
use Rattle.relation.specs.Order.{Row}
use Rattle.relation.specs.Lists.{◌∈◌}
use Rattle.relation.specs.Rows.{put}
use Rattle.relation.specs.Layers.{Layer, layers_of, prefixes}
use Rattle.relation.proofs.Rank.{rank_at, rank_le}
use Rattle.relation.proofs.Layers.{keys_at, intervals_at, length_keys, length_intervals, prefixes_asc}
use Rattle.relation.proofs.Relations.{length_prefixes}
use Rattle.relation.proofs.Children.{begin_is}
use Rattle.relation.proofs.Insert.{rank_of, insert_count, put_width, below}
use Rattle.column_trie.specs.Pool.{store, spot}
use Rattle.column_trie.specs.Table.{relengthed, interval_len_at, refilled, layer_in, header_sound}
use Rattle.column_trie.specs.declared.ColumnTrie.{ColumnTrie}
use Rattle.column_trie.proofs.Header.{InPool}
use Rattle.column_trie.proofs.Layers.{Whole}
use Rattle.column_trie.proofs.Tables.{Holds}
use Rattle.layer_by_layer.specs.Grow.{grown}
use Rattle.layer_by_layer.specs.Relay.{Relaid}
use Rattle.layer_by_layer.proofs.Changing.{Change, Changing, pool_long, out_sound, out_whole, out_arity, out_capacity, layer_old, key_count, interval_count, interval_word, changing_step, changed_words, changed_header}
use Rattle.layer_by_layer.proofs.Leaves.{Leaves, leaves_at, grown_is, leaves_deeper}
use Rattle.column_trie_insert.specs.Grow.{Roomy}

-- an undamaged table with room, and a row that it lacks
pub record Ready (pool : List ℕ) (t : ColumnTrie) (rows : List Row) (r : Row) : Type 0 where
  pub whole : Whole t
  pub inside : InPool (length pool) t
  pub held : Holds pool t rows
  pub long : length r ≡ t.arity
  pub room : length rows < t.capacity
  pub absent : r ∈ rows → ⊥

-- the layers above d have their key
pub record Growing (pool₀ : List ℕ) (t : ColumnTrie) (rows : List Row) (r : Row) (pool : List ℕ) (out : ColumnTrie) (d i at : ℕ) (fresh : Bool) : Type 0 where
  pub layers : Changing pool₀ t rows (put r rows) pool out d
  pub leaves : Leaves t.arity rows r d i at fresh

module _ {pool₀ : List ℕ} {t : ColumnTrie} {rows : List Row} {r : Row} (y : Ready pool₀ t rows r) where
  counted : length (put r rows) ≡ suc (length rows)
  counted = insert_count t.arity rows r y.held.width y.long y.absent

  pub change : Change pool₀ t rows (put r rows)
  change = record { whole = y.whole; inside = y.inside; held = y.held; width = put_width r y.held.width y.long; room = omega (arith, counted, y.room) }

  module _ {pool : List ℕ} {out : ColumnTrie} {d i at : ℕ} {fresh : Bool} (g : Growing pool₀ t rows r pool out d i at fresh) where
    pub grown_long : length pool ≡ length pool₀
    grown_long = pool_long change g.layers

    pub grown_sound : header_sound (length pool) out ≡ true
    grown_sound = out_sound change g.layers

    pub grown_whole : Whole out
    grown_whole = out_whole change g.layers

    module _ (h : d < t.arity) where
      pub inside_out : d < out.arity
      inside_out = subst (λ (n : ℕ). d < n) (sym (out_arity change g.layers)) h

      -- where a new parent's children start
      begins_place : fresh ≡ true → get_or (layer_in pool out d).intervals i (length (layer_in pool out d).keys) ≡ rank_of rows r (suc d)
      begins_place f =
          ap (λ (l : Layer). get_or l.intervals i (length l.keys)) (layer_old change g.layers h)
          ∙ ap (λ (n : ℕ). get_or (intervals_at d rows) n (length (keys_at d rows))) g.leaves.place
          ∙ sym (below t.arity rows r y.held.width y.long d h (g.leaves.new f)).1

      -- the words of the intervals are small
      small_words : (j : ℕ) → spot out.start out.capacity d + out.capacity ≤ j → j < spot out.start out.capacity d + out.capacity + interval_len_at out d → get_or pool j 0 < 2 ^ 32
      small_words j p q =
          let k = j - (spot out.start out.capacity d + out.capacity) in
          let l : k < length (prefixes d rows) = omega (arith, interval_count change g.layers h, length_intervals d rows) in
          omega (arith, interval_word change g.layers h j p q, begin_is t.arity d rows y.held.width h k l, rank_le (get_or (prefixes d rows) k []) (prefixes (suc d) rows), length_prefixes (suc d) rows, y.room, y.inside.small)

      -- the layer takes one more
      pub room_here : at ≡ rank_of rows r (suc d) → Roomy pool out d i at fresh
      room_here e =
          let keys = key_count change g.layers h in
          let intervals = interval_count change g.layers h in
          let capacity_is = out_capacity change g.layers in
          record {
            sound = grown_sound;
            depth = inside_out;
            key_room = omega (arith, keys, length_keys d rows, length_prefixes (suc d) rows, y.room, capacity_is);
            place = omega (arith, keys, length_keys d rows, rank_le (take (suc d) r) (prefixes (suc d) rows));
            old = λ f. omega (arith, intervals, length_intervals d rows, g.leaves.place, (rank_at (prefixes_asc d rows) (g.leaves.old f).1).0);
            new = λ f. (
              omega (arith, intervals, length_intervals d rows, g.leaves.place, rank_le (take d r) (prefixes d rows)),
              omega (arith, intervals, length_intervals d rows, length_prefixes d rows, y.room, capacity_is),
            );
            small = small_words;
          }

      -- and is then the layer with the row
      pub growing_step :
          {pool' : List ℕ} {out' : ColumnTrie} → at ≡ rank_of rows r (suc d) → Relaid pool pool' out d (grown fresh i at (get_or r d 0) (layer_in pool out d)) out' →
          Growing pool₀ t rows r pool' out' (d + 1) at 0 true
      growing_step e s =
          record {
            layers = changing_step change g.layers h (ap (grown fresh i at (get_or r d 0)) (layer_old change g.layers h) ∙ grown_is y.held.width y.long g.leaves h e) s;
            leaves = leaves_deeper y.held.width y.long g.leaves h e;
          }

    -- all layers have their key
    pub grown_words : t.arity ≤ d → pool ≡ store t.start t.capacity (layers_of t.arity (put r rows)) pool₀
    grown_words h = changed_words change g.layers h

    pub grown_header :
        t.arity ≤ d →
        ◌≡◌ {A = ColumnTrie} (relengthed out out.data_len out.interval_len (t.tuple_count + 1)) (refilled t (put r rows))
    grown_header h = changed_header change g.layers h (omega (arith, y.held.counted, counted))

-- where the key goes, known or read, and whether its parent is new
abbrev pub At : (pool₀ : List ℕ) (t : ColumnTrie) (rows : List Row) (r : Row) (pool : List ℕ) (out : ColumnTrie) (d i : ℕ) → Option ℕ → Type 0
At pool₀ t rows r pool out d i known = Growing pool₀ t rows r pool out d i (unwrap_or known 0) (is_none known)

pub placed :
    {pool₀ : List ℕ} {t : ColumnTrie} {rows : List Row} {r : Row} {pool : List ℕ} {out : ColumnTrie} {d i : ℕ} {known : Option ℕ} → Ready pool₀ t rows r → At pool₀ t rows r pool out d i known → d < t.arity → (at : ℕ) (fresh : Bool) →
    ((known ≡ None) × (fresh ≡ true) × (at ≡ get_or (layer_in pool out d).intervals i (length (layer_in pool out d).keys))) ⊎ ((known ≡ Some at) × (fresh ≡ false)) → Growing pool₀ t rows r pool out d i at fresh × (at ≡ rank_of rows r (suc d))
placed {pool₀} {t} {rows} {r} {pool} {out} {d} {i} y g h at fresh (inl w) =
    let k = subst (At pool₀ t rows r pool out d i) w.0 g in
    let e = w.2 ∙ begins_place y k h refl in
    (subst (Growing pool₀ t rows r pool out d i at) (sym w.1) (record { layers = k.layers; leaves = leaves_at k.leaves at e }), e)
placed {pool₀} {t} {rows} {r} {pool} {out} {d} {i} y g h at fresh (inr w) =
    let k = subst (At pool₀ t rows r pool out d i) w.0 g in
    (subst (Growing pool₀ t rows r pool out d i at) (sym w.1) k, (k.leaves.old refl).3)
