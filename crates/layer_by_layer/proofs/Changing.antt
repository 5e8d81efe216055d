-- A table that holds the layers of some rows gets those of others, layer by layer from the top (Mixed.antt). What is laid over a layer needn't be as
-- long as what stood there: until its turn a layer is the pool's own, so the words behind the new lists are the pool's.
use Prim.Native.Nat.{ℕ, suc, ◌+◌, ◌-◌, ◌≤◌, ◌<◌}
use mathlib.Core.Path.{◌≡◌, sym, ap, ap₂, subst, ◌∙◌}
use mathlib.Core.Bool.{true}
use mathlib.Core.List.{List}
use native.Mathlib.Omega.{arith}
use native.Mathlib.Decide.{dec_lt}
use lib.ListN.{length, take, drop, get_or, set, length-set}
use lib.Seq.{ext_get_or, get_or-set_same, get_or-set_other, set-set, set-get_or}
use Rattle.relation.specs.Order.{Row}
use Rattle.relation.specs.Rows.{Width}
use Rattle.relation.specs.Layers.{Layer, layer, no_layer, layers_of}
use Rattle.relation.proofs.Layers.{keys_at, intervals_at, ranked_at, length_keys, length_intervals}
use Rattle.relation.proofs.Relations.{length_prefixes}
use Rattle.column_trie.specs.Kept.{Kept}
use Rattle.column_trie.specs.Pool.{lay, store, spot}
use Rattle.column_trie.specs.Table.{relengthed, data_len_at, interval_len_at, header, refilled, layer_in, header_sound}
use Rattle.column_trie.specs.declared.ColumnTrie.{ColumnTrie}
use Rattle.column_trie.proofs.Header.{InPool, LayerFits, layer_fits, told_header, length_part}
use Rattle.column_trie.proofs.Kept.{stored_kept}
use Rattle.column_trie.proofs.Layers.{Whole, layers_at}
use Rattle.column_trie.proofs.Lengths.{padded_set}
use Rattle.column_trie.proofs.Pool.{Room, lay_own, store_length, store_replace}
use Rattle.column_trie.proofs.Stored.{header_whole, header_keys, header_intervals, header_past, stored_layers}
use Rattle.column_trie.proofs.Tables.{Holds}
use Rattle.column_trie.proofs.Words.{part_at, layer_is}
use Rattle.layer_by_layer.specs.Relay.{relaid, resized, Relaid}
use Rattle.layer_by_layer.proofs.Mixed.{mixed, mixed_long, mixed_new, mixed_old, mixed_step, mixed_first, mixed_last}

-- the same header, of a table that holds other layers
abbrev relayered : ColumnTrie → List Layer → ℕ → ColumnTrie
relayered t ls count = header t.start t.arity t.capacity t.grade ls count

-- a table that holds the old rows, and rows that it has room for
pub record Change (pool : List ℕ) (t : ColumnTrie) (old new : List Row) : Type 0 where
  pub whole : Whole t
  pub inside : InPool (length pool) t
  pub held : Holds pool t old
  pub width : Width t.arity new
  pub room : length new ≤ t.capacity

-- the layers above d are those of the new rows
pub record Changing (pool₀ : List ℕ) (t : ColumnTrie) (old new : List Row) (pool : List ℕ) (out : ColumnTrie) (d : ℕ) : Type 0 where
  inside : d ≤ t.arity
  words : pool ≡ store t.start t.capacity (mixed t.arity old new d) pool₀
  pub header : out ≡ relayered t (mixed t.arity old new d) t.tuple_count

module _ {pool₀ : List ℕ} {t : ColumnTrie} {old new : List Row} (y : Change pool₀ t old new) where
  -- the layers on the way
  abbrev mix : ℕ → List Layer
  mix d = mixed t.arity old new d

  mix_long : (d : ℕ) → length (mix d) ≡ t.arity
  mix_long d = mixed_long t.arity old new d

  -- every layer on the way has room
  layer_room : (qs : List Row) → length qs ≤ t.capacity → (k : ℕ) → (length (keys_at k qs) ≤ t.capacity) × (length (intervals_at k qs) ≤ t.capacity)
  layer_room qs h k =
      (omega (arith, length_keys k qs, length_prefixes (suc k) qs), omega (arith, length_intervals k qs, length_prefixes k qs))

  mixed_room : (d : ℕ) → Room t.capacity (mix d)
  mixed_room d k h = go (dec_lt k d)
    where
      b : k < t.arity
      b = omega (arith, mix_long d)

      by : (qs : List Row) → layer (mix d) k ≡ ranked_at k qs → length qs ≤ t.capacity → (length (layer (mix d) k).keys ≤ t.capacity) × (length (layer (mix d) k).intervals ≤ t.capacity)
      by qs e q = subst (λ (z : Layer). (length z.keys ≤ t.capacity) × (length z.intervals ≤ t.capacity)) (sym e) (layer_room qs q k)

      go : Dec (k < d) → (length (layer (mix d) k).keys ≤ t.capacity) × (length (layer (mix d) k).intervals ≤ t.capacity)
      go (yes l) = by new (mixed_new t.arity old new d k b l) y.room
      go (no l) = by old (mixed_old t.arity old new d k b (omega arith)) y.held.room

  -- no word has changed yet
  pub changing_start : (d : ℕ) → d ≤ t.arity → ((k : ℕ) → k < d → ranked_at k new ≡ ranked_at k old) → Changing pool₀ t old new pool₀ t d
  changing_start d h s =
      let e = mixed_first t.arity old new y.held.width d s in
      record {
        inside = h;
        words = sym (ap (λ (ls : List Layer). store t.start t.capacity ls pool₀) e ∙ y.held.words);
        header = y.held.table ∙ ap₂ (relayered t) (sym e) (sym y.held.counted);
      }

  -- ---- a layer laid anew

  module _ (d : ℕ) (h : d < t.arity) where
    -- the layers on the way but the one whose turn it is, and the pool with them: that layer's words are still the pool's
    but : List Layer
    but = set (mix d) d no_layer

    but_long : length but ≡ t.arity
    unfolding but
    but_long = length-set (mix d) d no_layer ∙ mix_long d

    but_at : layer but d ≡ no_layer
    unfolding but
    but_at = get_or-set_same (mix d) d no_layer no_layer (omega (arith, mix_long d))

    but_room : Room t.capacity but
    unfolding but
    but_room k b = go (dec_lt k d) (dec_lt d k)
      where
        other : (k ≡ d → ⊥) → (length (layer but k).keys ≤ t.capacity) × (length (layer but k).intervals ≤ t.capacity)
        other n = subst (λ (l : Layer). (length l.keys ≤ t.capacity) × (length l.intervals ≤ t.capacity)) (sym (get_or-set_other (mix d) d k no_layer no_layer n)) (mixed_room d k (omega (arith, but_long, mix_long d)))

        go : Dec (k < d) → Dec (d < k) → (length (layer but k).keys ≤ t.capacity) × (length (layer but k).intervals ≤ t.capacity)
        go (yes l) q = other (λ e. omega arith)
        go (no l) (yes m) = other (λ e. omega arith)
        go (no l) (no m) =
            let e : d ≡ k = omega arith in
            subst (λ (l : Layer). (length l.keys ≤ t.capacity) × (length l.intervals ≤ t.capacity)) (sym but_at ∙ ap (layer but) e) (omega arith, omega arith)

    rest : List ℕ
    rest = store t.start t.capacity but pool₀

    rest_long : length rest ≡ length pool₀
    unfolding rest
    rest_long = store_length t.start t.capacity but pool₀

    rest_kept : Kept pool₀ rest (relayered t but t.tuple_count)
    unfolding rest
    rest_kept = stored_kept t.start t.arity t.capacity t.grade but t.tuple_count pool₀ but_long y.inside.few but_room

    fits : LayerFits (length pool₀) t d
    fits = layer_fits y.inside h

    -- words of the layer, read from either
    part_same : (b n : ℕ) → n ≤ t.capacity → b + n ≤ length pool₀ → ((j : ℕ) → j < t.capacity → get_or rest (b + j) 0 ≡ get_or pool₀ (b + j) 0) → take n (drop b pool₀) ≡ take n (drop b rest)
    part_same b n c e f =
        let l = length_part pool₀ b n e in
        ext_get_or 0 (take n (drop b pool₀)) (take n (drop b rest)) (l ∙ sym (length_part rest b n (omega (arith, rest_long))))
        (λ j q. let k : j < n = omega (arith, l) in part_at pool₀ b n j k ∙ sym (f j (omega arith)) ∙ sym (part_at rest b n j k))

    old_keys : keys_at d old ≡ take (data_len_at t d) (drop (spot t.start t.capacity d) rest)
    old_keys =
        ap (λ (l : Layer). l.keys) (sym (layer_is y.whole y.inside y.held d h))
        ∙ part_same (spot t.start t.capacity d) (data_len_at t d) fits.keys (omega (arith, fits))
        (λ j q. rest_kept.keys d j h (omega (arith, header_keys t.start t.arity t.capacity t.grade but t.tuple_count but_long y.inside.few d h, ap (λ (l : Layer). length l.keys) but_at)) q)

    old_intervals : intervals_at d old ≡ take (interval_len_at t d) (drop (spot t.start t.capacity d + t.capacity) rest)
    old_intervals =
        ap (λ (l : Layer). l.intervals) (sym (layer_is y.whole y.inside y.held d h))
        ∙ part_same (spot t.start t.capacity d + t.capacity) (interval_len_at t d) fits.intervals (omega (arith, fits))
        (λ j q. rest_kept.intervals d j h (omega (arith, header_intervals t.start t.arity t.capacity t.grade but t.tuple_count but_long y.inside.few d h, ap (λ (l : Layer). length l.intervals) but_at)) q)

    -- any layer with room, laid over that
    anew : (l : Layer) → length l.keys ≤ t.capacity → length l.intervals ≤ t.capacity → lay (lay rest (spot t.start t.capacity d) l.keys) (spot t.start t.capacity d + t.capacity) l.intervals ≡ store t.start t.capacity (set (mix d) d l) pool₀
    unfolding rest but
    anew l k i =
        store_replace t.start t.capacity but pool₀ d l (omega (arith, but_long))
        (omega (arith, ap (λ (m : Layer). length m.keys) but_at)) k
        (omega (arith, ap (λ (m : Layer). length m.intervals) but_at)) i
        ∙ ap (λ (ls : List Layer). store t.start t.capacity ls pool₀) (set-set (mix d) d no_layer l)

    -- the old layer laid over it changes nothing
    own : store t.start t.capacity (mix d) pool₀ ≡ rest
    own =
        let m = layer_room old y.held.room d in
        ap (λ (ls : List Layer). store t.start t.capacity ls pool₀) (sym (ap (set (mix d) d) (sym (mixed_old t.arity old new d d h (omega arith))) ∙ set-get_or (mix d) d no_layer))
        ∙ sym (anew (ranked_at d old) m.0 m.1)
        ∙ ap₂ (λ (ks is : List ℕ). lay (lay rest (spot t.start t.capacity d) ks) (spot t.start t.capacity d + t.capacity) is) old_keys old_intervals
        ∙ ap (λ (p : List ℕ). lay p (spot t.start t.capacity d + t.capacity) (take (interval_len_at t d) (drop (spot t.start t.capacity d + t.capacity) rest)))
        (lay_own rest (spot t.start t.capacity d) (data_len_at t d) (omega (arith, fits, rest_long)))
        ∙ lay_own rest (spot t.start t.capacity d + t.capacity) (interval_len_at t d) (omega (arith, fits, rest_long))

    replaced : (l : Layer) → length l.keys ≤ t.capacity → length l.intervals ≤ t.capacity → relaid (store t.start t.capacity (mix d) pool₀) (relayered t (mix d) t.tuple_count) d l ≡ store t.start t.capacity (set (mix d) d l) pool₀
    replaced l k i = ap (λ (p : List ℕ). lay (lay p (spot t.start t.capacity d) l.keys) (spot t.start t.capacity d + t.capacity) l.intervals) own ∙ anew l k i

  module _ {pool : List ℕ} {out : ColumnTrie} {d : ℕ} (g : Changing pool₀ t old new pool out d) where
    abbrev H : ColumnTrie
    H = relayered t (mix d) t.tuple_count

    pub pool_long : length pool ≡ length pool₀
    pool_long = ap length g.words ∙ store_length t.start t.capacity (mix d) pool₀

    out_pool : InPool (length pool) out
    out_pool = subst (λ (z : ColumnTrie). InPool (length pool) z) (sym g.header) (record {
      positive = y.inside.positive;
      few = y.inside.few;
      roomy = y.inside.roomy;
      small = y.inside.small;
      fits = omega (arith, pool_long, y.inside.fits);
      within = λ k b. go k (dec_lt k t.arity);
    })
      where
        go : (k : ℕ) → Dec (k < t.arity) → (data_len_at H k ≤ t.capacity) × (interval_len_at H k ≤ t.capacity)
        go k (yes b) =
            let q = mixed_room d k (omega (arith, mix_long d)) in (
              omega (arith, header_keys t.start t.arity t.capacity t.grade (mix d) t.tuple_count (mix_long d) y.inside.few k b, q.0),
              omega (arith, header_intervals t.start t.arity t.capacity t.grade (mix d) t.tuple_count (mix_long d) y.inside.few k b, q.1),
            )
        go k (no b) =
            let z = header_past t.start t.arity t.capacity t.grade (mix d) t.tuple_count (mix_long d) y.inside.few k (omega arith) in
            (omega (arith, z.0), omega (arith, z.1))

    pub out_sound : header_sound (length pool) out ≡ true
    out_sound = told_header (length pool) out out_pool

    -- and its arrays are as long
    pub out_whole : Whole out
    out_whole = subst Whole (sym g.header) (header_whole t.start t.arity t.capacity t.grade (mix d) t.tuple_count (mix_long d) y.inside.few)

    -- start, arity and capacity stay
    pub out_arity : out.arity ≡ t.arity
    out_arity = ap (λ (z : ColumnTrie). z.arity) g.header

    pub out_capacity : out.capacity ≡ t.capacity
    out_capacity = ap (λ (z : ColumnTrie). z.capacity) g.header

    module _ (h : d < t.arity) where
      -- the layer is still the old one
      pub layer_old : layer_in pool out d ≡ ranked_at d old
      layer_old =
          ap₂ (λ (p : List ℕ) (z : ColumnTrie). layer_in p z d) g.words g.header
          ∙ sym (layers_at (store t.start t.capacity (mix d) pool₀) H (header_whole t.start t.arity t.capacity t.grade (mix d) t.tuple_count (mix_long d) y.inside.few) y.inside.few d h)
          ∙ ap (λ (ls : List Layer). layer ls d) (stored_layers t.start t.arity t.capacity t.grade (mix d) t.tuple_count (mix_long d) y.inside.few pool₀ (mixed_room d) y.inside.fits)
          ∙ mixed_old t.arity old new d d h (omega arith)

      pub key_count : data_len_at out d ≡ length (keys_at d old)
      key_count =
          ap (λ (z : ColumnTrie). data_len_at z d) g.header ∙ header_keys t.start t.arity t.capacity t.grade (mix d) t.tuple_count (mix_long d) y.inside.few d h
          ∙ ap (λ (l : Layer). length l.keys) (mixed_old t.arity old new d d h (omega arith))

      pub interval_count : interval_len_at out d ≡ length (intervals_at d old)
      interval_count =
          ap (λ (z : ColumnTrie). interval_len_at z d) g.header ∙ header_intervals t.start t.arity t.capacity t.grade (mix d) t.tuple_count (mix_long d) y.inside.few d h
          ∙ ap (λ (l : Layer). length l.intervals) (mixed_old t.arity old new d d h (omega arith))

      -- a word of its intervals
      pub interval_word : (j : ℕ) → spot out.start out.capacity d + out.capacity ≤ j → j < spot out.start out.capacity d + out.capacity + interval_len_at out d → get_or pool j 0 ≡ get_or (intervals_at d old) (j - (spot out.start out.capacity d + out.capacity)) 0
      interval_word j p q =
          let b = spot out.start out.capacity d + out.capacity in
          let e : j ≡ b + (j - b) = omega arith in
          ap (λ (n : ℕ). get_or pool n 0) e ∙ sym (part_at pool b (interval_len_at out d) (j - b) (omega arith)) ∙ ap (λ (m : Layer). get_or m.intervals (j - b) 0) layer_old

      -- laid anew, it is the new one
      pub changing_step : {pool' : List ℕ} {out' : ColumnTrie} {l : Layer} → l ≡ ranked_at d new → Relaid pool pool' out d l out' → Changing pool₀ t old new pool' out' (d + 1)
      changing_step {pool'} {out'} {l} e s =
          record {
            inside = omega arith;
            words =
                s.words ∙ ap (relaid pool out d) e ∙ ap₂ (λ (p : List ℕ) (z : ColumnTrie). relaid p z d (ranked_at d new)) g.words g.header
                ∙ (let m = layer_room new y.room d in replaced d h (ranked_at d new) m.0 m.1)
                ∙ ap (λ (ls : List Layer). store t.start t.capacity ls pool₀) (mixed_step t.arity old new d h);
            header =
                s.header ∙ ap (resized out d) e ∙ ap (λ (z : ColumnTrie). resized z d (ranked_at d new)) g.header ∙ counted
                ∙ ap (λ (ls : List Layer). relayered t ls t.tuple_count) (mixed_step t.arity old new d h);
          }
        where
          counted : resized H d (ranked_at d new) ≡ relayered t (set (mix d) d (ranked_at d new)) t.tuple_count
          counted =
              let b : d < length (mix d) = omega (arith, mix_long d) in
              ap₂ {C = ColumnTrie}
              (λ x z. relengthed t x z t.tuple_count)
              (sym (padded_set (λ l. length l.keys) (mix d) d (ranked_at d new) b))
              (sym (padded_set (λ l. length l.intervals) (mix d) d (ranked_at d new) b))

    -- all layers are the new ones
    module _ (h : t.arity ≤ d) where
      all_new : mix d ≡ layers_of t.arity new
      all_new = let e : d ≡ t.arity = omega (arith, g.inside) in ap (mixed t.arity old new) e ∙ mixed_last t.arity old new y.width

      pub changed_words : pool ≡ store t.start t.capacity (layers_of t.arity new) pool₀
      changed_words = g.words ∙ ap (λ (ls : List Layer). store t.start t.capacity ls pool₀) all_new

      pub changed_header : {n : ℕ} → n ≡ length new → ◌≡◌ {A = ColumnTrie} (relengthed out out.data_len out.interval_len n) (refilled t new)
      changed_header {n} e =
          ap (λ (z : ColumnTrie). relengthed z z.data_len z.interval_len n) g.header
          ∙ ap₂ (relayered t) all_new e
