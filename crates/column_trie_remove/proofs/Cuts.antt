-- The loop that takes a row out, layer by layer: the table holds the rest with the row put in it, each turn takes the row's key out of layer d, and with it
-- the interval of a parent that has no other (crate layer_by_layer says which layers stand in the pool on the way).
use Prim.Native.Nat.{ℕ, zero, suc, ◌+◌, ◌-◌, ◌≤◌, ◌<◌}
use mathlib.Core.Path.{◌≡◌, refl, sym, ap, ap₂, subst, ◌∙◌}
use mathlib.Core.Bool.{Bool, true, false}
use mathlib.Core.Logic.{◌⊎◌, inl, inr}
use mathlib.Core.List.{List, [], ◌∷◌, ◌++◌}
use native.Mathlib.Omega.{arith}
use Rattle.std.specs.Prelude.{Option, Some, None, is_none, unwrap_or}
use lib.ListN.{length, take, get_or}
use Rattle.relation.specs.Order.{Row}
use Rattle.relation.specs.Lists.{◌∈◌}
use Rattle.relation.specs.Rows.{Width, put}
use Rattle.relation.specs.Layers.{Layer, layers_of, prefixes}
use Rattle.relation.specs.Undamaged.{Ordered}
use Rattle.relation.proofs.Sorting.{put_self, put_old}
use Rattle.relation.proofs.Rank.{rank_at, rank_le}
use Rattle.relation.proofs.Layers.{keys_at, intervals_at, ranked_at, length_keys, length_intervals, prefixes_asc, prefix_in}
use Rattle.relation.proofs.Walks.{sound_ordered}
use Rattle.relation.proofs.Relations.{between_prefixes}
use Rattle.relation.proofs.Insert.{rank_of, insert_new, insert_count}
use Rattle.column_trie.specs.Pool.{store, spot}
use Rattle.column_trie.specs.Table.{relengthed, interval_len_at, refilled, layer_in, header_sound}
use Rattle.column_trie.specs.declared.ColumnTrie.{ColumnTrie}
use Rattle.column_trie.proofs.Header.{InPool}
use Rattle.column_trie.proofs.Layers.{Whole}
use Rattle.column_trie.proofs.Tables.{Holds}
use Rattle.wedge.specs.Shift.{PositiveFrom}
use Rattle.layer_by_layer.specs.Relay.{Relaid}
use Rattle.layer_by_layer.proofs.Changing.{Change, Changing, pool_long, out_sound, out_whole, out_arity, layer_old, key_count, interval_count, interval_word, changing_step, changed_words, changed_header}
use Rattle.layer_by_layer.proofs.Leaves.{Leaves, leaves_at, grown_is, leaves_deeper}
use Rattle.column_trie_remove.specs.Shrink.{shrunk, Shrinkable}
use Rattle.column_trie_remove.proofs.Rest.{rank_same}
use Rattle.column_trie_remove.proofs.Shrinks.{shrunk_grown}

-- an undamaged table that holds the rest and the row
pub record Ready (pool : List ℕ) (t : ColumnTrie) (rest : List Row) (r : Row) : Type 0 where
  pub whole : Whole t
  pub inside : InPool (length pool) t
  pub held : Holds pool t (put r rest)
  pub long : length r ≡ t.arity
  pub absent : r ∈ rest → ⊥

-- the layers above d have lost their key
pub record Shrinking (pool₀ : List ℕ) (t : ColumnTrie) (rest : List Row) (r : Row) (pool : List ℕ) (out : ColumnTrie) (d i at : ℕ) (lone : Bool) : Type 0 where
  pub layers : Changing pool₀ t (put r rest) rest pool out d
  pub leaves : Leaves t.arity rest r d i at lone

-- the word that stands behind n others
get_or_behind : (n w : ℕ) (xs ys : List ℕ) (z : ℕ) → n ≤ length xs → get_or (take n xs ++ w ∷ ys) n z ≡ w
get_or_behind zero w xs ys z h = refl
get_or_behind (suc n) w [] ys z h = absurd (omega arith)
get_or_behind (suc n) w (x ∷ xs) ys z h = get_or_behind n w xs ys z (omega arith)

module _ {pool₀ : List ℕ} {t : ColumnTrie} {rest : List Row} {r : Row} (y : Ready pool₀ t rest r) where
  pub rest_width : Width t.arity rest
  rest_width q m = y.held.width q (put_old r rest m)

  pub counted : length (put r rest) ≡ suc (length rest)
  counted = insert_count t.arity rest r rest_width y.long y.absent

  pub change : Change pool₀ t (put r rest) rest
  change = record { whole = y.whole; inside = y.inside; held = y.held; width = rest_width; room = omega (arith, counted, y.held.room) }

  -- the row's places among the rows that have it
  stored_place : (d : ℕ) → rank_of rest r d < length (prefixes d (put r rest))
  stored_place d = omega (arith, rank_same rest r rest_width y.long d, (rank_at (prefixes_asc d (put r rest)) (prefix_in d (put_self r rest))).0)

  module _ {pool : List ℕ} {out : ColumnTrie} {d i at : ℕ} {lone : Bool} (g : Shrinking pool₀ t rest r pool out d i at lone) where
    pub cut_long : length pool ≡ length pool₀
    cut_long = pool_long change g.layers

    pub cut_sound : header_sound (length pool) out ≡ true
    cut_sound = out_sound change g.layers

    pub cut_whole : Whole out
    cut_whole = out_whole change g.layers

    module _ (h : d < t.arity) where
      pub inside_out : d < out.arity
      inside_out = subst (λ (n : ℕ). d < n) (sym (out_arity change g.layers)) h

      -- where the children of a parent start that has no other
      begins_place : lone ≡ true → get_or (layer_in pool out d).intervals i (length (layer_in pool out d).keys) ≡ rank_of rest r (suc d)
      begins_place f =
          ap (λ (l : Layer). get_or l.intervals i (length (layer_in pool out d).keys)) (layer_old change g.layers h)
          ∙ ap₂ (λ (is : List ℕ) (n : ℕ). get_or is n (length (layer_in pool out d).keys)) (insert_new t.arity rest r rest_width y.long d h (g.leaves.new f)) g.leaves.place
          ∙ get_or_behind (rank_of rest r d) (rank_of rest r (suc d)) (intervals_at d rest) _ (length (layer_in pool out d).keys) (omega (arith, rank_le (take d r) (prefixes d rest), length_intervals d rest))

      -- later intervals aren't 0
      positive_words : PositiveFrom (spot out.start out.capacity d + out.capacity + suc i) (spot out.start out.capacity d + out.capacity + interval_len_at out d) pool
      positive_words j p q =
          let k = j - (spot out.start out.capacity d + out.capacity) - 1 in
          let e : j - (spot out.start out.capacity d + out.capacity) ≡ suc k = omega arith in
          let o : Ordered (intervals_at d (put r rest)) (keys_at d (put r rest)) = sound_ordered (between_prefixes d y.held.width h).0 in
          omega (arith, interval_word change g.layers h j (omega arith) q, ap (λ (n : ℕ). get_or (intervals_at d (put r rest)) n 0) e, o.ascend k (omega (arith, interval_count change g.layers h)))

      -- the layer can lose the key
      pub shrinks_here : at ≡ rank_of rest r (suc d) → Shrinkable pool out d i at
      shrinks_here e =
          record {
            sound = cut_sound;
            depth = inside_out;
            place = omega (arith, key_count change g.layers h, length_keys d (put r rest), stored_place (suc d));
            interval = omega (arith, interval_count change g.layers h, length_intervals d (put r rest), stored_place d, g.leaves.place);
            positive = positive_words;
          }

      -- and is then the layer of the rest
      shrunk_is : at ≡ rank_of rest r (suc d) → shrunk lone i at (layer_in pool out d) ≡ ranked_at d rest
      shrunk_is e =
          ap (shrunk lone i at) (layer_old change g.layers h ∙ sym (grown_is rest_width y.long g.leaves h e))
          ∙ shrunk_grown lone i at (get_or r d 0) (ranked_at d rest)
          (omega (arith, length_keys d rest, rank_le (take (suc d) r) (prefixes (suc d) rest)))
          (omega (arith, length_intervals d rest, rank_le (take d r) (prefixes d rest), g.leaves.place))

      pub shrinking_step : {pool' : List ℕ} {out' : ColumnTrie} → at ≡ rank_of rest r (suc d) → Relaid pool pool' out d (shrunk lone i at (layer_in pool out d)) out' → Shrinking pool₀ t rest r pool' out' (d + 1) at 0 true
      shrinking_step e s = record { layers = changing_step change g.layers h (shrunk_is e) s; leaves = leaves_deeper rest_width y.long g.leaves h e }

    -- all layers have lost it
    pub cut_words : t.arity ≤ d → pool ≡ store t.start t.capacity (layers_of t.arity rest) pool₀
    cut_words h = changed_words change g.layers h

    pub cut_header : t.arity ≤ d → ◌≡◌ {A = ColumnTrie} (relengthed out out.data_len out.interval_len (t.tuple_count - 1)) (refilled t rest)
    cut_header h = changed_header change g.layers h (omega (arith, y.held.counted, counted))

-- where the key stands, known or read, and whether it is its parent's only one
abbrev pub At : (pool₀ : List ℕ) (t : ColumnTrie) (rest : List Row) (r : Row) (pool : List ℕ) (out : ColumnTrie) (d i : ℕ) → Option ℕ → Type 0
At pool₀ t rest r pool out d i known = Shrinking pool₀ t rest r pool out d i (unwrap_or known 0) (is_none known)

pub placed :
    {pool₀ : List ℕ} {t : ColumnTrie} {rest : List Row} {r : Row} {pool : List ℕ} {out : ColumnTrie} {d i : ℕ} {known : Option ℕ} → Ready pool₀ t rest r → At pool₀ t rest r pool out d i known → d < t.arity → (at : ℕ) (lone : Bool) →
    ((known ≡ None) × (lone ≡ true) × (at ≡ get_or (layer_in pool out d).intervals i (length (layer_in pool out d).keys))) ⊎ ((known ≡ Some at) × (lone ≡ false)) → Shrinking pool₀ t rest r pool out d i at lone × (at ≡ rank_of rest r (suc d))
placed {pool₀} {t} {rest} {r} {pool} {out} {d} {i} y g h at lone (inl w) =
    let k = subst (At pool₀ t rest r pool out d i) w.0 g in
    let e = w.2 ∙ begins_place y k h refl in
    (subst (Shrinking pool₀ t rest r pool out d i at) (sym w.1) (record { layers = k.layers; leaves = leaves_at k.leaves at e }), e)
placed {pool₀} {t} {rest} {r} {pool} {out} {d} {i} y g h at lone (inr w) =
    let k = subst (At pool₀ t rest r pool out d i) w.0 g in
    (subst (Shrinking pool₀ t rest r pool out d i at) (sym w.1) k, (k.leaves.old refl).3)
