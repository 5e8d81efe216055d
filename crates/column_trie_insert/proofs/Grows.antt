-- A layer that gains a key, by two shifts of words: the keys', then the intervals'.
use Prim.Native.Nat.{ℕ, suc, ◌+◌, ◌<◌, ◌^◌}
use mathlib.Core.Path.{◌≡◌, sym, ap, subst, ◌∙◌}
use mathlib.Core.Bool.{Bool, true, false}
use mathlib.Core.List.{List, ◌∷◌, ◌++◌, map}
use native.Mathlib.Numerals.{add-one}
use lib.ListN.{length, take, drop, set}
use lib.Seq.{set-get_or}
use Rattle.relation.specs.Order.{pick}
use Rattle.relation.specs.Layers.{Layer}
use Rattle.column_trie.specs.Pool.{lay, spot}
use Rattle.column_trie.specs.Table.{relengthed, data_len_at, interval_len_at, layer_in}
use Rattle.column_trie.specs.declared.ColumnTrie.{ColumnTrie}
use Rattle.wedge.specs.Shift.{SmallFrom}
use Rattle.wedge.proofs.Lists.{length_wedged, lifted, length_lifted, gap, length_gap}
use Rattle.layer_by_layer.specs.Grow.{branched, sprouted, grown}
use Rattle.layer_by_layer.specs.Relay.{Relaid}
use Rattle.layer_by_layer.proofs.Relays.{Keyed, keyed_behind, keys_length, intervals_length, laid_anew}

-- the keys with one more
abbrev pub wedged_in : ℕ → ℕ → List ℕ → List ℕ
wedged_in at key xs = take at xs ++ key ∷ drop at xs

module _ (at key : ℕ) {pool : List ℕ} {t : ColumnTrie} {d data_from : ℕ} {pool₁ : List ℕ} (k : Keyed (wedged_in at key) pool t d data_from pool₁) where
  pub small_left : SmallFrom (spot t.start t.capacity d + t.capacity) (spot t.start t.capacity d + t.capacity + interval_len_at t d) pool → SmallFrom (data_from + t.capacity) (data_from + t.capacity + interval_len_at t d) pool₁
  small_left s j p q = subst (λ (n : ℕ). n < 2 ^ 32) (sym (keyed_behind k j p)) (subst (λ (z : ℕ). SmallFrom (z + t.capacity) (z + t.capacity + interval_len_at t d) pool) (sym k.data_from_is) s j p q)

  -- the keys' new length
  more_keys : data_len_at t d + 1 ≡ length (wedged_in at key (layer_in pool t d).keys)
  more_keys = add-one (data_len_at t d) ∙ ap suc (sym (keys_length k)) ∙ sym (length_wedged at key (layer_in pool t d).keys)

  pub added_new :
      (i : ℕ) (fresh : Bool) (pool₂ : List ℕ) → fresh ≡ true →
      pool₂ ≡ lay pool₁ (data_from + t.capacity) (take i (take (interval_len_at t d) (drop (data_from + t.capacity) pool₁)) ++ at ∷ map suc (drop i (take (interval_len_at t d) (drop (data_from + t.capacity) pool₁)))) →
      Relaid pool pool₂ t d (grown fresh i at key (layer_in pool t d)) (relengthed t (set t.data_len d (data_len_at t d + 1)) (set t.interval_len d (interval_len_at t d + 1)) t.tuple_count)
  added_new i fresh pool₂ b second =
      let l : sprouted i at key (layer_in pool t d) ≡ grown fresh i at key (layer_in pool t d) = ap (λ (z : Bool). pick z (sprouted i at key (layer_in pool t d)) (branched i at key (layer_in pool t d))) (sym b) in
      subst (λ (m : Layer). Relaid pool pool₂ t d m (relengthed t (set t.data_len d (data_len_at t d + 1)) (set t.interval_len d (interval_len_at t d + 1)) t.tuple_count)) l
      (laid_anew k (gap i at suc) pool₂ (data_len_at t d + 1) (interval_len_at t d + 1) second more_keys
      (add-one (interval_len_at t d) ∙ ap suc (sym (intervals_length k)) ∙ sym (length_gap i at suc (layer_in pool t d).intervals)))

  pub added_old :
      (i : ℕ) (fresh : Bool) (pool₂ : List ℕ) → fresh ≡ false →
      pool₂ ≡ lay pool₁ (data_from + t.capacity) (take (i + 1) (take (interval_len_at t d) (drop (data_from + t.capacity) pool₁)) ++ map suc (drop (i + 1) (take (interval_len_at t d) (drop (data_from + t.capacity) pool₁)))) →
      Relaid pool pool₂ t d (grown fresh i at key (layer_in pool t d)) (relengthed t (set t.data_len d (data_len_at t d + 1)) t.interval_len t.tuple_count)
  added_old i fresh pool₂ b second =
      let l : branched i at key (layer_in pool t d) ≡ grown fresh i at key (layer_in pool t d) = ap (λ (z : Bool). pick z (sprouted i at key (layer_in pool t d)) (branched i at key (layer_in pool t d))) (sym b) in
      subst (λ (m : Layer). Relaid pool pool₂ t d m (relengthed t (set t.data_len d (data_len_at t d + 1)) t.interval_len t.tuple_count)) l
      (subst (λ (lens : List ℕ). Relaid pool pool₂ t d (branched i at key (layer_in pool t d)) (relengthed t (set t.data_len d (data_len_at t d + 1)) lens t.tuple_count)) (set-get_or t.interval_len d 0)
      (laid_anew k (lifted suc (suc i)) pool₂ (data_len_at t d + 1) (interval_len_at t d) (second ∙ ap (λ (z : ℕ). lay pool₁ (data_from + t.capacity) (lifted suc z (take (interval_len_at t d) (drop (data_from + t.capacity) pool₁)))) (add-one i)) more_keys
      (sym (intervals_length k) ∙ sym (length_lifted suc (suc i) (layer_in pool t d).intervals))))
