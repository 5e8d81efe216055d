-- What one key or one interval more does to the lengths of layers, as a header has them.
use Prim.Native.Nat.{ℕ, ◌+◌, ◌<◌}
use mathlib.Core.Path.{◌≡◌, refl, sym, ap, ◌∙◌}
use mathlib.Core.List.{List, [], ◌∷◌}
use lib.ListN.{length, get_or, set, length-append}
use lib.Seq.{map-set_same}
use Rattle.relation.specs.Layers.{Layer, layer, no_layer}
use Rattle.column_trie.specs.Table.{padded, key_counts, interval_counts}
use Rattle.column_trie.proofs.Lengths.{keys_at_lem, intervals_at, padded_set}
use Rattle.from_sorted.specs.Push.{keyed, opened}

module _ (ls : List Layer) (d : ℕ) (h : d < length ls) where
  pub keys_keyed : (k : ℕ) → key_counts (set ls d (keyed k (layer ls d))) ≡ set (key_counts ls) d (get_or (key_counts ls) d 0 + 1)
  keys_keyed k =
      padded_set (λ l. length l.keys) ls d (keyed k (layer ls d)) h
      ∙ ap (set (key_counts ls) d) (length-append (layer ls d).keys (k ∷ []) ∙ ap (λ (m : ℕ). m + 1) (sym (keys_at_lem ls d h)))

  pub intervals_keyed : (k : ℕ) → interval_counts (set ls d (keyed k (layer ls d))) ≡ interval_counts ls
  intervals_keyed k = ap padded (map-set_same (λ l. length l.intervals) ls d (keyed k (layer ls d)) no_layer refl)

  pub intervals_opened : interval_counts (set ls d (opened (layer ls d))) ≡ set (interval_counts ls) d (get_or (interval_counts ls) d 0 + 1)
  intervals_opened =
      padded_set (λ l. length l.intervals) ls d (opened (layer ls d)) h
      ∙ ap (set (interval_counts ls) d) (length-append (layer ls d).intervals (length (layer ls d).keys ∷ []) ∙ ap (λ (m : ℕ). m + 1) (sym (intervals_at ls d h)))

  pub keys_opened : key_counts (set ls d (opened (layer ls d))) ≡ key_counts ls
  keys_opened = ap padded (map-set_same (λ l. length l.keys) ls d (opened (layer ls d)) no_layer refl)
