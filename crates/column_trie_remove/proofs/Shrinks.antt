-- A layer that loses a key, by two shifts of words: the keys', then the intervals'. It undoes what the layer gained by that key.
use Prim.Native.Nat.{ℕ, zero, suc, ◌+◌, ◌-◌, ◌≤◌, ◌<◌}
use mathlib.Core.Path.{◌≡◌, refl, sym, ap, ap₂, subst, ◌∙◌}
use mathlib.Core.Bool.{Bool, true, false}
use mathlib.Core.List.{List, [], ◌∷◌, ◌++◌, map}
use native.Mathlib.Omega.{arith}
use native.Mathlib.Numerals.{add-one}
use lib.ListN.{length, take, drop, set}
use lib.Seq.{set-get_or}
use Rattle.relation.specs.Order.{pick}
use Rattle.relation.specs.Layers.{Layer}
use Rattle.column_trie.specs.Pool.{lay, spot}
use Rattle.column_trie.specs.Table.{relengthed, data_len_at, interval_len_at, layer_in}
use Rattle.column_trie.specs.declared.ColumnTrie.{ColumnTrie}
use Rattle.wedge.specs.Shift.{PositiveFrom, lessened}
use Rattle.wedge.proofs.Lists.{length_closed, lifted, length_lifted, gap, lapse, length_lapse}
use Rattle.layer_by_layer.specs.Grow.{grown}
use Rattle.layer_by_layer.specs.Relay.{Relaid}
use Rattle.layer_by_layer.proofs.Relays.{Keyed, keyed_behind, keys_length, intervals_length, laid_anew}
use Rattle.column_trie_remove.specs.Shrink.{pruned, felled, shrunk}

-- the keys with one less
abbrev pub closed_up : ℕ → List ℕ → List ℕ
closed_up at xs = take at xs ++ drop (suc at) xs

module _ (i at : ℕ) {pool : List ℕ} {t : ColumnTrie} {d data_from : ℕ} {pool₁ : List ℕ} (k : Keyed (closed_up at) pool t d data_from pool₁) (h : at < data_len_at t d) where
  pub positive_left : PositiveFrom (spot t.start t.capacity d + t.capacity + suc i) (spot t.start t.capacity d + t.capacity + interval_len_at t d) pool → PositiveFrom (data_from + t.capacity + suc i) (data_from + t.capacity + interval_len_at t d) pool₁
  positive_left s j p q = subst (λ (n : ℕ). 0 < n) (sym (keyed_behind k j (omega arith))) (subst (λ (z : ℕ). PositiveFrom (z + t.capacity + suc i) (z + t.capacity + interval_len_at t d) pool) (sym k.data_from_is) s j p q)

  -- the keys' new length
  fewer_keys : data_len_at t d - 1 ≡ length (closed_up at (layer_in pool t d).keys)
  fewer_keys = sym (length_closed at (layer_in pool t d).keys (omega (arith, keys_length k)) ∙ ap (λ (n : ℕ). n - 1) (keys_length k))

  pub cut_lone :
      (lone : Bool) (pool₂ : List ℕ) → lone ≡ true → i < interval_len_at t d →
      pool₂ ≡ lay pool₁ (data_from + t.capacity) (take i (take (interval_len_at t d) (drop (data_from + t.capacity) pool₁)) ++ map lessened (drop (suc i) (take (interval_len_at t d) (drop (data_from + t.capacity) pool₁)))) →
      Relaid pool pool₂ t d (shrunk lone i at (layer_in pool t d)) (relengthed t (set t.data_len d (data_len_at t d - 1)) (set t.interval_len d (interval_len_at t d - 1)) t.tuple_count)
  cut_lone lone pool₂ b m second =
      let l : felled i at (layer_in pool t d) ≡ shrunk lone i at (layer_in pool t d) = ap (λ (z : Bool). pick z (felled i at (layer_in pool t d)) (pruned i at (layer_in pool t d))) (sym b) in
      subst (λ (z : Layer). Relaid pool pool₂ t d z (relengthed t (set t.data_len d (data_len_at t d - 1)) (set t.interval_len d (interval_len_at t d - 1)) t.tuple_count)) l
      (laid_anew k (lapse i lessened) pool₂ (data_len_at t d - 1) (interval_len_at t d - 1) second fewer_keys
      (sym (length_lapse i lessened (layer_in pool t d).intervals (omega (arith, intervals_length k)) ∙ ap (λ (n : ℕ). n - 1) (intervals_length k))))

  pub cut_kept :
      (lone : Bool) (pool₂ : List ℕ) → lone ≡ false →
      pool₂ ≡ lay pool₁ (data_from + t.capacity) (take (i + 1) (take (interval_len_at t d) (drop (data_from + t.capacity) pool₁)) ++ map lessened (drop (i + 1) (take (interval_len_at t d) (drop (data_from + t.capacity) pool₁)))) →
      Relaid pool pool₂ t d (shrunk lone i at (layer_in pool t d)) (relengthed t (set t.data_len d (data_len_at t d - 1)) t.interval_len t.tuple_count)
  cut_kept lone pool₂ b second =
      let l : pruned i at (layer_in pool t d) ≡ shrunk lone i at (layer_in pool t d) = ap (λ (z : Bool). pick z (felled i at (layer_in pool t d)) (pruned i at (layer_in pool t d))) (sym b) in
      subst (λ (z : Layer). Relaid pool pool₂ t d z (relengthed t (set t.data_len d (data_len_at t d - 1)) t.interval_len t.tuple_count)) l
      (subst (λ (lens : List ℕ). Relaid pool pool₂ t d (pruned i at (layer_in pool t d)) (relengthed t (set t.data_len d (data_len_at t d - 1)) lens t.tuple_count)) (set-get_or t.interval_len d 0)
      (laid_anew k (lifted lessened (suc i)) pool₂ (data_len_at t d - 1) (interval_len_at t d) (second ∙ ap (λ (z : ℕ). lay pool₁ (data_from + t.capacity) (lifted lessened z (take (interval_len_at t d) (drop (data_from + t.capacity) pool₁)))) (add-one i)) fewer_keys
      (sym (intervals_length k) ∙ sym (length_lifted lessened (suc i) (layer_in pool t d).intervals))))

-- ---- what is gained and lost again

closed_wedged : (n w : ℕ) (xs : List ℕ) → n ≤ length xs → closed_up n (take n xs ++ w ∷ drop n xs) ≡ xs
closed_wedged zero w xs h = refl
closed_wedged (suc n) w [] h = absurd (omega arith)
closed_wedged (suc n) w (x ∷ xs) h = ap (λ (l : List ℕ). x ∷ l) (closed_wedged n w xs (omega arith))

lowered_raised : (xs : List ℕ) → map lessened (map suc xs) ≡ xs
lowered_raised [] = refl
lowered_raised (x ∷ xs) = ap₂ {C = List ℕ} (λ (y : ℕ) (ys : List ℕ). y ∷ ys) (let e : suc x - 1 ≡ x = omega arith in e) (lowered_raised xs)

lowered_lifted : (n : ℕ) (xs : List ℕ) → lifted lessened n (lifted suc n xs) ≡ xs
lowered_lifted zero xs = lowered_raised xs
lowered_lifted (suc n) [] = refl
lowered_lifted (suc n) (x ∷ xs) = ap (λ (l : List ℕ). x ∷ l) (lowered_lifted n xs)

lapsed_gap : (n w : ℕ) (xs : List ℕ) → n ≤ length xs → lapse n lessened (gap n w suc xs) ≡ xs
lapsed_gap zero w xs h = lowered_raised xs
lapsed_gap (suc n) w [] h = absurd (omega arith)
lapsed_gap (suc n) w (x ∷ xs) h = ap (λ (l : List ℕ). x ∷ l) (lapsed_gap n w xs (omega arith))

pub shrunk_grown : (b : Bool) (i at key : ℕ) (l : Layer) → at ≤ length l.keys → i ≤ length l.intervals → shrunk b i at (grown b i at key l) ≡ l
shrunk_grown true i at key l h k = ap₂ {C = Layer} (λ ks is. record { keys = ks; intervals = is }) (closed_wedged at key l.keys h) (lapsed_gap i at l.intervals k)
shrunk_grown false i at key l h k = ap₂ {C = Layer} (λ ks is. record { keys = ks; intervals = is }) (closed_wedged at key l.keys h) (lowered_lifted (suc i) l.intervals)
