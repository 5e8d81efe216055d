-- An insert, as the code walks it: down the layers while r's words are stored, then a new key in each layer below.
use Prim.Native.Nat.{ℕ, zero, suc, ◌+◌, ◌-◌, ◌≤◌, ◌<◌}
use mathlib.Core.Path.{◌≡◌, refl, sym, ap, ◌∙◌, subst}
use mathlib.Core.Logic.{⊎_elim}
use mathlib.Core.List.{List, [], ◌∷◌, ◌++◌, map}
use native.Mathlib.Omega.{arith}
use lib.ListN.{length, take, get_or, drop}
use lib.Seq.{take_all}
use Rattle.relation.specs.Order.{Row}
use Rattle.relation.specs.Lists.{◌∈◌, not_in_nil}
use Rattle.relation.specs.Rows.{Asc, Members, put, Width}
use Rattle.relation.specs.Layers.{prefixes}
use Rattle.relation.proofs.Order.{irrefl}
use Rattle.relation.proofs.Sorting.{in_put}
use Rattle.relation.proofs.Rank.{rank, ins, bump, rank_not, rank_le, rank_end, put_ins, rank_at, ins_bump, length_ins}
use Rattle.relation.proofs.Layers.{keys_at, intervals_at, prefix_of, prefix_in, prefixes_asc, prefixes_width, prefixes_full, layer_cong, length_keys, length_intervals, parent_in, grown_put, known_shorter, snoc_take, step_known, step_keys, step_first, step_new, new_place, ranked_at}
use Rattle.relation.proofs.Paths.{ranked_from}
use Rattle.relation.proofs.Relations.{roots}
use Rattle.relation.proofs.Children.{found_place, new_at, key_at, begin_is, end_is, end_le}

-- layers depend on the members alone: a build may take the rows as given, sorted, or as a set
pub layers_cong : (d n : ℕ) (xs ys : List Row) → Members xs ys → ranked_from d n xs ≡ ranked_from d n ys
unfolding ranked_from
layers_cong d zero xs ys p = refl
layers_cong d (suc n) xs ys p =
    let a = layer_cong d xs ys p in
    let b : ranked_at d xs ≡ ranked_at d ys = λ j. record { keys = a.0 j; intervals = a.1 j } in
    let c = layers_cong (suc d) n xs ys p in
    cc

-- r's beginning of d words is stored
abbrev pub PrefixStored : List Row → Row → ℕ → Type 0
PrefixStored rows r d = take d r ∈ prefixes d rows

-- its place among the stored ones: the number of its parent, or where it would stand
abbrev pub rank_of : List Row → Row → ℕ → ℕ
rank_of rows r d = rank (take d r) (prefixes d rows)

module _ (a : ℕ) (rows : List Row) (r : Row) (w : Width a rows) (lr : length r ≡ a) where
  stored_fewer : (k d : ℕ) → PrefixStored rows r (d + k) → PrefixStored rows r d
  stored_fewer zero d m = subst (PrefixStored rows r) (let e : d + 0 ≡ d = omega arith in e) m
  stored_fewer (suc k) d m = stored_fewer k d (known_shorter a rows r (r ∷ rows) w lr (λ x. (λ m. m, λ m. m)) (d + k) (subst (PrefixStored rows r) (let e : d + suc k ≡ suc (d + k) = omega arith in e) m))

  -- the longest stored beginning has k words: those of fewer words are stored, those of more are not
  pub stored_below : (d k : ℕ) → d ≤ k → PrefixStored rows r k → PrefixStored rows r d
  stored_below d k h m = stored_fewer (k - d) d (subst (PrefixStored rows r) (let e : k ≡ d + (k - d) = omega arith in e) m)

  -- r is stored exactly where its beginning of a words is
  pub stored_whole : Asc rows → (r ∈ rows → PrefixStored rows r a) × (PrefixStored rows r a → r ∈ rows)
  stored_whole s =
      let e : take a r ≡ r = take_all a r (omega arith) in
      let f : prefixes a rows ≡ rows = prefixes_full s w in
      (λ m. prefix_in a m, λ m. subst (λ (z : Row). z ∈ rows) e (subst (λ (us : List Row). take a r ∈ us) f m))

  -- one step down: r's word is in the group, at place j
  pub descend : (d j : ℕ) → d < a → PrefixStored rows r d → get_or (intervals_at d rows) (rank_of rows r d) 0 ≤ j → j < get_or (intervals_at d rows) (suc (rank_of rows r d)) (length (keys_at d rows)) → get_or (keys_at d rows) j 0 ≡ get_or r d 0 → PrefixStored rows r (suc d) × (rank_of rows r (suc d) ≡ j)
  descend d j h m lo hi e =
      let p = rank_at (prefixes_asc d rows) m in
      let k : j < length (keys_at d rows) = omega (arith, hi, end_le a d rows w h (rank_of rows r d) p.0) in
      let f =
      found_place d (prefixes d rows) (prefixes (suc d) rows) (prefixes_asc d rows) (prefixes_width d w (omega arith)) (prefixes_asc (suc d) rows) (prefixes_width (suc d) w h) (λ q m. parent_in d rows m)
      (rank_of rows r d) j (get_or r d 0) p.0 (omega (arith, k, length_keys d rows)) (omega (arith, lo, begin_is a d rows w h (rank_of rows r d) p.0)) (omega (arith, hi, end_is a d rows w h (rank_of rows r d))) (sym (key_at a d rows w h j k) ∙ e) in
      let u : get_or (prefixes d rows) (rank_of rows r d) [] ++ (get_or r d 0 ∷ []) ≡ take (suc d) r = ap (λ (z : Row). z ++ (get_or r d 0 ∷ [])) p.1 ∙ sym (snoc_take a rows r (r ∷ rows) w lr (λ x. (λ m. m, λ m. m)) d h) in
      (subst (λ (z : Row). z ∈ prefixes (suc d) rows) u f.0, ap (λ (z : Row). rank z (prefixes (suc d) rows)) (sym u) ∙ f.1)

  -- it is not: the keys before pos in the group are smaller, the one at pos is greater or the group ends
  pub branch : (d pos : ℕ) → d < a → PrefixStored rows r d → get_or (intervals_at d rows) (rank_of rows r d) 0 ≤ pos → pos ≤ get_or (intervals_at d rows) (suc (rank_of rows r d)) (length (keys_at d rows)) → ((j : ℕ) → get_or (intervals_at d rows) (rank_of rows r d) 0 ≤ j → j < pos → get_or (keys_at d rows) j 0 < get_or r d 0) → (pos < get_or (intervals_at d rows) (suc (rank_of rows r d)) (length (keys_at d rows)) → get_or r d 0 < get_or (keys_at d rows) pos 0) → (PrefixStored rows r (suc d) → ⊥) × (rank_of rows r (suc d) ≡ pos)
  branch d pos h m lo hi less more =
      let p = rank_at (prefixes_asc d rows) m in
      let b = begin_is a d rows w h (rank_of rows r d) p.0 in
      let e = end_is a d rows w h (rank_of rows r d) in
      let l = end_le a d rows w h (rank_of rows r d) p.0 in
      let f =
      new_at d (prefixes d rows) (prefixes (suc d) rows) (prefixes_asc d rows) (prefixes_width d w (omega arith)) (prefixes_asc (suc d) rows) (prefixes_width (suc d) w h) (λ q m. parent_in d rows m)
      (rank_of rows r d) pos (get_or r d 0) p.0 (omega arith) (omega arith)
      (λ j x y. subst (λ (z : ℕ). z < get_or r d 0) (key_at a d rows w h j (omega arith)) (less j (omega arith) y))
      (λ x. subst (λ (z : ℕ). get_or r d 0 < z) (key_at a d rows w h pos (omega arith)) (more (omega arith))) in
      let u : get_or (prefixes d rows) (rank_of rows r d) [] ++ (get_or r d 0 ∷ []) ≡ take (suc d) r = ap (λ (z : Row). z ++ (get_or r d 0 ∷ [])) p.1 ∙ sym (snoc_take a rows r (r ∷ rows) w lr (λ x. (λ m. m, λ m. m)) d h) in
      (λ q. f.0 (subst (λ (z : Row). z ∈ prefixes (suc d) rows) (sym u) q), ap (λ (z : Row). rank z (prefixes (suc d) rows)) (sym u) ∙ f.1)

  -- below a new key: the next key stands where the start at the new parent's place is, or at the end
  pub below : (d : ℕ) → d < a → (PrefixStored rows r d → ⊥) → (PrefixStored rows r (suc d) → ⊥) × (rank_of rows r (suc d) ≡ get_or (intervals_at d rows) (rank_of rows r d) (length (keys_at d rows)))
  below d h n = (λ m. n (known_shorter a rows r (r ∷ rows) w lr (λ x. (λ m. m, λ m. m)) d m), new_place a rows r (r ∷ rows) w lr (λ x. (λ m. m, λ m. m)) d h n)

  -- what the layers become
  pub insert_known : (d : ℕ) → PrefixStored rows r (suc d) → (keys_at d (put r rows) ≡ keys_at d rows) × (intervals_at d (put r rows) ≡ intervals_at d rows)
  insert_known d m = step_known a rows r (put r rows) w lr (grown_put rows r) d m

  pub insert_key : (d : ℕ) → d < a → (PrefixStored rows r (suc d) → ⊥) → keys_at d (put r rows) ≡ take (rank_of rows r (suc d)) (keys_at d rows) ++ get_or r d 0 ∷ drop (rank_of rows r (suc d)) (keys_at d rows)
  unfolding ins
  insert_key d h n = step_keys a rows r (put r rows) w lr (grown_put rows r) d h n

  pub insert_first : (d : ℕ) → d < a → PrefixStored rows r d → (PrefixStored rows r (suc d) → ⊥) → intervals_at d (put r rows) ≡ take (suc (rank_of rows r d)) (intervals_at d rows) ++ map suc (drop (suc (rank_of rows r d)) (intervals_at d rows))
  unfolding bump
  insert_first d h m n = step_first a rows r (put r rows) w lr (grown_put rows r) d h m n

  pub insert_new : (d : ℕ) → d < a → (PrefixStored rows r d → ⊥) → intervals_at d (put r rows) ≡ take (rank_of rows r d) (intervals_at d rows) ++ rank_of rows r (suc d) ∷ map suc (drop (rank_of rows r d) (intervals_at d rows))
  insert_new d h n = step_new a rows r (put r rows) w lr (grown_put rows r) d h n ∙ ins_bump (rank_of rows r d) (rank_of rows r (suc d)) (intervals_at d rows) (omega (arith, rank_le (take d r) (prefixes d rows), length_intervals d rows))

  pub insert_count : (r ∈ rows → ⊥) → length (put r rows) ≡ suc (length rows)
  insert_count n = ap length (put_ins r rows n) ∙ length_ins (rank r rows) r rows

pub put_width : {a : ℕ} {rows : List Row} (r : Row) → Width a rows → length r ≡ a → Width a (put r rows)
put_width {a} {rows} r w e q m = ⊎_elim (λ (f : q ≡ r). ap length f ∙ e) (λ (f : q ∈ rows). w q f) (in_put r rows m)

-- where an insert starts: at the root, which an empty table does not have
pub root : {rows : List Row} (r : Row) {q : Row} → q ∈ rows → PrefixStored rows r 0 × (rank_of rows r 0 ≡ 0)
root {rows} r {q} m = (prefix_in 0 m, ⊎_elim (λ (e : prefixes 0 rows ≡ []). ap (rank []) e ∙ none) (λ (e : prefixes 0 rows ≡ ([] ∷ [])). ap (rank []) e ∙ one) (roots rows))
  where
    none : rank [] [] ≡ 0
    none = rank_end [] [] (λ q m. absurd (not_in_nil m))

    one : rank [] ([] ∷ []) ≡ 0
    one = rank_not [] [] [] (λ l. irrefl l)

pub no_root : (r : Row) (d : ℕ) → PrefixStored [] r d → ⊥
no_root r d m = not_in_nil (prefix_of d [] m).1
