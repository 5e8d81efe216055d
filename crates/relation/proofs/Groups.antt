-- The same layers said by groups: the keys under each parent, one group behind the other, and where each group starts.
use Prim.Native.Nat.{ℕ, zero, suc, ◌+◌, ◌≤◌, ◌<◌}
use mathlib.Core.Path.{◌≡◌, refl, sym, ap, ◌∙◌}
use mathlib.Core.List.{List, [], ◌∷◌, ◌++◌, map, append-nil}
use native.Mathlib.Omega.{arith}
use native.Mathlib.Decide.{dec_lt}
use lib.ListN.{length, get_or, drop, length-map, get_or-eq_default, take-append-drop}
use lib.Seq.{slice, length-slice, take-length, ext_get_or}
use Rattle.relation.specs.Order.{Row}
use Rattle.relation.specs.Layers.{prefixes, starts, keys_under, joined, groups_at}
use Rattle.relation.specs.Rows.{Width}
use Rattle.relation.specs.Undamaged.{Ordered}
use Rattle.relation.proofs.Lists.{get_or_any}
use Rattle.relation.proofs.Layers.{keys_at, intervals_at, length_intervals}
use Rattle.relation.proofs.Walks.{sound_ordered, sound_empty}
use Rattle.relation.proofs.Relations.{between_prefixes}
use Rattle.relation.proofs.Children.{end_le, group_keys}

-- the groups between the starts
pieces : List ℕ → List ℕ → List (List ℕ)
pieces [] ks = []
pieces (s ∷ ss) ks = slice s (get_or ss 0 (length ks)) ks ∷ pieces ss ks

piece_at : (ss ks : List ℕ) (i : ℕ) → i < length ss → get_or (pieces ss ks) i [] ≡ slice (get_or ss i 0) (get_or ss (suc i) (length ks)) ks
unfolding pieces
piece_at [] ks i h = absurd (omega arith)
piece_at (s ∷ ss) ks zero h = refl
piece_at (s ∷ ss) ks (suc i) h = piece_at ss ks i (omega arith)

length_pieces : (ss ks : List ℕ) → length (pieces ss ks) ≡ length ss
unfolding pieces
length_pieces [] ks = refl
length_pieces (s ∷ ss) ks = ap suc (length_pieces ss ks)

seam : (s t : ℕ) (ks : List ℕ) → s ≤ t → slice s t ks ++ drop t ks ≡ drop s ks
seam zero t ks h = take-append-drop t ks
seam (suc s) zero ks h = absurd (omega arith)
seam (suc s) (suc t) [] h = refl
seam (suc s) (suc t) (k ∷ ks) h = seam s t ks (omega arith)

-- each start is not above the next, which is inside or the end
abbrev Steps : List ℕ → List ℕ → Type 0
Steps ss ks = (i : ℕ) → i < length ss → (get_or ss i 0 ≤ get_or ss (suc i) (length ks)) × (get_or ss (suc i) (length ks) ≤ length ks)

joined_pieces : (s : ℕ) (ss ks : List ℕ) → Steps (s ∷ ss) ks → joined (pieces (s ∷ ss) ks) ≡ drop s ks
unfolding joined pieces
joined_pieces s [] ks f = append-nil (slice s (length ks) ks) ∙ ap (drop s) (take-length ks)
joined_pieces s (t ∷ ts) ks f = ap (λ (l : List ℕ). slice s t ks ++ l) (joined_pieces t ts ks (λ i h. f (suc i) (omega arith))) ∙ seam s t ks (f 0 (omega arith)).0

starts_pieces : (s : ℕ) (ss ks : List ℕ) → Steps (s ∷ ss) ks → starts s (pieces (s ∷ ss) ks) ≡ s ∷ ss
unfolding starts pieces
starts_pieces s [] ks f = refl
starts_pieces s (t ∷ ts) ks f =
    let e : s + length (slice s t ks) ≡ t = omega (arith, f 0 (omega arith), length-slice s t ks (f 0 (omega arith)).1) in
    ap (λ (l : List ℕ). s ∷ l) (ap (λ (n : ℕ). starts n (pieces (t ∷ ts) ks)) e ∙ starts_pieces t ts ks (λ i h. f (suc i) (omega arith)))

whole : (ss ks : List ℕ) → Steps ss ks → (0 < length ss → get_or ss 0 0 ≡ 0) → (length ss ≡ 0 → ks ≡ []) → (joined (pieces ss ks) ≡ ks) × (starts 0 (pieces ss ks) ≡ ss)
unfolding joined starts pieces
whole [] ks f z n = (sym (n refl), refl)
whole (s ∷ ss) ks f z n =
    let e : s ≡ 0 = z (omega arith) in
    (joined_pieces s ss ks f ∙ ap (λ (k : ℕ). drop k ks) e, ap (λ (k : ℕ). starts k (pieces (s ∷ ss) ks)) (sym e) ∙ starts_pieces s ss ks f)

get_or_map_lt : (f : Row → List ℕ) (l : List Row) (j : ℕ) → j < length l → get_or (map f l) j [] ≡ f (get_or l j [])
get_or_map_lt f [] j k = absurd (omega arith)
get_or_map_lt f (q ∷ qs) zero k = refl
get_or_map_lt f (q ∷ qs) (suc j) k = get_or_map_lt f qs j (omega arith)

-- a group has a key
pub begin_end : {a : ℕ} {rows : List Row} (d : ℕ) → Width a rows → d < a → (i : ℕ) → i < length (prefixes d rows) → get_or (intervals_at d rows) i 0 < get_or (intervals_at d rows) (suc i) (length (keys_at d rows))
begin_end {rows = rows} d w h i k = go (dec_lt (suc i) (length (intervals_at d rows)))
  where
    o : Ordered (intervals_at d rows) (keys_at d rows)
    o = sound_ordered (between_prefixes d w h).0

    go : Dec (suc i < length (intervals_at d rows)) → get_or (intervals_at d rows) i 0 < get_or (intervals_at d rows) (suc i) (length (keys_at d rows))
    go (yes l) = omega (arith, o.ascend i l, get_or_any (intervals_at d rows) (suc i) 0 (length (keys_at d rows)) l)
    go (no n) = omega (arith, o.inside i (omega (arith, length_intervals d rows)), get_or-eq_default (intervals_at d rows) (length (keys_at d rows)) {n = suc i} (omega arith))

pub layer_groups : {a : ℕ} {rows : List Row} (d : ℕ) → Width a rows → d < a → (keys_at d rows ≡ joined (groups_at d rows)) × (intervals_at d rows ≡ starts 0 (groups_at d rows))
unfolding groups_at
layer_groups {a} {rows} d w h =
    (sym all.0 ∙ ap joined same, sym all.1 ∙ ap (starts 0) same)
  where
    ints : List ℕ
    ints = intervals_at d rows

    keys : List ℕ
    keys = keys_at d rows

    o : Ordered ints keys
    o = sound_ordered (between_prefixes d w h).0

    step : Steps ints keys
    step i k = let m : i < length (prefixes d rows) = omega (arith, length_intervals d rows) in (omega (arith, begin_end d w h i m), end_le a d rows w h i m)

    bare : length ints ≡ 0 → keys ≡ []
    bare e = nil keys (sound_empty (between_prefixes d w h).0 e)
      where
        nil : (l : List ℕ) → length l ≡ 0 → l ≡ []
        nil [] e = refl
        nil (x ∷ l) e = absurd (omega arith)

    all : (joined (pieces ints keys) ≡ keys) × (starts 0 (pieces ints keys) ≡ ints)
    all = whole ints keys step o.start bare

    same : pieces ints keys ≡ map (λ p. keys_under p rows) (prefixes d rows)
    same =
        ext_get_or [] (pieces ints keys) (map (λ p. keys_under p rows) (prefixes d rows))
        (length_pieces ints keys ∙ length_intervals d rows ∙ sym (length-map (prefixes d rows) (λ p. keys_under p rows)))
        (λ i k.
        let m : i < length (prefixes d rows) = omega (arith, k, length_pieces ints keys, length_intervals d rows) in
        piece_at ints keys i (omega (arith, k, length_pieces ints keys)) ∙ group_keys a d rows w h i m ∙ sym (get_or_map_lt (λ p. keys_under p rows) (prefixes d rows) i m))
