-- A layer of a relation, as a reader of its words meets it: interval i of layer d is that of the i-th beginning of d words, its group is the keys under
-- that beginning, and the key at place j leads to interval j below.
use Prim.Native.Nat.{ℕ, suc, ◌+◌, ◌-◌, ◌≤◌, ◌<◌}
use mathlib.Core.Path.{◌≡◌, sym, subst, ap, ◌∙◌}
use mathlib.Core.List.{List, [], ◌∷◌, ◌++◌}
use native.Mathlib.Omega.{arith}
use native.Mathlib.Decide.{dec_lt}
use lib.ListN.{length, get_or, take, get_or-eq_default}
use lib.Seq.{slice, length-slice, get_or-take, get_or-drop}
use Rattle.relation.specs.Order.{Row}
use Rattle.relation.specs.Lists.{◌∈◌}
use Rattle.relation.specs.Rows.{Width}
use Rattle.relation.specs.Layers.{Layer, layer, prefixes, keys_under, layer_at, layers_of}
use Rattle.relation.proofs.Layers.{keys_at, ranked_at, length_keys, length_intervals, parent_in, prefixes_asc, prefixes_width, prefix_of, prefix_in}
use Rattle.relation.proofs.Rank.{rank_at}
use Rattle.relation.proofs.Paths.{layer_from}
use Rattle.relation.proofs.Children.{group_row, key_at, begin_is, end_is, end_le, group_keys}
use Rattle.relation.proofs.Groups.{begin_end}
use Rattle.relation.proofs.Tables.{ranked, ranked_at_lem}
use Rattle.relation.proofs.Lists.{get_or_in}

-- by ranks, and by groups
pub layer_ranked : {a : ℕ} {rows : List Row} → Width a rows → (d : ℕ) → d < a → layer (layers_of a rows) d ≡ ranked_at d rows
layer_ranked {a} {rows} w d h = ap (λ (ls : List Layer). layer ls d) (sym (ranked w)) ∙ layer_from 0 a rows d h ∙ ap (λ (n : ℕ). ranked_at n rows) (let e : 0 + d ≡ d = omega arith in e)

pub layer_is : {a : ℕ} {rows : List Row} → Width a rows → (d : ℕ) → d < a → layer (layers_of a rows) d ≡ layer_at d rows
layer_is w d h = layer_ranked w d h ∙ ranked_at_lem d w h

pub prefix_length : {a : ℕ} {rows : List Row} → Width a rows → (d i : ℕ) → d ≤ a → i < length (prefixes d rows) → length (get_or (prefixes d rows) i []) ≡ d
prefix_length {rows = rows} w d i h l = prefixes_width d w h (get_or (prefixes d rows) i []) (get_or_in (prefixes d rows) i [] l)

-- where the group of interval i starts and ends
abbrev begin : Layer → ℕ → ℕ
begin l i = get_or l.intervals i 0

abbrev end : Layer → ℕ → ℕ
end l i = get_or l.intervals (suc i) (length l.keys)

module _ {a : ℕ} {rows : List Row} (w : Width a rows) (d : ℕ) (h : d < a) where
  -- one interval for each beginning of d words, one key for each of d + 1
  pub intervals_many : length (layer_at d rows).intervals ≡ length (prefixes d rows)
  intervals_many = ap (λ (l : Layer). length l.intervals) (sym (ranked_at_lem d w h)) ∙ length_intervals d rows

  pub keys_many : length (layer_at d rows).keys ≡ length (prefixes (suc d) rows)
  keys_many = ap (λ (l : Layer). length l.keys) (sym (ranked_at_lem d w h)) ∙ length_keys d rows

  module _ (i : ℕ) (k : i < length (prefixes d rows)) where
    -- the group of interval i: the keys under its words
    pub group_under : slice (begin (layer_at d rows) i) (end (layer_at d rows) i) (layer_at d rows).keys ≡ keys_under (get_or (prefixes d rows) i []) rows
    group_under = subst (λ (l : Layer). slice (begin l i) (end l i) l.keys ≡ keys_under (get_or (prefixes d rows) i []) rows) (ranked_at_lem d w h) (group_keys a d rows w h i k)

    -- it ends inside the keys, and has one
    pub group_end : end (layer_at d rows) i ≤ length (layer_at d rows).keys
    group_end = subst (λ (l : Layer). end l i ≤ length l.keys) (ranked_at_lem d w h) (end_le a d rows w h i k)

    pub group_rises : begin (layer_at d rows) i < end (layer_at d rows) i
    group_rises = subst (λ (l : Layer). begin l i < end l i) (ranked_at_lem d w h) (begin_end d w h i k)

    pub group_many : length (keys_under (get_or (prefixes d rows) i []) rows) ≡ end (layer_at d rows) i - begin (layer_at d rows) i
    group_many = ap length (sym group_under) ∙ length-slice (begin (layer_at d rows) i) (end (layer_at d rows) i) (layer_at d rows).keys group_end

    pub group_some : 0 < length (keys_under (get_or (prefixes d rows) i []) rows)
    group_some = omega (arith, group_many, group_rises)

    -- the key at offset o
    pub group_key : (o : ℕ) → o < length (keys_under (get_or (prefixes d rows) i []) rows) → get_or (keys_under (get_or (prefixes d rows) i []) rows) o 0 ≡ get_or (layer_at d rows).keys (begin (layer_at d rows) i + o) 0
    group_key o m =
        let l = layer_at d rows in
        ap (λ (ks : List ℕ). get_or ks o 0) (sym group_under) ∙ get_or-drop (begin l i) (take (end l i) l.keys) o 0 ∙ get_or-take (end l i) l.keys (begin l i + o) 0 (omega (arith, m, group_many))

  -- the key at place j of the group leads to interval j below, whose words are one more
  pub group_child : (i j : ℕ) → i < length (prefixes d rows) → begin (layer_at d rows) i ≤ j → j < end (layer_at d rows) i → (j < length (prefixes (suc d) rows)) × (get_or (prefixes (suc d) rows) j [] ≡ get_or (prefixes d rows) i [] ++ get_or (layer_at d rows).keys j 0 ∷ [])
  group_child i j k =
      subst (λ (l : Layer). begin l i ≤ j → j < end l i → (j < length (prefixes (suc d) rows)) × (get_or (prefixes (suc d) rows) j [] ≡ get_or (prefixes d rows) i [] ++ get_or l.keys j 0 ∷ []))
      (ranked_at_lem d w h)
      (λ lo hi.
      let n : j < length (keys_at d rows) = omega (arith, end_le a d rows w h i k) in
      let m : j < length (prefixes (suc d) rows) = omega (arith, length_keys d rows) in (
        m,
        group_row d (prefixes d rows) (prefixes (suc d) rows) (prefixes_asc d rows) (prefixes_width d w (omega arith)) (prefixes_asc (suc d) rows) (prefixes_width (suc d) w h) (λ q r. parent_in d rows r) i j k m (omega (arith, begin_is a d rows w h i k)) (omega (arith, end_is a d rows w h i)) ∙
            ap (λ (x : ℕ). get_or (prefixes d rows) i [] ++ x ∷ []) (sym (key_at a d rows w h j n)),
      ))

-- the root: no words, and it is there where there is a row
pub prefix_root : (rows : List Row) → get_or (prefixes 0 rows) 0 [] ≡ []
prefix_root rows = go (dec_lt 0 (length (prefixes 0 rows)))
  where
    go : Dec (0 < length (prefixes 0 rows)) → get_or (prefixes 0 rows) 0 [] ≡ []
    go (yes h) = (prefix_of 0 rows (get_or_in (prefixes 0 rows) 0 [] h)).2
    go (no n) = get_or-eq_default (prefixes 0 rows) [] (omega arith)

pub root_there : {rows : List Row} {r : Row} → r ∈ rows → 0 < length (prefixes 0 rows)
root_there {rows} m = omega (arith, (rank_at (prefixes_asc 0 rows) (prefix_in 0 m)).0)
