-- The descent through a table's layers, word by word: where interval i of layer d stands for the words p, its group holds the keys that follow p, and the place of a
-- key in the layer is the number of the interval below that stands for one word more.
use Prim.Native.Nat.{ℕ, zero, suc, ◌+◌, ◌-◌, ◌^◌, ◌≤◌, ◌<◌}
use native.Mathlib.Omega.{arith}
use native.Mathlib.Decide.{dec_lt}
use native.Mathlib.Numerals.{add-one}
use mathlib.Core.Path.{◌≡◌, refl, sym, subst, ap, ◌∙◌}
use mathlib.Core.List.{List, [], ◌∷◌, ◌++◌}
use lib.ListN.{length, get_or, take, drop, length-append, length-take, get_or-eq_default}
use lib.Seq.{slice, slice_empty, get_or-take, get_or-drop}
use Rattle.std.proofs.lemmas.List.{drop-take}
use Rattle.relation.specs.Order.{Row}
use Rattle.relation.specs.Lists.{Ascends, anone, amore}
use Rattle.relation.specs.Rows.{Width}
use Rattle.relation.specs.Layers.{Layer, prefixes, keys_under, layer_at}
use Rattle.relation.proofs.Lists.{get_or_any, get_or_in}
use Rattle.relation.proofs.Relations.{length_prefixes}
use Rattle.relation.proofs.Tables.{ranked_at_lem}
use Rattle.relation.proofs.Intervals.{intervals_many, keys_many, group_under, group_end, group_rises, group_child, prefix_root, root_there}
use Rattle.query.proofs.Under.{keys_none}
use Rattle.column_trie.specs.Table.{data_len_at, layer_in, rows_in, Undamaged}
use Rattle.column_trie.specs.declared.ColumnTrie.{ColumnTrie}
use Rattle.column_trie.proofs.Groups.{keys_long}
use Rattle.column_trie.proofs.Header.{LayerFits, layer_fits}
use Rattle.column_trie.proofs.Layers.{Whole}
use Rattle.column_trie.proofs.Stored.{in_pool}
use Rattle.column_trie.proofs.Tables.{holds}
use Rattle.column_trie.proofs.Words.{layer_is}
use Rattle.plain_keys.specs.Keys.{group_at, group_keys, Grouped}

-- ---- runs of words

pub ascends_at : {l : List ℕ} → Ascends ◌<◌ l → (i j : ℕ) → i < j → j < length l → get_or l i 0 < get_or l j 0
ascends_at anone i j h k = absurd (omega arith)
ascends_at (amore f s) i zero h k = absurd (omega arith)
ascends_at (amore {r = x} {rs = xs} f s) zero (suc j) h k = f (get_or xs j 0) (get_or_in xs j 0 (omega arith))
ascends_at (amore f s) (suc i) (suc j) h k = ascends_at s i j (omega arith) (omega arith)

-- the keys from place `from` up to place `to` are those that follow p in the rows
pub record Under (keys : List ℕ) (rows : List Row) (p : Row) (from to : ℕ) : Type 0 where
  pub forward : from ≤ to
  pub inside : to ≤ length keys
  pub run : take (to - from) (drop from keys) ≡ keys_under p rows

under_slice : {keys : List ℕ} {rows : List Row} {p : Row} {from to : ℕ} → from ≤ to → to ≤ length keys → slice from to keys ≡ keys_under p rows → Under keys rows p from to
under_slice {keys} {rows} {p} {from} {to} f l e =
    let z : to ≡ from + (to - from) = omega arith in
    record { forward = f; inside = l; run = sym (drop-take from (to - from) keys) ∙ ap (λ (n : ℕ). drop from (take n keys)) (sym z) ∙ e }

-- ---- a table

-- interval i of layer d stands for the words p; in a table without rows it is not there
pub record At (pool : List ℕ) (t : ColumnTrie) (d i : ℕ) (p : Row) : Type 0 where
  pub long : length p ≡ d
  pub under : 0 < length (rows_in pool t) → get_or (prefixes d (rows_in pool t)) i [] ≡ p
  pub inside : 0 < length (rows_in pool t) → i < length (prefixes d (rows_in pool t))

pub at_the_root : (pool : List ℕ) (t : ColumnTrie) → At pool t 0 0 []
at_the_root pool t = record { long = refl; under = λ h. prefix_root (rows_in pool t); inside = λ h. root_there (get_or_in (rows_in pool t) 0 [] h) }

module _ {pool : List ℕ} {t : ColumnTrie} (o : Whole t) (u : Undamaged pool t) where
  abbrev rows : List Row
  rows = rows_in pool t

  pub wide : Width t.arity (rows_in pool t)
  wide = (holds o u).width

  module _ (d : ℕ) (b : d < t.arity) where
    abbrev lay : Layer
    lay = layer_at d rows

    here : layer_in pool t d ≡ lay
    here = layer_is o (in_pool u) (holds o u) d b ∙ ranked_at_lem d wide b

    fits : LayerFits (length pool) t d
    fits = layer_fits (in_pool u) b

    many : data_len_at t d ≡ length lay.keys
    many = sym (keys_long pool fits) ∙ ap (λ (l : Layer). length l.keys) here

    module _ (i : ℕ) (k : i < length (prefixes d rows)) where
      starts : group_at (layer_in pool t d) i ≡ get_or lay.intervals i 0
      starts = ap (λ (l : Layer). group_at l i) here ∙ get_or_any lay.intervals i (length lay.keys) 0 (omega (arith, intervals_many wide d b))

      stops : group_at (layer_in pool t d) (i + 1) ≡ get_or lay.intervals (suc i) (length lay.keys)
      stops = ap (λ (l : Layer). group_at l (i + 1)) here ∙ ap (λ (n : ℕ). get_or lay.intervals n (length lay.keys)) (add-one i)

    module _ {i : ℕ} {p : Row} (a : At pool t d i p) where
      abbrev keys : List ℕ
      keys = (layer_in pool t d).keys

      there : keys ≡ lay.keys
      there = ap (λ (l : Layer). l.keys) here

      few : length keys ≤ length pool
      few = omega (arith, ap (length {A = ℕ}) there, many, fits)

      some_under : 0 < length rows → Under keys rows p (group_at (layer_in pool t d) i) (group_at (layer_in pool t d) (i + 1))
      some_under n =
          let k = a.inside n in
          let f = starts i k in
          let g = stops i k in
          let r : slice (group_at (layer_in pool t d) i) (group_at (layer_in pool t d) (i + 1)) keys ≡ keys_under p rows =
          ap (λ (x : ℕ). slice x (group_at (layer_in pool t d) (i + 1)) keys) f
          ∙ ap (λ (x : ℕ). slice (get_or lay.intervals i 0) x keys) g
          ∙ ap (slice (get_or lay.intervals i 0) (get_or lay.intervals (suc i) (length lay.keys))) there
          ∙ group_under wide d b i k
          ∙ ap (λ (x : Row). keys_under x rows) (a.under n) in
          under_slice (omega (arith, f, g, group_rises wide d b i k)) (omega (arith, g, group_end wide d b i k, ap (length {A = ℕ}) there)) r

      no_rows : length rows ≡ 0 → (group_at (layer_in pool t d) i ≡ group_at (layer_in pool t d) (i + 1)) × (group_at (layer_in pool t d) (i + 1) ≡ 0)
      no_rows z =
          let x : length lay.intervals ≡ 0 = omega (arith, intervals_many wide d b, length_prefixes d rows) in
          let y : length lay.keys ≡ 0 = omega (arith, keys_many wide d b, length_prefixes (suc d) rows) in
          let past : (j : ℕ) → group_at (layer_in pool t d) j ≡ length lay.keys = λ j. ap (λ (l : Layer). group_at l j) here ∙ get_or-eq_default lay.intervals (length lay.keys) {n = j} (omega arith) in
          (past i ∙ sym (past (i + 1)), past (i + 1) ∙ y)

      none : length rows ≡ 0 → Under keys rows p (group_at (layer_in pool t d) i) (group_at (layer_in pool t d) (i + 1))
      none z =
          let w = no_rows z in
          let s : slice (group_at (layer_in pool t d) i) (group_at (layer_in pool t d) (i + 1)) keys ≡ [] = ap (λ (x : ℕ). slice x (group_at (layer_in pool t d) (i + 1)) keys) w.0 ∙ slice_empty (group_at (layer_in pool t d) (i + 1)) keys in
          under_slice (omega (arith, w.0)) (omega (arith, w.1)) (s ∙ sym (keys_none p rows (omega (arith, length_prefixes (suc (length p)) rows))))

      pub at_under : Under (layer_in pool t d).keys (rows_in pool t) p (group_at (layer_in pool t d) i) (group_at (layer_in pool t d) (i + 1))
      at_under = go (dec_lt 0 (length rows))
        where
          go : Dec (0 < length rows) → Under keys rows p (group_at (layer_in pool t d) i) (group_at (layer_in pool t d) (i + 1))
          go (yes n) = some_under n
          go (no n) = none (omega arith)

      pub at_grouped : i < 2 ^ 63 → Grouped (layer_in pool t d) i
      at_grouped h = record { few = h; forward = at_under.forward; inside = at_under.inside }

      -- the place of one of these keys is the interval that stands for one word more
      at_child : (at : ℕ) → group_at (layer_in pool t d) i ≤ at → at < group_at (layer_in pool t d) (i + 1) → At pool t (d + 1) at (p ++ get_or (layer_in pool t d).keys at 0 ∷ []) × (at ≤ length pool)
      at_child at lo hi = (go (dec_lt 0 (length rows)), omega (arith, few, at_under.inside))
        where
          long : length (p ++ get_or keys at 0 ∷ []) ≡ d + 1
          long = length-append p (get_or keys at 0 ∷ []) ∙ ap (λ (n : ℕ). n + 1) a.long

          go : Dec (0 < length rows) → At pool t (d + 1) at (p ++ get_or keys at 0 ∷ [])
          go (yes n) =
              let k = a.inside n in
              let f = starts i k in
              let g = stops i k in
              let c = group_child wide d b i at k (omega arith) (omega arith) in
              record {
                long = long;
                under = λ h. ap (λ (m : ℕ). get_or (prefixes m rows) at []) (add-one d) ∙ c.1 ∙ ap (λ (x : Row). x ++ get_or lay.keys at 0 ∷ []) (a.under n) ∙ ap (λ (l : List ℕ). p ++ get_or l at 0 ∷ []) (sym there);
                inside = λ h. rw (add-one d) c.0;
              }
          go (no n) = absurd (omega (arith, (no_rows (omega arith)).0))

      -- so each key of the group, by its place there
      pub at_key : (k : ℕ) → k < length (group_keys (layer_in pool t d) i) → At pool t (d + 1) (group_at (layer_in pool t d) i + k) (p ++ get_or (group_keys (layer_in pool t d) i) k 0 ∷ []) × (group_at (layer_in pool t d) i + k ≤ length pool)
      at_key k h =
          let from = group_at (layer_in pool t d) i in
          let n = group_at (layer_in pool t d) (i + 1) - from in
          let l = length-take n (drop from keys) in
          let f = at_under.forward in
          let e : get_or (group_keys (layer_in pool t d) i) k 0 ≡ get_or keys (from + k) 0 = get_or-take n (drop from keys) k 0 (omega arith) ∙ get_or-drop from keys k 0 in
          let c = at_child (from + k) (omega arith) (omega arith) in
          (subst (λ (x : ℕ). At pool t (d + 1) (from + k) (p ++ x ∷ [])) (sym e) c.0, c.1)
