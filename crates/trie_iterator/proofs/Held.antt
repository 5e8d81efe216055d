-- A table whose words hold a relation: every undamaged table does, its own rows; and what its groups are, in words of prefixes and keys. Interval i
-- at depth d is that of the i-th beginning of d words, its group is the keys under that beginning, and the place of a key in the layer is the place
-- of its longer beginning, so the interval of its children.
use Prim.Native.Nat.{ℕ, zero, suc, ◌+◌, ◌≤◌, ◌<◌}
use mathlib.Core.Path.{◌≡◌, refl, sym, ap, ◌∙◌, subst}
use mathlib.Core.Logic.{⊎_elim}
use mathlib.Core.Bool.{true, ◌&&◌}
use mathlib.Core.List.{List, [], ◌∷◌, ◌++◌, map, append-nil}
use native.Mathlib.Omega.{arith}
use native.Mathlib.Decide.{dec_lt}
use native.Mathlib.Nat.{le_of_eq}
use lib.ListN.{length, get_or, take, drop, length-take, length-drop}
use lib.Seq.{get_or-take, get_or-drop}
use lib.Dec.{ltb, leb}
use borrow.Author.Tests.{lt-ltb, le-leb}
use Rattle.relation.specs.Tests.{every}
use Rattle.relation.specs.Order.{Row}
use Rattle.relation.specs.Rows.{Width}
use Rattle.relation.specs.Lists.{◌∈◌, hd}
use Rattle.relation.specs.Layers.{Layer, layer, prefixes, keys_under, groups_at, joined, starts, layer_at}
use Rattle.relation.specs.Undamaged as layers
use Rattle.relation.specs.Undamaged.{Ordered}
use Rattle.relation.proofs.Tests.{and_left, and_true}
use Rattle.relation.proofs.Lists.{get_or_any}
use Rattle.relation.proofs.Walks.{sound_ordered}
use Rattle.relation.proofs.Intervals.{layer_is, keys_many, intervals_many, group_under, group_end, group_rises, group_many, group_key, group_child, prefix_root, root_there}
use Rattle.relation.proofs.Relations.{between_prefixes, roots}
use Rattle.relation.proofs.Tables.{ranked_at_lem, every_undamaged_table_is_what_a_build_of_its_own_rows_leaves}
use Rattle.column_trie.specs.Limits.{max_arity}
use Rattle.column_trie.specs.Groups.{group_from, group_to, keys_of, lies}
use Rattle.column_trie.specs.Pool.{reads}
use Rattle.column_trie.specs.Table.{data_len_at, interval_len_at, layers_in, layer_in, rows_in, header_sound, past_at, Undamaged, undamaged}
use Rattle.column_trie.specs.declared.ColumnTrie.{ColumnTrie}
use Rattle.column_trie.proofs.Layers.{reads_at}
use Rattle.column_trie.proofs.Damage.{told_undamaged}
use Rattle.column_trie_place.specs.Checks.{count_up_to}
use Rattle.seek.specs.Offset.{NonFalling}
use Rattle.seek.proofs.Laws.{leading_one, binary_leading}
use Rattle.trie_iterator.specs.Cursor.{Layered}

-- ---- an undamaged table holds its own rows

reads_short : (at c : ℕ) (ks ns pool : List ℕ) → (length (reads at c ks ns pool) ≤ length ks) × (length (reads at c ks ns pool) ≤ length ns)
unfolding reads
reads_short at c [] ns pool = omega arith
reads_short at c (k ∷ ks) [] pool = omega arith
reads_short at c (k ∷ ks) (n ∷ ns) pool = omega (arith, reads_short (at + c + c) c ks ns pool)

layer_in_lem : (pool : List ℕ) (t : ColumnTrie) → length (layers_in pool t) ≡ t.arity → (d : ℕ) → d < t.arity → layer (layers_in pool t) d ≡ layer_in pool t d
layer_in_lem pool t e d h =
    let ks = take t.arity t.data_len in
    let ns = take t.arity t.interval_len in
    let s = reads_short t.start t.capacity ks ns pool in
    let a : length ks ≡ t.arity = omega (arith, s.0, e, length-take t.arity t.data_len) in
    let b : length ns ≡ t.arity = omega (arith, s.1, e, length-take t.arity t.interval_len) in
    let x : get_or ks d 0 ≡ data_len_at t d = get_or-take t.arity t.data_len d 0 h in
    let y : get_or ns d 0 ≡ interval_len_at t d = get_or-take t.arity t.interval_len d 0 h in
    reads_at t.start t.capacity ks ns pool d (a ∙ sym b) (omega arith) ∙ cc

pub undamaged_layered : {pool : List ℕ} {t : ColumnTrie} → Undamaged pool t → Layered pool t (rows_in pool t)
unfolding undamaged
undamaged_layered {pool} {t} u =
    let r = every_undamaged_table_is_what_a_build_of_its_own_rows_leaves u.arity.0 u.layers in
    record {
      sound =
          and_left (header_sound (length pool) t) (every max_arity (past_at t) && layers.undamaged t.arity t.capacity (layers_in pool t) t.tuple_count)
          (told_undamaged pool t u);
      asc = r.asc;
      width = r.width;
      layers = λ d h. sym (layer_in_lem pool t u.layers.arity d h) ∙ ap (λ (ls : List Layer). layer ls d) r.built ∙ layer_is r.width d h;
    }

-- ---- the groups of one layer of a relation

-- Interval i of the layer l at depth d, that of the beginning p.
pub record GroupHolds (l : Layer) (rows : List Row) (d i : ℕ) (p : Row) : Type 0 where
  -- its group lies in the layer, holds the keys under p, and is as long as they are many
  pub lies : lies l i ≡ true
  pub keys : keys_of l i ≡ keys_under p rows
  pub long : group_to l i ≡ group_from l i + length (keys_under p rows)
  -- the key at offset o leads to the interval of p with that key
  pub child : (o : ℕ) → o < length (keys_under p rows) → (group_from l i + o < length (prefixes (suc d) rows)) × (get_or (prefixes (suc d) rows) (group_from l i + o) [] ≡ p ++ (get_or (keys_under p rows) o 0 ∷ []))
  -- from there the halving rule counts the intervals up to i
  pub owner : (o : ℕ) → o < length (keys_under p rows) → count_up_to (group_from l i + o) l.intervals ≡ suc i
  -- the keys from any on don't fall
  pub rises : (o : ℕ) → NonFalling (drop o (keys_under p rows))

-- a list that ascends from place to place doesn't fall
rising : (l : List ℕ) → ((i : ℕ) → suc i < length l → get_or l i 0 < get_or l (suc i) 0) → NonFalling l
rising l f a zero h k = let e : a ≡ 0 = omega arith in ap_le e
  where
    ap_le : {x y : ℕ} → x ≡ y → get_or l x 0 ≤ get_or l y 0
    ap_le e = le_of_eq (ap (λ (n : ℕ). get_or l n 0) e)
rising l f a (suc b) h k = go (dec_lt a (suc b)) (λ (q : a ≤ b). rising l f a b q (omega arith))
  where
    go : Dec (a < suc b) → (a ≤ b → get_or l a 0 ≤ get_or l b 0) → get_or l a 0 ≤ get_or l (suc b) 0
    go (yes q) ih = omega (arith, ih (omega arith), f b k)
    go (no q) ih = le_of_eq (ap (λ (n : ℕ). get_or l n 0) (let e : a ≡ suc b = omega arith in e))

module _ {a : ℕ} {rows : List Row} (w : Width a rows) (d : ℕ) (h : d < a) where
  abbrev here : Layer
  here = layer_at d rows

  ordered : Ordered here.intervals here.keys
  ordered = subst (λ (l : Layer). Ordered l.intervals l.keys) (ranked_at_lem d w h) (sound_ordered (between_prefixes d w h).0)

  module _ (i : ℕ) (k : i < length (prefixes d rows)) where
    abbrev keys : List ℕ
    keys = keys_under (get_or (prefixes d rows) i []) rows

    lies_here : lies here i ≡ true
    unfolding lies
    lies_here =
        and_true (ltb i (length here.intervals)) (leb (group_from here i) (group_to here i) && leb (group_to here i) (length here.keys)) (lt-ltb i (length here.intervals) (omega (arith, intervals_many w d h)))
        (and_true (leb (group_from here i) (group_to here i)) (leb (group_to here i) (length here.keys)) (le-leb (group_from here i) (group_to here i) (omega (arith, group_rises w d h i k))) (le-leb (group_to here i) (length here.keys) (group_end w d h i k)))

    -- the place of a key is the place of its beginning with it
    child_here : (o : ℕ) → o < length keys → (group_from here i + o < length (prefixes (suc d) rows)) × (get_or (prefixes (suc d) rows) (group_from here i + o) [] ≡ get_or (prefixes d rows) i [] ++ (get_or keys o 0 ∷ []))
    child_here o m =
        let c = group_child w d h i (group_from here i + o) k (omega arith) (omega (arith, m, group_many w d h i k)) in
        (c.0, c.1 ∙ ap (λ (n : ℕ). get_or (prefixes d rows) i [] ++ (n ∷ [])) (sym (group_key w d h i k o m)))

    -- the intervals not above it are those up to i
    owner_here : (o : ℕ) → o < length keys → count_up_to (group_from here i + o) here.intervals ≡ suc i
    owner_here o m =
        let ints = here.intervals in
        let j = group_from here i + o in
        let f = rising ints ordered.ascend in
        leading_one ints (j + 1) (count_up_to j ints) (suc i) (binary_leading ints (j + 1) f)
        (record {
          inside = omega (arith, intervals_many w d h);
          before = λ x l. omega (arith, f x i (omega arith) (omega (arith, intervals_many w d h)));
          stops = λ l. omega (arith, m, group_many w d h i k, get_or_any ints (suc i) 0 (length here.keys) l);
        })

    -- the keys from any on don't fall
    rises_here : (o : ℕ) → NonFalling (drop o keys)
    rises_here o x y l m = omega (arith, get_or-drop o keys x 0, get_or-drop o keys y 0, rising keys step (o + x) (o + y) (omega arith) (omega (arith, m, length-drop o keys)))
      where
        step : (x : ℕ) → suc x < length keys → get_or keys x 0 < get_or keys (suc x) 0
        step x m =
            let from = group_from here i in
            let e : from + suc x ≡ suc (from + x) = omega arith in
            let r = ordered.groups i (from + x) (omega (arith, intervals_many w d h)) (omega arith) (omega (arith, m, group_many w d h i k)) in
            omega (arith, r, group_key w d h i k x (omega arith), group_key w d h i k (suc x) m ∙ ap (λ (n : ℕ). get_or here.keys n 0) e)

    group_here : GroupHolds here rows d i (get_or (prefixes d rows) i [])
    group_here =
        record {
          lies = lies_here;
          keys = group_under w d h i k;
          long = omega (arith, group_rises w d h i k, group_many w d h i k);
          child = child_here;
          owner = owner_here;
          rises = rises_here;
        }

-- ---- the same of a table in the pool

module _ {pool : List ℕ} {t : ColumnTrie} {rows : List Row} (H : Layered pool t rows) {d : ℕ} (h : d < t.arity) where
  -- a key for each beginning of one word more
  pub keys_held : length (layer_in pool t d).keys ≡ length (prefixes (suc d) rows)
  keys_held = ap (λ (l : Layer). length l.keys) (H.layers d h) ∙ keys_many H.width d h

  pub held_group : {i : ℕ} → i < length (prefixes d rows) → {p : Row} → get_or (prefixes d rows) i [] ≡ p → GroupHolds (layer_in pool t d) rows d i p
  held_group {i} k {p} e =
      subst (λ (l : Layer). GroupHolds l rows d i p) (sym (H.layers d h)) (subst (GroupHolds (layer_at d rows) rows d i) e (group_here H.width d h i k))

-- ---- layer 0: one group, that of the root

first_group : (rows : List Row) → (layer_at 0 rows).keys ≡ keys_under [] rows
unfolding layer_at groups_at joined
first_group [] = refl
first_group (r ∷ rows) =
    ⊎_elim (λ (e : prefixes 0 (r ∷ rows) ≡ []). absurd (omega (arith, ap length e, root_there {rows = r ∷ rows} {r = r} (hd refl))))
    (λ (e : prefixes 0 (r ∷ rows) ≡ ([] ∷ [])). ap (λ (ps : List Row). joined (map (λ (p : Row). keys_under p (r ∷ rows)) ps)) e ∙ append-nil (keys_under [] (r ∷ rows))) (roots (r ∷ rows))

pub no_firsts : length (keys_under [] []) ≡ 0
unfolding keys_under
no_firsts = refl

starts_none : (gs : List (List ℕ)) → get_or (starts 0 gs) 0 0 ≡ 0
unfolding starts
starts_none [] = refl
starts_none (g ∷ gs) = refl

first_start : (rows : List Row) → group_from (layer_at 0 rows) 0 ≡ 0
unfolding layer_at
first_start rows = starts_none (groups_at 0 rows)

module _ {pool : List ℕ} {t : ColumnTrie} {rows : List Row} (H : Layered pool t rows) (h : 0 < t.arity) where
  -- its keys are the first keys of the rows
  pub first_keys : (layer_in pool t 0).keys ≡ keys_under [] rows
  first_keys = ap (λ (l : Layer). l.keys) (H.layers 0 h) ∙ first_group rows

  pub first_from : group_from (layer_in pool t 0) 0 ≡ 0
  first_from = ap (λ (l : Layer). group_from l 0) (H.layers 0 h) ∙ first_start rows

  -- and the place of a first key is the interval of its children
  pub first_child : (o : ℕ) → o < length (keys_under [] rows) → (o < length (prefixes 1 rows)) × (get_or (prefixes 1 rows) o [] ≡ get_or (keys_under [] rows) o 0 ∷ [])
  first_child o k = there rows refl
    where
      there : (rs : List Row) → rows ≡ rs → (o < length (prefixes 1 rows)) × (get_or (prefixes 1 rows) o [] ≡ get_or (keys_under [] rows) o 0 ∷ [])
      there [] e = absurd (omega (arith, k, ap (λ (rs : List Row). length (keys_under [] rs)) e, no_firsts))
      there (r ∷ rs) e =
          let i : 0 < length (prefixes 0 rows) = root_there {rows = rows} {r = r} (subst (λ (xs : List Row). r ∈ xs) (sym e) (hd refl)) in
          let c = (held_group H h i (prefix_root rows)).child o k in
          let z : group_from (layer_in pool t 0) 0 + o ≡ o = omega (arith, first_from) in
          subst (λ (n : ℕ). (n < length (prefixes 1 rows)) × (get_or (prefixes 1 rows) n [] ≡ get_or (keys_under [] rows) o 0 ∷ [])) z c
