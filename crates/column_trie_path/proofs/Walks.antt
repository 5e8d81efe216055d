-- Down the layers of a table that holds a relation, while a tuple's keys are stored: the place found in a group is the number of the tuple's prefix
-- among the stored ones, and where none is found, the number that it would have.
use Prim.Native.Nat.{ℕ, zero, suc, ◌+◌, ◌-◌, ◌≤◌, ◌<◌}
use mathlib.Core.Path.{◌≡◌, refl, sym, ap, subst, ◌∙◌}
use mathlib.Core.Bool.{true, false}
use mathlib.Core.Logic.{◌⊎◌, inl, inr}
use mathlib.Core.List.{List, [], ◌∷◌}
use native.Mathlib.Omega.{arith}
use native.Mathlib.Decide.{dec_lt}
use native.Mathlib.Numerals.{add-one}
use lib.ListN.{length, take, get_or, get_or-eq_default}
use lib.Seq.{take-take}
use borrow.Author.Tests.{ltb-true, ltb-false}
use Rattle.relation.proofs.Lists.{get_or_any, get_or_in}
use Rattle.relation.specs.Order.{Row}
use Rattle.relation.specs.Lists.{◌∈◌, hd}
use Rattle.relation.specs.Rows.{Width}
use Rattle.relation.specs.Layers.{prefixes}
use Rattle.relation.specs.Undamaged.{Ordered}
use Rattle.relation.proofs.Rank.{rank, rank_at}
use Rattle.relation.proofs.Layers.{keys_at, intervals_at, ranked_at, length_keys, length_intervals, prefixes_asc, prefixes_width, prefix_of, prefix_in, parent_in}
use Rattle.relation.proofs.Walks.{sound_ordered}
use Rattle.relation.proofs.Relations.{between_prefixes}
use Rattle.relation.proofs.Children.{rank_of_lem, group_in, group_of, begin_is, end_is, end_le}
use Rattle.relation.proofs.Insert.{PrefixStored, rank_of, descend, branch, root}
use Rattle.column_trie.specs.Groups.{group_from, group_to}
use Rattle.column_trie_path.specs.declared.Fork.{Fork}
use Rattle.column_trie_path.specs.declared.KeyPlace.{KeyPlace}
use Rattle.column_trie_path.specs.Place.{Grouped, KeyPlaceOf, either, PathOf, Another, ForkOf, LastFork}
use Rattle.std.specs.Prelude.{Option, Some, None, Ok, Err}

-- the groups of a relation's layer
grouped : (a : ℕ) (rows : List Row) (d i : ℕ) → Width a rows → d < a → i < length (prefixes d rows) → Grouped (ranked_at d rows) i
grouped a rows d i w h k =
    record {
      there = there;
      from = go (dec_lt (suc i) (length (intervals_at d rows)));
      to = end_le a d rows w h i k;
      rises = λ j m p q r. climbs (m - j) j m p (omega arith) r;
    }
  where
    o : Ordered (intervals_at d rows) (keys_at d rows)
    o = sound_ordered (between_prefixes d w h).0

    there : i < length (intervals_at d rows)
    there = omega (arith, length_intervals d rows)

    go : Dec (suc i < length (intervals_at d rows)) → get_or (intervals_at d rows) i 0 ≤ get_or (intervals_at d rows) (suc i) (length (keys_at d rows))
    go (yes l) = omega (arith, o.ascend i l, get_or_any (intervals_at d rows) (suc i) (length (keys_at d rows)) 0 l)
    go (no l) = omega (arith, o.inside i (omega (arith, there)), get_or-eq_default (intervals_at d rows) (length (keys_at d rows)) {n = suc i} (omega arith))

    climbs : (n j m : ℕ) → get_or (intervals_at d rows) i 0 ≤ j → m ≡ j + n → m < get_or (intervals_at d rows) (suc i) (length (keys_at d rows)) → get_or (keys_at d rows) j 0 ≤ get_or (keys_at d rows) m 0
    climbs zero j m p e r = let q : j ≡ m = omega arith in omega (arith, ap (λ (z : ℕ). get_or (keys_at d rows) z 0) q)
    climbs (suc n) j m p e r =
        omega (arith, o.groups i j there p (omega arith), climbs n (suc j) m (omega arith) (omega arith) r)

-- d keys are stored, the last at place i
pub record Walking (a : ℕ) (rows : List Row) (r : Row) (d i : ℕ) : Type 0 where
  pub inside : d ≤ a
  pub stored : PrefixStored rows r d
  pub place : i ≡ rank_of rows r d

walking_start : (a : ℕ) (rows : List Row) (r : Row) → 0 < length rows → Walking a rows r 0 0
walking_start a [] r h = absurd (omega arith)
walking_start a (q ∷ qs) r h = let z = root {rows = q ∷ qs} r (hd refl) in record { inside = omega arith; stored = z.0; place = sym z.1 }

-- and the last fork on the way is known
pub record Descending (a : ℕ) (rows : List Row) (r : Row) (d i : ℕ) (f : Option Fork) : Type 0 where
  pub walk : Walking a rows r d i
  pub fork : LastFork rows r d f

pub descending_start : (a : ℕ) (rows : List Row) (r : Row) → 0 < length rows → Descending a rows r 0 0 None
descending_start a rows r h = record { walk = walking_start a rows r h; fork = λ q m e. e }

module _ {a : ℕ} {rows : List Row} {r : Row} {d i : ℕ} (w : Width a rows) (lr : length r ≡ a) (v : Walking a rows r d i) (h : d < a) where
  index_inside : i < length (prefixes d rows)
  index_inside = omega (arith, v.place, (rank_at (prefixes_asc d rows) v.stored).0)

  pub walking_grouped : Grouped (ranked_at d rows) i
  walking_grouped = grouped a rows d i w h index_inside

  module _ {p : KeyPlace} {key : ℕ} (e : key ≡ get_or r d 0) (q : KeyPlaceOf (ranked_at d rows) i key p) where
    from : {at : ℕ} → either p.place ≡ at → get_or (intervals_at d rows) (rank_of rows r d) 0 ≤ at
    from {at} s = subst (λ (n : ℕ). get_or (intervals_at d rows) n 0 ≤ at) v.place (subst (λ (n : ℕ). group_from (ranked_at d rows) i ≤ n) s q.from)

    -- the place found is that of r's beginning of d + 1 words
    module _ {at : ℕ} (f : p.place ≡ Ok at) where
      first : group_from (ranked_at d rows) i ≤ at
      first = subst (λ (n : ℕ). group_from (ranked_at d rows) i ≤ n) (ap either f) q.from

      found : PrefixStored rows r (suc d) × (rank_of rows r (suc d) ≡ at)
      found =
          descend a rows r w lr d at h v.stored (from (ap either f))
          (subst (λ (n : ℕ). at < get_or (intervals_at d rows) (suc n) (length (keys_at d rows))) v.place (q.found at f).0) ((q.found at f).1 ∙ e)

      -- a stored beginning of d + 1 words whose first d are r's stands in the group, and what stands there is one
      parent : get_or (prefixes d rows) i [] ≡ take d r
      parent = ap (λ (n : ℕ). get_or (prefixes d rows) n []) v.place ∙ (rank_at (prefixes_asc d rows) v.stored).1

      in_group : {u : Row} → u ∈ prefixes (suc d) rows → take d u ≡ take d r → (group_from (ranked_at d rows) i ≤ rank u (prefixes (suc d) rows)) × (rank u (prefixes (suc d) rows) < group_to (ranked_at d rows) i)
      in_group {u} m s =
          let k = rank_at (prefixes_asc (suc d) rows) m in
          let z =
          group_of d (prefixes d rows) (prefixes (suc d) rows) (prefixes_asc d rows) (prefixes_width d w (omega arith)) (prefixes_asc (suc d) rows) (prefixes_width (suc d) w h) (λ q m. parent_in d rows m)
          i (rank u (prefixes (suc d) rows)) index_inside k.0 (ap (take d) k.1 ∙ s ∙ sym parent) in
          (omega (arith, z.0, begin_is a d rows w h i index_inside), omega (arith, z.1, end_is a d rows w h i))

      -- the group has one key: who shares r's first d words shares one more
      alone_deeper : p.several ≡ false → (x : Row) → x ∈ rows → take d x ≡ take d r → take (suc d) x ≡ take (suc d) r
      alone_deeper o x m s =
          let n = ltb-false (suc (group_from (ranked_at d rows) i)) (group_to (ranked_at d rows) i) (sym q.several ∙ o) in
          let u = in_group (prefix_in (suc d) m) (take-take d (suc d) x (omega arith) ∙ s) in
          let same : rank (take (suc d) x) (prefixes (suc d) rows) ≡ rank (take (suc d) r) (prefixes (suc d) rows) = omega (arith, u.0, u.1, first, (q.found at f).0, found.1) in
          sym (rank_at (prefixes_asc (suc d) rows) (prefix_in (suc d) m)).1 ∙ ap (λ (j : ℕ). get_or (prefixes (suc d) rows) j []) same ∙ (rank_at (prefixes_asc (suc d) rows) found.0).1

      -- it has more: another row shares them, and no more
      other : (j : ℕ) → group_from (ranked_at d rows) i ≤ j → j < group_to (ranked_at d rows) i → (j ≡ at → ⊥) → Another rows r d
      other j lo hi n =
          let k : j < length (prefixes (suc d) rows) = omega (arith, hi, end_le a d rows w h i index_inside, length_keys d rows) in
          let x = prefix_of (suc d) rows (get_or_in (prefixes (suc d) rows) j [] k) in
          let s =
          group_in d (prefixes d rows) (prefixes (suc d) rows) (prefixes_asc d rows) (prefixes_width d w (omega arith)) (prefixes_asc (suc d) rows) (prefixes_width (suc d) w h) (λ q m. parent_in d rows m)
          i j index_inside k (omega (arith, lo, begin_is a d rows w h i index_inside)) (omega (arith, hi, end_is a d rows w h i)) in
          record {
            row = x.0;
            there = x.1;
            shares = sym (ap (take d) x.2 ∙ take-take d (suc d) x.0 (omega arith)) ∙ s ∙ parent;
            parts = λ z. n (sym (rank_of_lem (prefixes_asc (suc d) rows) j k) ∙ ap (λ (u : Row). rank u (prefixes (suc d) rows)) (x.2 ∙ z) ∙ found.1);
          }

      another_here : p.several ≡ true → Another rows r d
      another_here o = go (dec_lt (group_from (ranked_at d rows) i) at)
        where
          n : suc (group_from (ranked_at d rows) i) < group_to (ranked_at d rows) i
          n = ltb-true (suc (group_from (ranked_at d rows) i)) (group_to (ranked_at d rows) i) (sym q.several ∙ o)

          go : Dec (group_from (ranked_at d rows) i < at) → Another rows r d
          go (yes l) = other (group_from (ranked_at d rows) i) (omega arith) (omega (arith, n)) (λ z. omega arith)
          go (no l) = other (suc (group_from (ranked_at d rows) i)) (omega arith) n (λ z. omega (arith, first))

      -- so the last fork is this group, or that from above
      fork_here : p.several ≡ true → ForkOf rows r (d + 1) (record { depth = d; interval = i; at = at })
      fork_here o = record { above = omega arith; interval = v.place; place = sym found.1; another = another_here o; alone = λ x m s. subst (λ (n : ℕ). take n x ≡ take n r) (sym (add-one d)) s }

      fork_above : p.several ≡ false → (k : Option Fork) → LastFork rows r d k → LastFork rows r (d + 1) k
      fork_above o None y = λ x m s. deeper x m (y x m s)
        where
          deeper : (x : Row) → x ∈ rows → take d x ≡ take d r → take (d + 1) x ≡ take (d + 1) r
          deeper x m s = subst (λ (n : ℕ). take n x ≡ take n r) (sym (add-one d)) (alone_deeper o x m s)
      fork_above o (Some f) y = record { above = omega (arith, y.above); interval = y.interval; place = y.place; another = y.another; alone = λ x m s. subst (λ (n : ℕ). take n x ≡ take n r) (sym (add-one d)) (alone_deeper o x m (y.alone x m s)) }

    walking_found : {at : ℕ} → p.place ≡ Ok at → Walking a rows r (d + 1) at
    walking_found {at} f =
        let s = found f in
        let z : suc d ≡ d + 1 = omega arith in
        record {
          inside = omega arith;
          stored = subst (PrefixStored rows r) z s.0;
          place = sym s.1 ∙ ap (rank_of rows r) z;
        }

    -- one layer further, the fork kept or replaced
    pub descending_next : {at : ℕ} → p.place ≡ Ok at → {k k' : Option Fork} → LastFork rows r d k → ((p.several ≡ true) × (k' ≡ Some (record { depth = d; interval = i; at = at }))) ⊎ ((p.several ≡ false) × (k' ≡ k)) → Descending a rows r (d + 1) at k'
    descending_next f y (inl z) = record { walk = walking_found f; fork = subst (LastFork rows r (d + 1)) (sym z.1) (fork_here f z.0) }
    descending_next f {k} y (inr z) = record { walk = walking_found f; fork = subst (LastFork rows r (d + 1)) (sym z.1) (fork_above f z.0 k y) }

    pub walking_left : {at : ℕ} → p.place ≡ Err at → {k : Option Fork} → LastFork rows r d k → PathOf a rows r (record { depth = d; interval = i; at = at; fork = k })
    walking_left {at} f z =
        let s = branch a rows r w lr d at h v.stored (from (ap either f))
        (subst (λ (n : ℕ). at ≤ get_or (intervals_at d rows) (suc n) (length (keys_at d rows))) v.place (subst (λ (n : ℕ). n ≤ group_to (ranked_at d rows) i) (ap either f) q.to))
        (λ j x y. subst (λ (z : ℕ). get_or (keys_at d rows) j 0 < z) e (q.below j (subst (λ (n : ℕ). get_or (intervals_at d rows) n 0 ≤ j) (sym v.place) x) (subst (λ (n : ℕ). j < n) (sym (ap either f)) y)))
        (λ x. subst (λ (z : ℕ). z < get_or (keys_at d rows) at 0) e (q.absent at f (subst (λ (n : ℕ). at < get_or (intervals_at d rows) (suc n) (length (keys_at d rows))) (sym v.place) x))) in
        record { depth = omega arith; stored = v.stored; interval = v.place; leaves = λ k. s.0; place = λ k. sym s.1; fork = z }

pub walking_end : {a : ℕ} {rows : List Row} {r : Row} {d i : ℕ} {k : Option Fork} → Walking a rows r d i → LastFork rows r d k → a ≤ d → PathOf a rows r (record { depth = a; interval = i; at = i; fork = k })
walking_end {a} {rows} {r} {d} {k = k} v z h =
    let e : d ≡ a = omega (arith, v.inside) in
    record {
      depth = omega arith;
      stored = subst (PrefixStored rows r) e v.stored;
      interval = v.place ∙ ap (rank_of rows r) e;
      leaves = λ l. absurd (omega arith);
      place = λ l. absurd (omega arith);
      fork = subst (λ (n : ℕ). LastFork rows r n k) e z;
    }
