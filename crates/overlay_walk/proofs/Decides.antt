-- The computed test decides exactly the states: a pair passes it just where it stands at a state of the iterator over the rows that count.
use Prim.Native.Nat.{ℕ, ◌+◌, ◌≤◌, ◌<◌}
use mathlib.Core.Path.{◌≡◌, refl, sym, ap, ap₂, ◌∙◌, subst}
use mathlib.Core.Bool.{Bool, true, false, not, ◌&&◌, ◌||◌, false≢true}
use mathlib.Core.List.{List, [], ◌∷◌}
use native.Mathlib.Omega.{arith}
use native.Mathlib.Decide.{dec_lt}
use lib.Dec.{eqb}
use borrow.Author.Tests.{eqb-true, eq-eqb, leb-true}
use Rattle.relation.specs.Order.{Row}
use Rattle.relation.specs.Lists.{◌∈◌, Ascends, nonempty}
use Rattle.relation.specs.Runs.{from}
use Rattle.relation.specs.Layers.{keys_under}
use Rattle.relation.specs.Exactly.{Exactly}
use Rattle.relation.proofs.Runs.{head_least}
use Rattle.relation.proofs.Tests.{and_left, and_right, or_right}
use Rattle.column_trie.specs.Table.{rows_in}
use Rattle.column_trie.specs.declared.ColumnTrie.{ColumnTrie}
use Rattle.column_trie.proofs.Damage.{undamaged_told}
use Rattle.column_trie_place.specs.Checks.{refusal}
use Rattle.column_trie_place.specs.declared.ColumnTrieIter.{ColumnTrieIter}
use Rattle.column_trie_iter.specs.Cursor.{key_in, key_of}
use Rattle.column_trie_iter.specs.declared.KeyAnswer.{KeyAnswer}
use Rattle.laid_over.proofs.Shape.{shape_decides}
use Rattle.trie_iterator.specs.TrieIterator.{State, root, level, levels, left}
use Rattle.trie_iterator.specs.Cursor.{Layered, Stands}
use Rattle.trie_iterator.proofs.Held.{undamaged_layered}
use Rattle.trie_iterator.proofs.Standing.{key_is}
use Rattle.overlay.specs.Laid.{owns, laid}
use Rattle.overlay.specs.Merge.{merge}
use Rattle.overlay.proofs.Merge.{merge_left, merge_right, merge_ascends}
use Rattle.overlay_checks.specs.Tables.{tables_number}
use Rattle.overlay_checks.proofs.Tables.{number_clear}
use Rattle.laid_iter.specs.Cursors.{pair_at_root}
use Rattle.overlay_place.specs.Pairs.{climbed, started, passed_below, leads, least, abreast, owner_walks, firsts, below_root, pair_stands}
use Rattle.laid_iter.specs.declared.LaidIter.{LaidIter}
use Rattle.overlay_walk.specs.Pair.{pair, on, stands_at, Above, StandsFor, at_top, at_first, in_school, in_maker}
use Rattle.overlay_walk.specs.Walk.{LaidStands}
use Rattle.overlay_walk.proofs.Pair as pairs
use Rattle.overlay_walk.proofs.Leads.{Told, told}
use Rattle.overlay_walk.proofs.Plain.{base, depth_at, climb_stands}
use Rattle.overlay_walk.proofs.States.{positive, maker_width, a_state_passes}
use Rattle.overlay_walk.proofs.Reached.{every_cursor_that_passes_has_a_state}
use Rattle.overlay_walk.proofs.Cuts.{bound, from_above, regrown, regrown_above, base_shallow, base_key, base_ascends, base_is, base_cut}

-- ---- the test's parts

module _ (sp : List ℕ) (s : ColumnTrie) (mp : List ℕ) (m : ColumnTrie) (it : LaidIter) where
  abbrev A : KeyAnswer
  A = key_of sp s (climbed sp s it.school)

  abbrev B : KeyAnswer
  B = key_of mp m (climbed mp m it.maker)

  -- what a test that is passed tells below the root
  record Passed : Type 0 where
    school_begun : started s it.school ≡ true
    maker_begun : started m it.maker ≡ true
    walking : owner_walks it (leads A B) ≡ true
    beside : (not (least A B).found || abreast sp s mp m (firsts sp s mp m it) (least A B).key) ≡ true

  parts : pair_stands sp s mp m it ≡ true → (refusal sp s it.school ≡ 0) × (refusal mp m it.maker ≡ 0) × ((pair_at_root it || (started s it.school && (started m it.maker && below_root sp s mp m it))) ≡ true)
  unfolding pair_stands
  parts y =
      let a = eqb (refusal sp s it.school) 0 in
      let b = eqb (refusal mp m it.maker) 0 in
      let c = pair_at_root it || (started s it.school && (started m it.maker && below_root sp s mp m it)) in
      let r = and_right a (b && c) y in
      (eqb-true (refusal sp s it.school) 0 (and_left a (b && c) y), eqb-true (refusal mp m it.maker) 0 (and_left b c r), and_right b c r)

  below : (started s it.school && (started m it.maker && below_root sp s mp m it)) ≡ true → Passed
  unfolding below_root
  below y =
      let a = started s it.school in
      let b = started m it.maker in
      let c = owner_walks it (leads A B) in
      let d = not (least A B).found || abreast sp s mp m (firsts sp s mp m it) (least A B).key in
      let r = and_right a (b && (c && d)) y in
      let q = and_right b (c && d) r in
      record { school_begun = and_left a (b && (c && d)) y; maker_begun = and_left b (c && d) r; walking = and_left c d q; beside = and_right c d q }

  side : (k : ℕ) (zs : List ℕ) → Passed → least A B ≡ key_in (k ∷ zs) → (passed_below sp s (climbed sp s it.school) k ≡ true) × (passed_below mp m (climbed mp m it.maker) k ≡ true)
  unfolding abreast
  side k zs p e =
      let y = ap (λ (x : KeyAnswer). not x.found || abreast sp s mp m (firsts sp s mp m it) x.key) (sym e) ∙ p.beside in
      let a = passed_below sp s (climbed sp s it.school) k in
      let b = passed_below mp m (climbed mp m it.maker) k in
      (and_left a b y, and_right a b y)

base_root : (p : State) → base p ≡ root → levels p ≡ 0
base_root root e = refl
base_root (level ks above) e = absurd (one_level ks above (ap levels e))
  where
    one_level : (ks : List ℕ) (above : State) → levels (base (level ks above)) ≡ 0 → ⊥
    one_level ks root z = omega arith
    one_level ks (level js above) z = one_level js above z

root_only : (p : State) → levels p ≡ 0 → p ≡ root
root_only root e = refl
root_only (level ks above) e = absurd (omega arith)

module _ {sp : List ℕ} {s : ColumnTrie} {mp : List ℕ} {m : ColumnTrie} {school maker : List Row} (H : Layered sp s school) (G : Layered mp m maker) (same : s.arity ≡ m.arity) (it : LaidIter) where
  abbrev i : ColumnTrieIter
  i = it.school

  abbrev j : ColumnTrieIter
  j = it.maker

  abbrev K : List ℕ
  K = keys_under [] (laid school maker)

  abbrev Found : Type 0
  Found = (u : State) × LaidStands s m school maker u it

  module _ (p q : State) (w : Stands s.arity school p i) (v : Stands m.arity maker q j) where
    found : {u : State} → StandsFor s.arity school maker u (pair p q) → Found
    found {u} d = (u, record { states = pair p q; of_school = w; of_maker = v; together = d })

    -- ---- below the root: both cut at n

    module _ (t : Passed sp s mp m it) (n : ℕ) (x : base p ≡ stands_at school n) (y : base q ≡ stands_at maker n) where
      -- at depth 1
      shallow : i.depth ≤ 1 → j.depth ≤ 1 → nonempty (laid school maker) ≡ true → Found
      shallow h k e =
          let a = sym (base_shallow p (omega (arith, depth_at H w))) ∙ x in
          let b = sym (base_shallow q (omega (arith, depth_at G v))) ∙ y in
          found (subst (λ (z : State). StandsFor s.arity school maker (level (from n K) root) (pair z q)) (sym a) (subst (λ (z : State). StandsFor s.arity school maker (level (from n K) root) (pair (stands_at school n) z)) (sym b) (at_first n e)))

      module _ (k : ℕ) {ks : List ℕ} (e : from n K ≡ k ∷ ks) where
        -- the school's below
        in_the_school : 1 < i.depth → j.depth ≤ 1 → owns school k ≡ true → Found
        in_the_school h l o =
            let b = sym (base_shallow q (omega (arith, depth_at G v))) ∙ y in
            let r = subst (λ (z : State). Above (level (from n K) root) z (regrown (level (from n K) root) p) p) x (regrown_above (level (from n K) root) p (omega (arith, depth_at H w))) in
            found (subst (λ (z : State). StandsFor s.arity school maker (regrown (level (from n K) root) p) (pair p z)) (sym b) (in_school n k e o r))

        in_the_maker : i.depth ≤ 1 → 1 < j.depth → owns school k ≡ false → Found
        in_the_maker h l o =
            let a = sym (base_shallow p (omega (arith, depth_at H w))) ∙ x in
            let r = subst (λ (z : State). Above (level (from n K) root) z (regrown (level (from n K) root) q) q) y (regrown_above (level (from n K) root) q (omega (arith, depth_at G v))) in
            found (subst (λ (z : State). StandsFor s.arity school maker (regrown (level (from n K) root) q) (pair z q)) (sym a) (in_maker n k e o r))

      -- some table has rows, where not both stand at the root
      rows_there : pair_at_root it ≡ false → nonempty (laid school maker) ≡ true
      rows_there r = go school maker refl refl
        where
          go : (a b : List Row) → school ≡ a → maker ≡ b → nonempty (laid school maker) ≡ true
          go [] [] f g =
              let d = base_root p (x ∙ ap (λ (z : List Row). stands_at z n) f) in
              let c = base_root q (y ∙ ap (λ (z : List Row). stands_at z n) g) in
              absurd (false≢true (sym r ∙ ap₂ {C = Bool} (λ (a b : Bool). a && b) (eq-eqb i.depth 0 (depth_at H w ∙ d)) (eq-eqb j.depth 0 (depth_at G v ∙ c))))
          go [] (r ∷ b) f g = pairs.some_laid school maker ∙ or_right (nonempty school) (nonempty maker) (ap nonempty g)
          go (r ∷ a) b f g = pairs.some_laid school maker ∙ ap (λ (z : List Row). nonempty z || nonempty maker) f

    -- ---- the present key, or none

    module _ (t : Passed sp s mp m it) (r : pair_at_root it ≡ false) where
      abbrev xs : List ℕ
      xs = left (base p)

      abbrev ys : List ℕ
      ys = left (base q)

      cp : Stands s.arity school (base p) (climbed sp s i)
      cp = climb_stands H w

      cq : Stands m.arity maker (base q) (climbed mp m j)
      cq = climb_stands G v

      tells : Told xs ys (merge xs ys)
      tells = told xs ys (base_ascends H p cp) (base_ascends G q cq)

      present : least (A sp s mp m it) (B sp s mp m it) ≡ key_in (merge xs ys)
      present = ap₂ {C = KeyAnswer} least (key_is H cp) (key_is G cq) ∙ tells.least_is

      at_ends : merge xs ys ≡ [] → Found
      at_ends e =
          let z = tells.none e in
          let a = bound (keys_under [] school) in
          let b = bound (keys_under [] maker) in
          let n : ℕ = a.number + b.number in
          let x = base_is H p i w t.school_begun cp n (from_above n (keys_under [] school) (λ k l. omega (arith, a.above k l)) ∙ sym z.0) in
          let y = base_is G q j v t.maker_begun cq n (from_above n (keys_under [] maker) (λ k l. omega (arith, b.above k l)) ∙ sym z.1) in
          shallow t n x y (high (dec_lt 1 i.depth) (λ h. base_key H p w (omega (arith, depth_at H w)) z.0)) (high (dec_lt 1 j.depth) (λ h. base_key G q v (omega (arith, depth_at G v)) z.1)) (rows_there t n x y r)
        where
          high : {d : ℕ} → Dec (1 < d) → (1 < d → ⊥) → d ≤ 1
          high (yes h) f = absurd (f h)
          high (no h) f = omega arith

      on_key : (k : ℕ) (zs : List ℕ) → merge xs ys ≡ k ∷ zs → Found
      on_key k zs e =
          let up = subst (Ascends ◌<◌) e (merge_ascends xs (base_ascends G q cq)) in
          let d = side sp s mp m it k zs t (present ∙ ap key_in e) in
          let cs = base_cut H p i k w t.school_begun cp d.0 (λ x l. head_least up x (subst (λ (l : List ℕ). x ∈ l) e (merge_left ys l))) in
          let cm = base_cut G q j k v t.maker_begun cq d.1 (λ x l. head_least up x (subst (λ (l : List ℕ). x ∈ l) e (merge_right xs l))) in
          let x = base_is H p i w t.school_begun cp k cs in
          let y = base_is G q j v t.maker_begun cq k cm in
          let f : from k K ≡ k ∷ zs = sym (pairs.both_at H.width (maker_width H G same) (positive H G same) k) ∙ ap₂ {C = List ℕ} merge cs cm ∙ e in
          let l = ap₂ {C = Bool} leads (key_is H cp) (key_is G cq) ∙ (tells.first k zs e).0 ∙ ap (λ (z : State). on k (left z)) x ∙ pairs.on_owns H.width (maker_width H G same) (positive H G same) k k f in
          by x y f (owns school k) refl (ap (owner_walks it) (sym l) ∙ t.walking)
        where
          by : base p ≡ stands_at school k → base q ≡ stands_at maker k → from k K ≡ k ∷ zs → (b : Bool) → owns school k ≡ b → owner_walks it (owns school k) ≡ true → Found
          by x y f true o g = go (dec_lt 1 i.depth) (leb-true j.depth 1 (ap (owner_walks it) (sym o) ∙ g))
            where
              go : Dec (1 < i.depth) → j.depth ≤ 1 → Found
              go (yes h) c = in_the_school t k x y k f h c o
              go (no h) c = shallow t k x y (omega arith) c (rows_there t k x y r)
          by x y f false o g = go (dec_lt 1 j.depth) (leb-true i.depth 1 (ap (owner_walks it) (sym o) ∙ g))
            where
              go : Dec (1 < j.depth) → i.depth ≤ 1 → Found
              go (yes h) c = in_the_maker t k x y k f c h o
              go (no h) c = shallow t k x y c (omega arith) (rows_there t k x y r)

      stands_below_lem : Found
      stands_below_lem = go (merge xs ys) refl
        where
          go : (zs : List ℕ) → merge xs ys ≡ zs → Found
          go [] e = at_ends e
          go (k ∷ zs) e = on_key k zs e

  pub what_passes_is_a_state : pair_stands sp s mp m it ≡ true → (u : State) × LaidStands s m school maker u it
  what_passes_is_a_state y =
      let c = parts sp s mp m it y in
      let w = every_cursor_that_passes_has_a_state H i c.0 in
      let v = every_cursor_that_passes_has_a_state G j c.1 in
      go (pair_at_root it) refl w.0 v.0 w.1 v.1 c.2
    where
      go : (b : Bool) → pair_at_root it ≡ b → (p q : State) → Stands s.arity school p i → Stands m.arity maker q j → (pair_at_root it || (started s i && (started m j && below_root sp s mp m it))) ≡ true → Found
      go true e p q w v r =
          let a = root_only p (sym (depth_at H w) ∙ eqb-true i.depth 0 (and_left (eqb i.depth 0) (eqb j.depth 0) e)) in
          let b = root_only q (sym (depth_at G v) ∙ eqb-true j.depth 0 (and_right (eqb i.depth 0) (eqb j.depth 0) e)) in
          found root root (subst (λ (z : State). Stands s.arity school z i) a w) (subst (λ (z : State). Stands m.arity maker z j) b v) at_top
      go false e p q w v r = stands_below_lem p q w v (below sp s mp m it (ap (λ (b : Bool). b || (started s i && (started m j && below_root sp s mp m it))) (sym e) ∙ r)) e

-- where the two tables are not refused
pub the_test_decides_exactly_the_states :
    (sp : List ℕ) (s : ColumnTrie) (mp : List ℕ) (m : ColumnTrie) → tables_number sp s mp m ≡ 0 → (it : LaidIter) → Exactly (pair_stands sp s mp m it ≡ true) ((u : State) × LaidStands s m (rows_in sp s) (rows_in mp m) u it)
the_test_decides_exactly_the_states sp s mp m clear it =
    let c = number_clear sp s mp m clear in
    let H = undamaged_layered (undamaged_told sp s c.school) in
    let G = undamaged_layered (undamaged_told mp m c.maker) in
    let e = ((shape_decides s m).0 c.shape).arity in
    (what_passes_is_a_state H G e it, λ f. a_state_passes H G e f.1)
