-- A pair of cursors that stands at a state of the iterator over the rows that count passes the test, so no call refuses it.
use Prim.Native.Nat.{ℕ, ◌≤◌, ◌<◌}
use mathlib.Core.Path.{◌≡◌, refl, sym, ap, ap₂, ◌∙◌, subst}
use mathlib.Core.Bool.{Bool, true, false, ◌&&◌}
use mathlib.Core.List.{List, [], ◌∷◌}
use native.Mathlib.Omega.{arith}
use lib.ListN.{length}
use lib.Dec.{eqb, ltb}
use borrow.Author.Tests.{eq-eqb, lt-ltb, le-leb}
use Rattle.relation.specs.Order.{Row}
use Rattle.relation.specs.Rows.{Width}
use Rattle.relation.specs.Runs.{from}
use Rattle.relation.specs.Layers.{keys_under}
use Rattle.relation.proofs.Runs.{from_ascends}
use Rattle.relation.proofs.Tests.{or_right}
use Rattle.column_trie.specs.Table.{data_len_at}
use Rattle.column_trie.specs.declared.ColumnTrie.{ColumnTrie}
use Rattle.column_trie.proofs.Header.{header_told, layer_fits}
use Rattle.column_trie.proofs.Groups.{keys_long}
use Rattle.column_trie_place.specs.Checks.{refusal}
use Rattle.column_trie_place.specs.declared.ColumnTrieIter.{ColumnTrieIter}
use Rattle.column_trie_iter.specs.Cursor.{key_in, key_of}
use Rattle.column_trie_iter.specs.declared.KeyAnswer.{KeyAnswer}
use Rattle.trie_iterator.specs.TrieIterator.{State, root, level, levels}
use Rattle.trie_iterator.specs.Cursor.{Layered, Stands, at_the_root}
use Rattle.trie_iterator.proofs.Held.{first_keys}
use Rattle.trie_iterator.proofs.Standing.{clear, key_is}
use Rattle.overlay.specs.Laid.{owns, laid}
use Rattle.laid_iter.specs.Cursors.{pair_at_root}
use Rattle.overlay_place.specs.Pairs.{climbed, started, passed_below, leads, least, abreast, owner_walks, firsts, below_root, pair_stands}
use Rattle.laid_iter.specs.declared.LaidIter.{LaidIter}
use Rattle.overlay_place.proofs.Tests.{passed_none, abreast_by, below_ends, below_keys, stands_at_root, stands_below_lem, or_here}
use Rattle.overlay_walk.specs.Pair.{stands_at, Above, one, more, StandsFor, at_top, at_first, in_school, in_maker, on}
use Rattle.overlay_walk.specs.Walk.{LaidStands}
use Rattle.overlay_walk.proofs.Pair as pairs
use Rattle.overlay_walk.proofs.Leads.{Told, told}
use Rattle.overlay_walk.proofs.Plain.{base, depth_at, climb_stands, passed_at}

-- ---- one of the two

above_base : {b : State} {js : List ℕ} {u p : State} → Above b (level js root) u p → base p ≡ level js root
above_base one = refl
above_base (more one) = refl
above_base (more (more r)) = above_base (more r)

above_long : {b : State} {js : List ℕ} {u p : State} → Above b (level js root) u p → 1 < levels p
above_long one = omega arith
above_long (more r) = omega (arith, above_long r)

module _ {pool : List ℕ} {t : ColumnTrie} {rows : List Row} (H : Layered pool t rows) where
  some : 0 < t.arity
  some = (header_told (length pool) t H.sound).positive

  -- a cursor whose first keys are cut at n: not refused, below the root where there are rows, and opened from a cursor that has these keys left
  pub record Near (n : ℕ) (it : ColumnTrieIter) : Type 0 where
    pub unrefused : refusal pool t it ≡ 0
    pub begun : started t it ≡ true
    pub first : Stands t.arity rows (stands_at rows n) (climbed pool t it)

  base_at : (rs : List Row) (n : ℕ) → base (stands_at rs n) ≡ stands_at rs n
  base_at [] n = refl
  base_at (q ∷ qs) n = refl

  empty_started : rows ≡ [] → (it : ColumnTrieIter) → started t it ≡ true
  empty_started e it =
      let z : data_len_at t 0 ≡ 0 = omega (arith, keys_long pool (layer_fits (header_told (length pool) t H.sound) some), ap length (first_keys H some ∙ ap (keys_under []) e ∙ pairs.keys_nil)) in
      or_right (ltb 0 it.depth) (eqb (data_len_at t 0) 0) (eq-eqb (data_len_at t 0) 0 z)

  deep_started : (it : ColumnTrieIter) → 0 < it.depth → started t it ≡ true
  deep_started it h = sym (or_here (ltb 0 it.depth) (eqb (data_len_at t 0) 0) (lt-ltb 0 it.depth h))

  pub near_first : {n : ℕ} (it : ColumnTrieIter) → Stands t.arity rows (stands_at rows n) it → Near n it
  near_first {n} it w = record { unrefused = clear H w; begun = go rows refl w; first = subst (λ (p : State). Stands t.arity rows p (climbed pool t it)) (base_at rows n) (climb_stands H w) }
    where
      go : (rs : List Row) → rows ≡ rs → Stands t.arity rows (stands_at rs n) it → started t it ≡ true
      go [] e w = empty_started e it
      go (q ∷ qs) e w = deep_started it (omega (arith, depth_at H w))

  pub near_deep : {n : ℕ} {b u p : State} {zs : List ℕ} (it : ColumnTrieIter) → stands_at rows n ≡ level zs root → Above b (stands_at rows n) u p → Stands t.arity rows p it → Near n it
  near_deep {n} {b} {u} {p} {zs} it e r w =
      let r' = subst (λ (c : State). Above b c u p) e r in
      record {
        unrefused = clear H w;
        begun = deep_started it (omega (arith, depth_at H w, above_long r'));
        first = subst (λ (x : State). Stands t.arity rows x (climbed pool t it)) (above_base r' ∙ sym e) (climb_stands H w);
      }

  pub deep_depth : (n : ℕ) {b u p : State} {zs : List ℕ} (it : ColumnTrieIter) → stands_at rows n ≡ level zs root → Above b (stands_at rows n) u p → Stands t.arity rows p it → 1 < it.depth
  deep_depth n {b} {u} {p} it e r w = omega (arith, depth_at H w, above_long (subst (λ (c : State). Above b c u p) e r))

  -- at depth 1 or at the root
  pub first_depth : (n : ℕ) (it : ColumnTrieIter) → Stands t.arity rows (stands_at rows n) it → it.depth ≤ 1
  first_depth n it w = go rows w
    where
      go : (rs : List Row) → Stands t.arity rows (stands_at rs n) it → it.depth ≤ 1
      go [] w = omega (arith, depth_at H w)
      go (q ∷ qs) w = omega (arith, depth_at H w)

  pub first_key : (n : ℕ) (it : ColumnTrieIter) → Stands t.arity rows (stands_at rows n) it → key_of pool t it ≡ key_in (from n (keys_under [] rows))
  first_key n it w = key_is H w ∙ ap key_in (pairs.left_at rows n)

  first_passed : {n k : ℕ} (it : ColumnTrieIter) → Stands t.arity rows (stands_at rows n) it → n ≤ k → passed_below pool t it k ≡ true
  first_passed {n} {k} it w l = go rows refl w
    where
      go : (rs : List Row) → rows ≡ rs → Stands t.arity rows (stands_at rs n) it → passed_below pool t it k ≡ true
      go [] e (at_the_root z) = sym (passed_none pool t it k (ap (λ (x : ColumnTrieIter). x.slice_offset) z))
      go (q ∷ qs) e w = passed_at H (subst (λ (rs : List Row). Stands t.arity rows (level (from n (keys_under [] rs)) root) it) (sym e) w) l

-- ---- both

module _ {sp : List ℕ} {s : ColumnTrie} {mp : List ℕ} {m : ColumnTrie} {school maker : List Row} (H : Layered sp s school) (G : Layered mp m maker) (same : s.arity ≡ m.arity) where
  pub positive : 0 < s.arity
  positive = (header_told (length sp) s H.sound).positive

  pub maker_width : Width s.arity maker
  maker_width = subst (λ (a : ℕ). Width a maker) (sym same) G.width

  -- the first keys that both have left, cut at n, as one run
  pub firsts_told : (n : ℕ) → Told (from n (keys_under [] school)) (from n (keys_under [] maker)) (from n (keys_under [] (laid school maker)))
  firsts_told n =
      subst (Told (from n (keys_under [] school)) (from n (keys_under [] maker))) (pairs.both_at H.width maker_width positive n)
      (told (from n (keys_under [] school)) (from n (keys_under [] maker)) (from_ascends n (pairs.up_s H.width maker_width positive)) (from_ascends n (pairs.up_m H.width maker_width positive)))

  module _ (n : ℕ) (it : LaidIter) (x : Near H n it.school) (y : Near G n it.maker) where
    abbrev A : KeyAnswer
    A = key_of sp s (climbed sp s it.school)

    abbrev B : KeyAnswer
    B = key_of mp m (climbed mp m it.maker)

    school_key : A ≡ key_in (from n (keys_under [] school))
    school_key = first_key H n (climbed sp s it.school) x.first

    maker_key : B ≡ key_in (from n (keys_under [] maker))
    maker_key = first_key G n (climbed mp m it.maker) y.first

    present_key : least A B ≡ key_in (from n (keys_under [] (laid school maker)))
    present_key = ap₂ {C = KeyAnswer} least school_key maker_key ∙ (firsts_told n).least_is

    -- on the key k, which leads
    pub near_leads : {k : ℕ} {ks : List ℕ} → from n (keys_under [] (laid school maker)) ≡ k ∷ ks → leads A B ≡ owns school k
    near_leads {k} {ks} e =
        ap₂ {C = Bool} leads school_key maker_key ∙ ((firsts_told n).first k ks e).0 ∙ ap (on k) (sym (pairs.left_at school n)) ∙ pairs.on_owns H.width maker_width positive n k e

    pub near_below : owner_walks it (leads A B) ≡ true → below_root sp s mp m it ≡ true
    near_below o = go (from n (keys_under [] (laid school maker))) refl
      where
        go : (zs : List ℕ) → from n (keys_under [] (laid school maker)) ≡ zs → below_root sp s mp m it ≡ true
        go [] e = sym (below_ends sp s mp m it o (ap (λ (z : KeyAnswer). z.found) (present_key ∙ ap key_in e)))
        go (k ∷ ks) e =
            let c = present_key ∙ ap key_in e in
            let l = pairs.present H.width maker_width positive n k e in
            let ab : abreast sp s mp m (firsts sp s mp m it) k ≡ true =
            sym (abreast_by sp s mp m (firsts sp s mp m it) k (first_passed H (climbed sp s it.school) x.first l) (sym (first_passed G (climbed mp m it.maker) y.first l))) in
            sym (below_keys sp s mp m it o (ap (λ (z : KeyAnswer). z.found) c) (sym ab ∙ ap (λ (z : KeyAnswer). abreast sp s mp m (firsts sp s mp m it) z.key) (sym c)))

    pub near_stands : owner_walks it (leads A B) ≡ true → pair_stands sp s mp m it ≡ true
    near_stands o = go (pair_at_root it) refl
      where
        go : (b : Bool) → pair_at_root it ≡ b → pair_stands sp s mp m it ≡ true
        go true e = sym (stands_at_root sp s mp m it x.unrefused y.unrefused e)
        go false e = sym (stands_below_lem sp s mp m it x.unrefused y.unrefused e x.begun y.begun (sym (near_below o)))

  -- ---- a state passes

  walks_either : (it : LaidIter) (b : Bool) → it.school.depth ≤ 1 → it.maker.depth ≤ 1 → owner_walks it b ≡ true
  walks_either it true h k = le-leb it.maker.depth 1 k
  walks_either it false h k = le-leb it.school.depth 1 h

  pub a_state_passes : {u : State} {it : LaidIter} → LaidStands s m school maker u it → pair_stands sp s mp m it ≡ true
  a_state_passes {u} {it} l = go l.together l.of_school l.of_maker
    where
      go : {u : State} {p q : State} → StandsFor s.arity school maker u (record { school = p; maker = q }) → Stands s.arity school p it.school → Stands m.arity maker q it.maker → pair_stands sp s mp m it ≡ true
      go at_top w v =
          sym (stands_at_root sp s mp m it (clear H w) (clear G v) (root_is (depth_at H w) (depth_at G v)))
        where
          root_is : it.school.depth ≡ 0 → it.maker.depth ≡ 0 → pair_at_root it ≡ true
          root_is d e = ap₂ {C = Bool} (λ (b c : Bool). b && c) (eq-eqb it.school.depth 0 d) (eq-eqb it.maker.depth 0 e)
      go (at_first n e) w v =
          let x = near_first H it.school w in
          let y = near_first G it.maker v in
          near_stands n it x y (walks_either it (leads (A n it x y) (B n it x y)) (first_depth H n it.school w) (first_depth G n it.maker v))
      go (in_school n k e o r) w v =
          let c = pairs.c_school H.width maker_width positive n k e o r in
          let x = near_deep H it.school c r w in
          let y = near_first G it.maker v in
          near_stands n it x y (ap (owner_walks it) (near_leads n it x y e ∙ o) ∙ le-leb it.maker.depth 1 (first_depth G n it.maker v))
      go (in_maker n k e o r) w v =
          let c = pairs.c_maker H.width maker_width positive n k e o r in
          let x = near_first H it.school w in
          let y = near_deep G it.maker c r v in
          near_stands n it x y (ap (owner_walks it) (near_leads n it x y e ∙ o) ∙ le-leb it.school.depth 1 (first_depth H n it.school w))
