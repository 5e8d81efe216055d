-- Each call takes a cursor that stands at a state to one that stands where the call takes the state, with the state's answer.
use Prim.Native.Nat.{ℕ, suc, ◌+◌, ◌-◌, ◌≤◌, ◌<◌}
use mathlib.Core.Path.{◌≡◌, refl, sym, ap, ap₂, ◌∙◌, subst}
use mathlib.Core.Bool.{Bool, true, false, not, ◌&&◌}
use mathlib.Core.Logic.{◌⊎◌, inl, inr}
use mathlib.Core.List.{List, [], ◌∷◌, ◌++◌}
use native.Mathlib.Omega.{arith}
use lib.ListN.{length, get_or, drop, length-drop}
use lib.Seq.{drop-drop, drop-cons}
use lib.Dec.{ltb}
use borrow.Author.Tests.{ltb-true, lt-ltb, le-ltb, ne_eqb}
use Rattle.relation.specs.Order.{Row, pick}
use Rattle.relation.specs.Layers.{prefixes, keys_under}
use Rattle.relation.specs.Lists.{◌∈◌, hd, nonempty}
use Rattle.relation.proofs.Tests.{and_left, and_right, not_both}
use Rattle.relation.proofs.Rank.{rank, rank_at}
use Rattle.relation.proofs.Children.{rank_of_lem}
use Rattle.relation.proofs.Layers.{prefixes_asc, prefixes_width, prefix_in}
use Rattle.relation.proofs.Relations.{length_prefixes, roots}
use Rattle.column_trie.specs.Groups.{group_from, group_to, lies}
use Rattle.column_trie.specs.Table.{layer_in}
use Rattle.column_trie.proofs.Header.{header_told}
use Rattle.column_trie.specs.declared.ColumnTrie.{ColumnTrie}
use Rattle.column_trie_place.specs.Checks.{past}
use Rattle.column_trie_place.specs.Checks as checks
use Rattle.column_trie_iter.specs.Cursor as cursor
use Rattle.column_trie_place.specs.declared.ColumnTrieIter.{ColumnTrieIter}
use Rattle.column_trie_place.proofs.Rests.{answers}
use Rattle.column_trie_iter.proofs.Rises.{rises_in_lem, up_top, up_root, up_below}
use Rattle.relation.specs.Runs.{from}
use Rattle.relation.proofs.Runs.{from_drop}
use Rattle.seek.specs.Seek.{seek_of}
use Rattle.seek.specs.Offset.{NonFalling, Leading}
use Rattle.seek.specs.declared.SeekStrategy.{SeekStrategy}
use Rattle.seek.proofs.Laws.{leading}
use Rattle.trie_iterator.specs.TrieIterator.{State, root, level, levels, left, path, go_next, go_seek, go_down, go_up, opens, rises, shown, says}
use Rattle.trie_iterator.specs.Cursor.{Layered, Below, Stands, at_the_root, at_level, of_key, of_next, of_seek, of_end, of_open, of_up}
use Rattle.trie_iterator.proofs.Held.{held_group, keys_held}
use Rattle.trie_iterator.proofs.Standing.{group_at, clear, same_left, key_is, next_is, seek_is, end_is}
use Rattle.relation.proofs.Lists.{get_or_in}

-- n siblings further
past_below : {a : ℕ} {rows : List Row} {above : State} {ks : List ℕ} {it : ColumnTrieIter} (n : ℕ) → n ≤ length ks → Below a rows above ks it → Below a rows above (drop n ks) (past it n)
past_below {rows = rows} {above = above} {ks = ks} {it = it} n h b =
    let ku = keys_under (path above) rows in
    record {
      deep = b.deep;
      depth = b.depth;
      known = b.known;
      under = b.under;
      inside = omega (arith, h, b.inside, ap length b.rest, length-drop it.slice_offset ku);
      rest = sym (drop-drop n it.slice_offset ku) ∙ ap (drop n) b.rest;
    }

module _ {pool : List ℕ} {t : ColumnTrie} {rows : List Row} (H : Layered pool t rows) where
  -- ---- key and at_end

  pub key_answers : {s : State} {it : ColumnTrieIter} → Stands t.arity rows s it → of_key (cursor.key_of pool t it) ≡ shown (left s)
  key_answers {s} w = ap of_key (key_is H w) ∙ same (left s)
    where
      same : (ks : List ℕ) → of_key (cursor.key_in ks) ≡ shown ks
      same [] = refl
      same (k ∷ ks) = refl

  pub end_answers : {s : State} {it : ColumnTrieIter} → Stands t.arity rows s it → of_end (cursor.end_of pool t it) ≡ says (not (nonempty (left s)))
  end_answers {s} w = ap of_end (end_is H w) ∙ same (left s)
    where
      same : (ks : List ℕ) → of_end (cursor.end_in ks) ≡ says (not (nonempty ks))
      same [] = refl
      same (k ∷ ks) = refl

  -- ---- next

  pub next_answers : {s : State} {it : ColumnTrieIter} → Stands t.arity rows s it → of_next (cursor.next_of pool t it) ≡ shown (left (go_next s))
  next_answers {s} {it} w = ap of_next (next_is H w) ∙ same s
    where
      same : (s : State) → of_next (cursor.next_in it (left s)) ≡ shown (left (go_next s))
      same root = refl
      same (level [] above) = refl
      same (level (k ∷ []) above) = refl
      same (level (k ∷ (j ∷ ks)) above) = refl

  pub next_stands : {s : State} {it : ColumnTrieIter} → Stands t.arity rows s it → Stands t.arity rows (go_next s) (cursor.next_of pool t it).iter
  next_stands {s} {it} w = subst (λ x. Stands t.arity rows (go_next s) x.iter) (sym (next_is H w)) (go w)
    where
      go : {s : State} {it : ColumnTrieIter} → Stands t.arity rows s it → Stands t.arity rows (go_next s) (cursor.next_in it (left s)).iter
      go (at_the_root e) = at_the_root e
      go (at_level {ks = []} w b) = at_level w b
      go (at_level {ks = k ∷ ks} w b) = at_level w (past_below 1 (omega arith) b)

  -- ---- seek

  -- the siblings left don't fall
  pub left_rises : {s : State} {it : ColumnTrieIter} → Stands t.arity rows s it → NonFalling (left s)
  left_rises (at_the_root e) = λ x y h k. absurd (omega arith)
  left_rises (at_level {it = it} w b) = subst NonFalling b.rest ((group_at H b).rises it.slice_offset)

  -- so under every strategy a seek passes those below its target and stops at the first that is not
  pub seek_leads : {s : State} {it : ColumnTrieIter} → Stands t.arity rows s it → (x : SeekStrategy) (target : ℕ) → Leading (left s) target (seek_of x (left s) target).offset
  seek_leads {s} w x target = leading x (left s) target (left_rises w)

  seek_from : {s : State} {it : ColumnTrieIter} → Stands t.arity rows s it → (x : SeekStrategy) (target : ℕ) → drop (seek_of x (left s) target).offset (left s) ≡ from target (left s)
  seek_from {s} w x target = let l = seek_leads w x target in sym (from_drop target (left s) (seek_of x (left s) target).offset l.inside l.before l.stops)

  pub seek_answers : {s : State} {it : ColumnTrieIter} → Stands t.arity rows s it → (x : SeekStrategy) (target : ℕ) → of_seek (cursor.sought_of pool t it x target) ≡ says (nonempty (left (go_seek target s)))
  unfolding from
  seek_answers {s} {it} w x target = ap of_seek (seek_is H w x target) ∙ same s (seek_from w x target)
    where
      same : (s : State) → drop (seek_of x (left s) target).offset (left s) ≡ from target (left s) → of_seek (cursor.seek_in x target it (left s)) ≡ says (nonempty (left (go_seek target s)))
      same root e = refl
      same (level [] above) e = refl
      same (level (k ∷ ks) above) e = ap (λ (l : List ℕ). says (nonempty l)) e

  pub seek_stands : {s : State} {it : ColumnTrieIter} → Stands t.arity rows s it → (x : SeekStrategy) (target : ℕ) → Stands t.arity rows (go_seek target s) (cursor.sought_of pool t it x target).iter
  unfolding from
  seek_stands {s} {it} w x target = subst (λ y. Stands t.arity rows (go_seek target s) y.iter) (sym (seek_is H w x target)) (go w (seek_leads w x target) (seek_from w x target))
    where
      go : {s : State} {it : ColumnTrieIter} → Stands t.arity rows s it → Leading (left s) target (seek_of x (left s) target).offset → drop (seek_of x (left s) target).offset (left s) ≡ from target (left s)
          → Stands t.arity rows (go_seek target s) (cursor.seek_in x target it (left s)).iter
      go (at_the_root e) l f = at_the_root e
      go (at_level {ks = []} w b) l f = at_level w b
      go (at_level {above = above} {ks = k ∷ ks} {it = it} w b) l f =
          subst (λ (m : List ℕ). Stands t.arity rows (level m above) (past it (seek_of x (k ∷ ks) target).offset)) f (at_level w (past_below (seek_of x (k ∷ ks) target).offset l.inside b))

  -- ---- open

  depth_is : {s : State} {it : ColumnTrieIter} → Stands t.arity rows s it → it.depth ≡ levels s
  depth_is (at_the_root e) = ap (λ (x : ColumnTrieIter). x.depth) e
  depth_is (at_level w b) = b.depth

  -- data in layer 0 exactly if there are rows
  root_keys : 0 < t.arity → ltb 0 (length (layer_in pool t 0).keys) ≡ nonempty rows
  root_keys h = go rows (keys_held H h)
    where
      go : (rs : List Row) → length (layer_in pool t 0).keys ≡ length (prefixes 1 rs) → ltb 0 (length (layer_in pool t 0).keys) ≡ nonempty rs
      go [] e = le-ltb 0 (length (layer_in pool t 0).keys) (omega (arith, e, length_prefixes 1 []))
      go (q ∷ qs) e =
          let m : q ∈ (q ∷ qs) = hd refl in
          lt-ltb 0 (length (layer_in pool t 0).keys) (omega (arith, e, (rank_at (prefixes_asc 1 (q ∷ qs)) (prefix_in 1 m)).0))

  opens_is : {s : State} {it : ColumnTrieIter} → Stands t.arity rows s it → cursor.opens pool t it ≡ opens t.arity rows s
  unfolding cursor.opens
  opens_is (at_the_root e) =
      subst (λ (x : ColumnTrieIter). cursor.opens pool t x ≡ opens t.arity rows root) (sym e)
      (ap (λ (b : Bool). ltb 0 t.arity && b) (root_keys (header_told (length pool) t H.sound).positive))
  opens_is (at_level {above} {it = it} w b) =
      ap (λ (x : Bool). ltb it.depth t.arity && pick x (ltb 0 (length (layer_in pool t 0).keys)) (nonempty (checks.remaining pool t it))) (ne_eqb it.depth 0 (λ z. omega (arith, b.depth))) ∙
      ap₂ {C = Bool} (λ n ks. ltb n t.arity && nonempty ks) b.depth (same_left H (at_level w b))

  -- the interval of the children is that of the keys so far
  pub record Child (s : State) (i : ℕ) : Type 0 where
    pub deep : levels s < t.arity
    pub known : i < length (prefixes (levels s) rows)
    pub under : get_or (prefixes (levels s) rows) i [] ≡ path s

  first_of : (l : List ℕ) (o : ℕ) {k : ℕ} {ks : List ℕ} → drop o l ≡ k ∷ ks → (o < length l) × (get_or l o 0 ≡ k)
  first_of l o {k} {ks} e =
      let h : o < length l = omega (arith, ap length e, length-drop o l) in
      let f : get_or l o 0 ∷ drop (suc o) l ≡ k ∷ ks = sym (drop-cons l o 0 h) ∙ e in
      (h, ap (λ (m : List ℕ). cursor.first m) f)

  root_child : opens t.arity rows root ≡ true → Child root 0
  root_child o = record { deep = ltb-true 0 t.arity (and_left (ltb 0 t.arity) (nonempty rows) o); known = many rows (and_right (ltb 0 t.arity) (nonempty rows) o); under = only (roots rows) }
    where
      many : (rs : List Row) → nonempty rs ≡ true → 0 < length (prefixes 0 rs)
      many [] e = not_both false e refl
      many (q ∷ qs) e = let m : q ∈ (q ∷ qs) = hd refl in omega (arith, (rank_at (prefixes_asc 0 (q ∷ qs)) (prefix_in 0 m)).0)

      only : (prefixes 0 rows ≡ []) ⊎ (prefixes 0 rows ≡ ([] ∷ [])) → get_or (prefixes 0 rows) 0 [] ≡ []
      only (inl e) = ap (λ (l : List Row). get_or l 0 []) e
      only (inr e) = ap (λ (l : List Row). get_or l 0 []) e

  child_of : {s : State} {it : ColumnTrieIter} → Stands t.arity rows s it → opens t.arity rows s ≡ true → Child s (checks.child pool t it)
  unfolding checks.child
  child_of (at_the_root e) o = subst (λ (x : ColumnTrieIter). Child root (checks.child pool t x)) (sym e) (root_child o)
  child_of (at_level {above} {ks = []} w b) o = not_both false (and_right (ltb (suc (levels above)) t.arity) false o) refl
  child_of (at_level {above} {ks = k ∷ ks} {it = it} w b) o =
      let f = first_of (keys_under (path above) rows) it.slice_offset b.rest in
      let g = (group_at H b).child it.slice_offset f.0 in
      subst (Child (level (k ∷ ks) above)) (sym (place b))
      (record {
        deep = ltb-true (suc (levels above)) t.arity (and_left (ltb (suc (levels above)) t.arity) true o);
        known = g.0;
        under = g.1 ∙ ap (λ (n : ℕ). path above ++ (n ∷ [])) f.1;
      })
    where
      place : Below t.arity rows above (k ∷ ks) it → checks.child pool t it ≡ group_from (layer_in pool t (levels above)) it.interval_i + it.slice_offset
      place b =
          simp (ne_eqb it.depth 0 (λ z. omega (arith, b.depth)))
          (ap (λ (n : ℕ). group_from (layer_in pool t n) it.interval_i + it.slice_offset) (let e : it.depth - 1 ≡ levels above = omega (arith, b.depth) in e))

  -- the two answers
  module _ {s : State} {it : ColumnTrieIter} (w : Stands t.arity rows s it) where
    open_is : cursor.open_of pool t it ≡ pick (opens t.arity rows s) (cursor.open_at pool t it (checks.child pool t it)) (cursor.unopened it 0)
    unfolding cursor.open_of
    open_is =
        sym (answers (cursor.unopened it) (pick (cursor.opens pool t it) (cursor.open_at pool t it (checks.child pool t it)) (cursor.unopened it 0)) (clear H w)) ∙
        ap (λ (b : Bool). pick b (cursor.open_at pool t it (checks.child pool t it)) (cursor.unopened it 0)) (opens_is w)

    open_not : opens t.arity rows s ≡ false → cursor.open_of pool t it ≡ cursor.unopened it 0
    open_not e = open_is ∙ ap (λ (b : Bool). pick b (cursor.open_at pool t it (checks.child pool t it)) (cursor.unopened it 0)) e

    open_does : opens t.arity rows s ≡ true → cursor.open_of pool t it ≡ record { number = 0; opened = true; iter = checks.cursor (it.depth + 1) (checks.child pool t it) 0 }
    open_does e =
        let c = child_of w e in
        open_is ∙
        ap (λ (b : Bool). pick b (cursor.open_at pool t it (checks.child pool t it)) (cursor.unopened it 0)) e ∙
        ap (λ (b : Bool). pick b (record { number = 0; opened = true; iter = checks.cursor (it.depth + 1) (checks.child pool t it) 0 }) (cursor.unopened it 6))
        (ap (λ (n : ℕ). lies (layer_in pool t n) (checks.child pool t it)) (depth_is w) ∙ (held_group H c.deep c.known c.under).lies)

    pub open_answers : of_open (cursor.open_of pool t it) ≡ says (opens t.arity rows s)
    open_answers = go (opens t.arity rows s) refl
      where
        go : (b : Bool) → opens t.arity rows s ≡ b → of_open (cursor.open_of pool t it) ≡ says (opens t.arity rows s)
        go true e = ap of_open (open_does e) ∙ ap says (sym e)
        go false e = ap of_open (open_not e) ∙ ap says (sym e)

    pub open_stands : Stands t.arity rows (go_down t.arity rows s) (cursor.open_of pool t it).iter
    open_stands = go (opens t.arity rows s) refl
      where
        opened : opens t.arity rows s ≡ true → Stands t.arity rows (level (keys_under (path s) rows) s) (checks.cursor (it.depth + 1) (checks.child pool t it) 0)
        opened e =
            let c = child_of w e in
            at_level {it = checks.cursor (it.depth + 1) (checks.child pool t it) 0} w
            (record { deep = c.deep; depth = omega (arith, depth_is w); known = c.known; under = c.under; inside = omega arith; rest = refl })

        go : (b : Bool) → opens t.arity rows s ≡ b → Stands t.arity rows (go_down t.arity rows s) (cursor.open_of pool t it).iter
        go true e =
            subst (λ (b : Bool). Stands t.arity rows (pick b (level (keys_under (path s) rows) s) s) (cursor.open_of pool t it).iter) (sym e)
            (subst (λ x. Stands t.arity rows (level (keys_under (path s) rows) s) x.iter) (sym (open_does e)) (opened e))
        go false e =
            subst (λ (b : Bool). Stands t.arity rows (pick b (level (keys_under (path s) rows) s) s) (cursor.open_of pool t it).iter) (sym e)
            (subst (λ x. Stands t.arity rows s x.iter) (sym (open_not e)) w)

  -- ---- up

  -- the place of a row among ascending rows is one
  one_place : (d i j : ℕ) → i < length (prefixes d rows) → j < length (prefixes d rows) → get_or (prefixes d rows) i [] ≡ get_or (prefixes d rows) j [] → i ≡ j
  one_place d i j h k e = sym (rank_of_lem (prefixes_asc d rows) i h) ∙ ap (λ (q : Row). rank q (prefixes d rows)) e ∙ rank_of_lem (prefixes_asc d rows) j k

  -- a beginning among those of d words has d words
  long : (d i : ℕ) {p : Row} → d ≤ t.arity → i < length (prefixes d rows) → get_or (prefixes d rows) i [] ≡ p → length p ≡ d
  long d i h k e = ap length (sym e) ∙ prefixes_width d H.width h (get_or (prefixes d rows) i []) (get_or_in (prefixes d rows) i [] k)

  -- the owner's interval, and the offset in its group
  owned : {above : State} {k : ℕ} {js ks : List ℕ} {it it' : ColumnTrieIter} → Below t.arity rows above (k ∷ js) it → Below t.arity rows (level (k ∷ js) above) ks it'
      → cursor.rises_in (layer_in pool t (levels above)) it' ≡ record { number = 0; risen = true; iter = it }
  owned {above} {k} {js} {ks} {it} {it'} c b =
      let l = layer_in pool t (levels above) in
      let i = it.interval_i in
      let o = it.slice_offset in
      let ku = keys_under (path above) rows in
      let g = group_at H c in
      let f = first_of ku o c.rest in
      let m = g.child o f.0 in
      let e : it'.interval_i ≡ group_from l i + o =
      one_place (suc (levels above)) it'.interval_i (group_from l i + o) b.known m.0 (b.under ∙ sym (m.1 ∙ ap (λ (n : ℕ). path above ++ (n ∷ [])) f.1)) in
      let q : suc i - 1 ≡ i = omega arith in
      let x : it'.depth - 1 ≡ it.depth = omega (arith, b.depth, c.depth) in
      let z : it'.interval_i - group_from l i ≡ o = omega arith in
      sym (rises_in_lem l it' {n = suc i} (sym (ap (λ (n : ℕ). checks.count_up_to n l.intervals) e ∙ g.owner o f.0)) (λ (y : suc i ≡ 0). omega arith)
      (ap (lies l) q ∙ g.lies) (subst (λ (n : ℕ). it'.interval_i < group_to l n) (sym q) (omega (arith, g.long, f.0)))) ∙
      ap (cursor.risen_to l it') q ∙
      (λ j. record { number = 0; risen = true; iter = record { depth = x j; interval_i = i; slice_offset = z j } })

  -- Whoever stands below the place s goes up to the very cursor that stands at s.
  pub up_returns : {s : State} {it : ColumnTrieIter} → Stands t.arity rows s it → {ks : List ℕ} {it' : ColumnTrieIter} → Below t.arity rows s ks it' → cursor.up_of pool t it' ≡ record { number = 0; risen = true; iter = it }
  up_returns (at_the_root e) {it' = it'} b = sym (up_top pool t it' (clear H (at_level (at_the_root e) b)) b.depth e)
  up_returns (at_level {above} {ks = []} {it = it} w c) {it' = it'} b =
      let x = long (suc (levels above)) it'.interval_i (omega (arith, b.deep)) b.known b.under in
      let y = long (levels above) it.interval_i (omega (arith, c.deep)) c.known c.under in
      absurd (omega arith)
  up_returns (at_level {above} {ks = k ∷ ks} {it = it} w c) {it' = it'} b =
      let d : it'.depth - 2 ≡ levels above = omega (arith, b.depth) in
      sym (up_below pool t it' (clear H (at_level (at_level w c) b)) (omega (arith, b.depth))) ∙ ap (λ (n : ℕ). cursor.rises_in (layer_in pool t n) it') d ∙ owned c b

  pub up_answers : {s : State} {it : ColumnTrieIter} → Stands t.arity rows s it → of_up (cursor.up_of pool t it) ≡ says (rises s)
  up_answers (at_the_root {it} e) = ap of_up (sym (up_root pool t it (clear H (at_the_root e)) (ap (λ (x : ColumnTrieIter). x.depth) e)))
  up_answers (at_level w b) = ap of_up (up_returns w b)

  pub up_stands : {s : State} {it : ColumnTrieIter} → Stands t.arity rows s it → Stands t.arity rows (go_up s) (cursor.up_of pool t it).iter
  up_stands (at_the_root {it} e) = subst (λ x. Stands t.arity rows root x.iter) (up_root pool t it (clear H (at_the_root e)) (ap (λ (x : ColumnTrieIter). x.depth) e)) (at_the_root e)
  up_stands (at_level {above} w b) = subst (λ x. Stands t.arity rows above x.iter) (sym (up_returns w b)) w
