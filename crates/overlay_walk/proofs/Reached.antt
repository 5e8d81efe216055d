-- Every cursor that a table's own checks let pass stands at some state of the table's iterator.
use Prim.Native.Nat.{ℕ, zero, suc, ◌-◌, ◌≤◌, ◌<◌}
use mathlib.Core.Path.{◌≡◌, refl, sym, ap, ◌∙◌, subst}
use mathlib.Core.Bool.{Bool, true, ◌&&◌}
use mathlib.Core.List.{List, [], ◌∷◌, ◌++◌}
use native.Mathlib.Omega.{arith}
use lib.ListN.{length, get_or, take, drop, length-take}
use lib.Seq.{drop-cons}
use lib.Dec.{eqb}
use borrow.Author.Tests.{eqb-true, eq-eqb}
use Rattle.relation.specs.Order.{Row, pick}
use Rattle.relation.specs.Lists.{◌∈◌}
use Rattle.relation.specs.Layers.{Layer, prefixes, keys_under, layer_at}
use Rattle.relation.proofs.Lists.{get_or_in, in_get_or}
use Rattle.relation.proofs.Tests.{and_left, and_right}
use Rattle.relation.proofs.Layers.{prefix_of, parent_in, prefixes_width}
use Rattle.relation.proofs.Relations.{snoc_form}
use Rattle.relation.proofs.Children.{key_under}
use Rattle.relation.proofs.Intervals.{intervals_many}
use Rattle.column_trie.specs.Groups.{group_from, group_to}
use Rattle.column_trie.specs.Table.{layer_in}
use Rattle.column_trie.specs.declared.ColumnTrie.{ColumnTrie}
use Rattle.column_trie_place.specs.Checks.{cursor, at_root, layer_of, stands_below, stands, refusal}
use Rattle.column_trie_place.specs.declared.ColumnTrieIter.{ColumnTrieIter}
use Rattle.column_trie_place.proofs.Places.{unrefused, standing}
use Rattle.trie_iterator.specs.TrieIterator.{State, root, level, levels, path}
use Rattle.trie_iterator.specs.Cursor.{Layered, Stands, at_the_root, at_level}
use Rattle.trie_iterator.proofs.Held.{held_group}

module _ {pool : List ℕ} {t : ColumnTrie} {rows : List Row} (H : Layered pool t rows) where
  -- a place whose keys from the root are q
  record Place (d : ℕ) (q : Row) : Type 0 where
    above : State
    parent : ColumnTrieIter
    at : Stands t.arity rows above parent
    deep : levels above ≡ d
    keys : path above ≡ q

  -- each beginning of d words is the way to one
  reach : (d n : ℕ) → d ≤ t.arity → n < length (prefixes d rows) → Place d (get_or (prefixes d rows) n [])
  reach zero n l h = record { above = root; parent = at_root; at = at_the_root refl; deep = refl; keys = sym (prefix_of 0 rows (get_or_in (prefixes 0 rows) n [] h)).2 }
  reach (suc d) n l h =
      let q = get_or (prefixes (suc d) rows) n [] in
      let i = get_or_in (prefixes (suc d) rows) n [] h in
      let long : length q ≡ suc d = prefixes_width (suc d) H.width l q i in
      let o = in_get_or [] (parent_in d rows i) in
      let p = reach d o.0 (omega arith) o.1 in
      let pq : path p.above ≡ take d q = p.keys ∙ o.2 in
      let f : q ≡ take d q ++ (get_or q d 0 ∷ []) = snoc_form d q long in
      let tl : length (take d q) ≡ d = omega (arith, length-take d q) in
      let k : get_or q d 0 ∈ keys_under (take d q) rows =
      (key_under (take d q) (get_or q d 0) H.width (omega arith)).1 (subst (λ (x : ℕ). (take d q ++ (get_or q d 0 ∷ [])) ∈ prefixes (suc x) rows) (sym tl) (subst (λ (x : Row). x ∈ prefixes (suc d) rows) f i)) in
      let g = in_get_or 0 (subst (λ (x : Row). get_or q d 0 ∈ keys_under x rows) (sym pq) k) in
      let ks = keys_under (path p.above) rows in
      record {
        above = level (get_or q d 0 ∷ drop (suc g.0) ks) p.above;
        parent = cursor (suc d) o.0 g.0;
        at =
            at_level {it = cursor (suc d) o.0 g.0} p.at
            (record {
              deep = omega (arith, p.deep);
              depth = ap suc (sym p.deep);
              known = subst (λ (x : ℕ). o.0 < length (prefixes x rows)) (sym p.deep) o.1;
              under = ap (λ (x : ℕ). get_or (prefixes x rows) o.0 []) p.deep ∙ sym p.keys;
              inside = omega (arith, g.1);
              rest = drop-cons ks g.0 0 g.1 ∙ ap (λ (x : ℕ). x ∷ drop (suc g.0) ks) g.2;
            });
        deep = ap suc p.deep;
        keys = ap (λ (x : Row). x ++ (get_or q d 0 ∷ [])) pq ∙ sym f;
      }

  at_zero : (it : ColumnTrieIter) → stands pool t it ≡ true → it.depth ≡ 0 → it ≡ at_root
  unfolding stands
  at_zero it y e =
      let b = sym (ap (λ (c : Bool). pick c (eqb it.interval_i 0 && eqb it.slice_offset 0) (stands_below pool t it)) (eq-eqb it.depth 0 e)) ∙ y in
      let n = eqb-true it.interval_i 0 (and_left (eqb it.interval_i 0) (eqb it.slice_offset 0) b) in
      let o = eqb-true it.slice_offset 0 (and_right (eqb it.interval_i 0) (eqb it.slice_offset 0) b) in
      λ j. record { depth = e j; interval_i = n j; slice_offset = o j }

  pub every_cursor_that_passes_has_a_state : (it : ColumnTrieIter) → refusal pool t it ≡ 0 → (p : State) × Stands t.arity rows p it
  every_cursor_that_passes_has_a_state it z = go it.depth refl
    where
      go : (n : ℕ) → it.depth ≡ n → (p : State) × Stands t.arity rows p it
      go zero e = (root, at_the_root (at_zero it (unrefused pool t it z).1 e))
      go (suc d) e =
          let y = standing pool t it z (omega arith) in
          let x : it.depth - 1 ≡ d = omega arith in
          let l : d < t.arity = omega (arith, y.deep) in
          let here : layer_of pool t it ≡ layer_at d rows = ap (layer_in pool t) x ∙ H.layers d l in
          let n : it.interval_i < length (prefixes d rows) = omega (arith, y.listed, ap (λ (w : Layer). length w.intervals) here, intervals_many H.width d l) in
          let p = reach d it.interval_i (omega arith) n in
          let g = held_group H l n (sym p.keys) in
          let ks = keys_under (path p.above) rows in
          let lay : layer_of pool t it ≡ layer_in pool t d = ap (layer_in pool t) x in (
            level (drop it.slice_offset ks) p.above,
            at_level {it = it} p.at
                (record {
                  deep = omega (arith, p.deep);
                  depth = e ∙ ap suc (sym p.deep);
                  known = subst (λ (w : ℕ). it.interval_i < length (prefixes w rows)) (sym p.deep) n;
                  under = ap (λ (w : ℕ). get_or (prefixes w rows) it.interval_i []) p.deep ∙ sym p.keys;
                  inside = omega (arith, y.offset, ap (λ (w : Layer). group_to w it.interval_i) lay, ap (λ (w : Layer). group_from w it.interval_i) lay, g.long);
                  rest = refl;
                }),
          )
