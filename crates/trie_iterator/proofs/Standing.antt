-- A cursor that stands at a state of the trie iterator is not refused, and the siblings that it has left are the state's. So the answers of key, next,
-- seek and at_end follow.
use Prim.Native.Nat.{ℕ, ◌-◌}
use mathlib.Core.Path.{◌≡◌, refl, sym, ap, ap₂, ◌∙◌, subst}
use mathlib.Core.Bool.{true}
use mathlib.Core.List.{List, []}
use native.Mathlib.Omega.{arith}
use lib.ListN.{length, drop}
use borrow.Author.Tests.{ne_eqb}
use Rattle.relation.specs.Order.{Row, pick}
use Rattle.relation.specs.Layers.{Layer}
use Rattle.column_trie.specs.Groups.{lies, keys_of}
use Rattle.column_trie.specs.Table.{layer_in}
use Rattle.column_trie.specs.declared.ColumnTrie.{ColumnTrie}
use Rattle.column_trie_place.specs.Checks.{at_root, layer_of, refusal, remaining, unless}
use Rattle.column_trie_iter.specs.Cursor.{no_key, key_in, key_of, unmoved, next_in, next_of, unsought, seek_in, sought_of, no_end, end_in, end_of}
use Rattle.column_trie_place.specs.Checks as checks
use Rattle.column_trie_place.specs.declared.ColumnTrieIter.{ColumnTrieIter}
use Rattle.column_trie_place.proofs.Places.{stands_there, stands_below_lem}
use Rattle.column_trie_place.proofs.Rests.{answers}
use Rattle.seek.specs.declared.SeekStrategy.{SeekStrategy}
use Rattle.trie_iterator.specs.TrieIterator.{State, levels, left, path}
use Rattle.trie_iterator.specs.Cursor.{Layered, Below, Stands, at_the_root, at_level}
use Rattle.trie_iterator.proofs.Held.{GroupHolds, held_group}

module _ {pool : List ℕ} {t : ColumnTrie} {rows : List Row} (H : Layered pool t rows) where
  -- the group in which the cursor stands
  pub group_at : {above : State} {ks : List ℕ} {it : ColumnTrieIter} → Below t.arity rows above ks it → GroupHolds (layer_in pool t (levels above)) rows (levels above) it.interval_i (path above)
  group_at b = held_group H b.deep b.known b.under

  -- and the layer, by the cursor's depth
  layer_at : {above : State} {ks : List ℕ} {it : ColumnTrieIter} → Below t.arity rows above ks it → layer_of pool t it ≡ layer_in pool t (levels above)
  layer_at {above} {ks} {it} b = ap (layer_in pool t) (let e : it.depth - 1 ≡ levels above = omega (arith, b.depth) in e)

  cleared : (it : ColumnTrieIter) → checks.stands pool t it ≡ true → refusal pool t it ≡ 0
  unfolding refusal
  cleared it e = ap₂ {C = ℕ} (λ x y. pick x (pick y 0 7) 6) H.sound e

  -- not refused
  pub clear : {s : State} {it : ColumnTrieIter} → Stands t.arity rows s it → refusal pool t it ≡ 0
  unfolding checks.stands
  clear (at_the_root {it} e) = subst (λ (x : ColumnTrieIter). refusal pool t x ≡ 0) (sym e) (cleared at_root refl)
  clear (at_level {it = it} w b) =
      let g = group_at b in
      let l = layer_at b in
      cleared it
      (stands_below_lem pool t it (omega (arith, b.depth)) ∙
      stands_there pool t it (omega (arith, b.depth, b.deep)) (ap (λ (x : Layer). lies x it.interval_i) l ∙ g.lies)
      (omega (arith, b.inside, ap (λ (x : Layer). length (keys_of x it.interval_i)) l, ap length g.keys)))

  -- the same siblings are left
  pub same_left : {s : State} {it : ColumnTrieIter} → Stands t.arity rows s it → remaining pool t it ≡ left s
  unfolding remaining
  same_left (at_the_root e) = subst (λ (x : ColumnTrieIter). remaining pool t x ≡ []) (sym e) refl
  same_left (at_level {it = it} w b) =
      simp (ne_eqb it.depth 0 (λ z. omega (arith, b.depth)))
      (ap (λ (x : Layer). drop it.slice_offset (keys_of x it.interval_i)) (layer_at b) ∙ ap (drop it.slice_offset) (group_at b).keys ∙ b.rest)

  -- so calls that go by what is left answer by the state
  module _ {s : State} {it : ColumnTrieIter} (w : Stands t.arity rows s it) where
    by_left : {A : Type 0} (deny : ℕ → A) (f : List ℕ → A) → unless (refusal pool t it) deny (f (remaining pool t it)) ≡ f (left s)
    by_left deny f = sym (answers deny (f (remaining pool t it)) (clear w)) ∙ ap f (same_left w)

    pub key_is : key_of pool t it ≡ key_in (left s)
    unfolding key_of
    key_is = by_left no_key key_in

    pub next_is : next_of pool t it ≡ next_in it (left s)
    unfolding next_of
    next_is = by_left (unmoved it) (next_in it)

    pub seek_is : (x : SeekStrategy) (target : ℕ) → sought_of pool t it x target ≡ seek_in x target it (left s)
    unfolding sought_of
    seek_is x target = by_left (unsought it) (seek_in x target it)

    pub end_is : end_of pool t it ≡ end_in (left s)
    unfolding end_of
    end_is = by_left no_end end_in
