-- The answers of up: at the root, to the root, and from below depth 1 by the owner of the cursor's interval index in the layer above.
use Prim.Native.Nat.{ℕ, ◌-◌, ◌<◌}
use mathlib.Core.Path.{◌≡◌, refl, sym, ap, ◌∙◌}
use mathlib.Core.Bool.{Bool, true, false}
use mathlib.Core.List.{List}
use native.Mathlib.Omega.{arith}
use lib.ListN.{length}
use lib.Dec.{eqb}
use borrow.Author.Tests.{eq-eqb, ne_eqb}
use Rattle.std.proofs.Common.{Option, Some, None, Result, Err}
use Rattle.refusal.specs.Number.{number_of}
use Rattle.refusal.specs.declared.Refusal.{Refusal}
use Rattle.relation.specs.Order.{pick}
use Rattle.relation.specs.Layers.{Layer}
use Rattle.column_trie.specs.Groups.{group_to, lies}
use Rattle.column_trie.specs.Limits.{max_capacity}
use Rattle.column_trie.specs.Table.{layer_in}
use Rattle.column_trie.specs.declared.ColumnTrie.{ColumnTrie}
use Rattle.column_trie.proofs.Header.{layer_fits, header_told}
use Rattle.column_trie_place.specs.Checks.{cursor, at_root, refusal, count_up_to, owns}
use Rattle.column_trie_place.specs.Inside.{owned_at, owner_of, Placed}
use Rattle.column_trie_place.specs.declared.ColumnTrieIter.{ColumnTrieIter}
use Rattle.column_trie_place.specs.declared.Owner.{Owner}
use Rattle.column_trie_place.specs.declared.Place.{Place}
use Rattle.column_trie.proofs.Groups.{intervals_long}
use Rattle.column_trie_place.proofs.Owners.{owner_is}
use Rattle.column_trie_place.proofs.Places.{unrefused, standing}
use Rattle.column_trie_place.proofs.Rests.{answers, refused}
use Rattle.column_trie_iter.specs.Cursor.{risen_to, unrisen, rises_in, up_of}
use Rattle.column_trie_iter.specs.declared.UpAnswer.{UpAnswer}

-- what up makes of the owner that it is given
abbrev raised : ColumnTrieIter → Option Owner → UpAnswer
raised it None = unrisen it 6
raised it (Some o) = record { number = 0; risen = true; iter = cursor (it.depth - 1) o.interval o.offset }

module _ (l : Layer) (it : ColumnTrieIter) where
  by_owner : raised it (owner_of l it.interval_i) ≡ rises_in l it
  unfolding owner_of rises_in
  by_owner = go (eqb counted 0) (owns l (counted - 1) it.interval_i)
    where
      counted : ℕ
      counted = count_up_to it.interval_i l.intervals

      go : (z o : Bool) → raised it (pick z None (pick o (Some (owned_at l it.interval_i (counted - 1))) None)) ≡ pick z (unrisen it 6) (pick o (risen_to l it (counted - 1)) (unrisen it 6))
      go true o = refl
      go false true = refl
      go false false = refl

  pub unowned_stays : None ≡ owner_of l it.interval_i → unrisen it 6 ≡ rises_in l it
  unowned_stays e = ap (raised it) e ∙ by_owner

  pub owned_rises : {o : Owner} → Some o ≡ owner_of l it.interval_i → record { number = 0; risen = true; iter = cursor (it.depth - 1) o.interval o.offset } ≡ rises_in l it
  owned_rises e = ap (raised it) e ∙ by_owner

  pub rises_in_lem : {n : ℕ} → n ≡ count_up_to it.interval_i l.intervals → (n ≡ 0 → ⊥) → lies l (n - 1) ≡ true → it.interval_i < group_to l (n - 1) → risen_to l it (n - 1) ≡ rises_in l it
  rises_in_lem c s e h = ap (raised it) (owner_is l it.interval_i c s e h) ∙ by_owner

-- the answers of up
module _ (pool : List ℕ) (t : ColumnTrie) (it : ColumnTrieIter) where
  abbrev moved : UpAnswer
  moved = pick (eqb it.depth 0) (unrisen it 0) (pick (eqb it.depth 1) (record { number = 0; risen = true; iter = at_root }) (rises_in (layer_in pool t (it.depth - 2)) it))

  pub up_refused : {r : Refusal} {x : Result Place Refusal} → x ≡ Err r → Placed pool t it x → unrisen it (number_of r) ≡ up_of pool t it
  unfolding up_of
  up_refused e w = refused (unrisen it) moved e w

  module _ (z : refusal pool t it ≡ 0) where
    up_is : moved ≡ up_of pool t it
    unfolding up_of
    up_is = answers (unrisen it) moved z

    pub up_root : it.depth ≡ 0 → unrisen it 0 ≡ up_of pool t it
    up_root e = sym (simp (eq-eqb it.depth 0 e)) ∙ up_is

    pub up_top : it.depth ≡ 1 → {x : ColumnTrieIter} → x ≡ at_root → record { number = 0; risen = true; iter = x } ≡ up_of pool t it
    up_top e f =
        ap (λ (y : ColumnTrieIter). record { number = 0; risen = true; iter = y }) f ∙ sym (simp (ne_eqb it.depth 0 (λ d. omega arith), eq-eqb it.depth 1 e)) ∙ up_is

    module _ (d : 1 < it.depth) where
      pub up_below : rises_in (layer_in pool t (it.depth - 2)) it ≡ up_of pool t it
      up_below = sym (simp (ne_eqb it.depth 0 (λ e. omega arith), ne_eqb it.depth 1 (λ e. omega arith))) ∙ up_is

      -- what the layer above and owner_of ask
      pub owner_needs : (it.depth - 2 < t.arity) × (it.interval_i < max_capacity)
      owner_needs =
          let h = (unrefused pool t it z).0 in
          let s = standing pool t it z (omega arith) in
          let f = layer_fits {d = it.depth - 1} (header_told (length pool) t h) (omega (arith, s.deep)) in
          (omega (arith, s.deep), omega (arith, s.listed, intervals_long pool f, f.intervals, f.small))
