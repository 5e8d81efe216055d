-- The answers of open: whether there is something to open, and whether its group lies in the layer below.
use Prim.Native.Nat.{ℕ, ◌+◌, ◌-◌, ◌≤◌, ◌<◌}
use mathlib.Core.Path.{◌≡◌, refl, sym, ap, ◌∙◌}
use mathlib.Core.Bool.{Bool, true, false, ◌&&◌}
use mathlib.Core.List.{List}
use native.Mathlib.Omega.{arith}
use lib.ListN.{length, take, drop}
use lib.Dec.{ltb, eqb}
use borrow.Author.Tests.{ltb-true, ltb-false, lt-ltb, eqb-true}
use Rattle.std.proofs.Common.{Result, Ok, Err}
use Rattle.std.specs.Option.{is_some}
use Rattle.refusal.specs.Number.{number_of}
use Rattle.refusal.specs.declared.Refusal.{Refusal}
use Rattle.relation.specs.Lists.{nonempty}
use Rattle.relation.specs.Order.{pick}
use Rattle.relation.proofs.Tests.{and_left}
use Rattle.column_trie.specs.Groups.{group_of}
use Rattle.column_trie.specs.Table.{layer_in, header_sound}
use Rattle.column_trie.specs.declared.ColumnTrie.{ColumnTrie}
use Rattle.column_trie.proofs.Header.{layer_fits, header_told}
use Rattle.column_trie_place.specs.Checks.{cursor, refusal, remaining, child}
use Rattle.column_trie_iter.specs.Cursor.{opens, open_at, unopened, open_of}
use Rattle.column_trie_place.specs.Inside.{Placed, PlacedAt, has_children}
use Rattle.column_trie_place.specs.declared.ColumnTrieIter.{ColumnTrieIter}
use Rattle.column_trie_place.specs.declared.Place.{Place}
use Rattle.column_trie.proofs.Groups.{keys_long}
use Rattle.column_trie_place.proofs.Places.{unrefused}
use Rattle.column_trie_place.proofs.Rests.{answers, part_none, part_more, refused, not_refused}
use Rattle.column_trie_place.proofs.Groups.{group_there}

-- keys are left from at to end exactly if at is before end
nonempty_part : (pool : List ℕ) (at end : ℕ) → end ≤ length pool → ltb at end ≡ nonempty (take (end - at) (drop at pool))
nonempty_part pool at end h = go (ltb at end) refl
  where
    go : (b : Bool) → ltb at end ≡ b → ltb at end ≡ nonempty (take (end - at) (drop at pool))
    go true e = e ∙ ap nonempty (sym (part_more pool at end (ltb-true at end e) h))
    go false e = e ∙ ap nonempty (sym (part_none pool at end (ltb-false at end e)))

module _ {pool : List ℕ} {t : ColumnTrie} {it : ColumnTrieIter} {x : Result Place Refusal} (w : Placed pool t it x) where
  pub open_refused : {r : Refusal} → x ≡ Err r → unopened it (number_of r) ≡ open_of pool t it
  unfolding open_of
  open_refused e = refused (unopened it) (pick (opens pool t it) (open_at pool t it (child pool t it)) (unopened it 0)) e w

  module _ {p : Place} (q : x ≡ Ok p) where
    clear : refusal pool t it ≡ 0
    clear = (not_refused q w).0

    stood : PlacedAt pool t it p
    stood = (not_refused q w).1

    pub header_fine : header_sound (length pool) t ≡ true
    header_fine = (unrefused pool t it clear).0

    -- the code's test is the definition's
    opens_is : has_children t it.depth p.at p.end ≡ opens pool t it
    unfolding has_children opens
    opens_is = go (eqb it.depth 0) refl
      where
        go : (b : Bool) → eqb it.depth 0 ≡ b → has_children t it.depth p.at p.end ≡ opens pool t it
        go true e =
            let d = eqb-true it.depth 0 e in
            let h = header_told (length pool) t header_fine in
            simp (e, lt-ltb it.depth t.arity (omega (arith, h.positive)), keys_long pool (layer_fits {d = 0} h h.positive))
        go false e =
            simp e (ap (λ (b : Bool). ltb it.depth t.arity && b) (nonempty_part pool p.at p.end stood.inside ∙ ap nonempty stood.rest))

    open_is : open_of pool t it ≡ pick (has_children t it.depth p.at p.end) (open_at pool t it p.index) (unopened it 0)
    unfolding open_of
    open_is =
        sym (answers (unopened it) (pick (opens pool t it) (open_at pool t it (child pool t it)) (unopened it 0)) clear) ∙
        ap (λ (b : Bool). pick b (open_at pool t it (child pool t it)) (unopened it 0)) (sym opens_is) ∙
        ap (λ (i : ℕ). pick (has_children t it.depth p.at p.end) (open_at pool t it i) (unopened it 0)) (sym stood.index)

    pub open_none : has_children t it.depth p.at p.end ≡ false → unopened it 0 ≡ open_of pool t it
    open_none e = sym (open_is ∙ ap (λ (b : Bool). pick b (open_at pool t it p.index) (unopened it 0)) e)

    module _ (e : has_children t it.depth p.at p.end ≡ true) where
      -- above full depth, there is a layer below
      pub deeper : it.depth < t.arity
      unfolding opens
      deeper =
          ltb-true it.depth t.arity
          (and_left (ltb it.depth t.arity) (pick (eqb it.depth 0) (ltb 0 (length (layer_in pool t 0).keys)) (nonempty (remaining pool t it))) (sym opens_is ∙ e))

      opening : open_at pool t it p.index ≡ open_of pool t it
      opening = sym (open_is ∙ ap (λ (b : Bool). pick b (open_at pool t it p.index) (unopened it 0)) e)

      -- by the group that the layer below has or has not
      pub open_by : {b : Bool} → is_some (group_of (layer_in pool t it.depth) p.index) ≡ b → pick b (record { number = 0; opened = true; iter = cursor (it.depth + 1) p.index 0 }) (unopened it 6) ≡ open_of pool t it
      open_by n =
          sym (ap (λ (b : Bool). pick b (record { number = 0; opened = true; iter = cursor (it.depth + 1) p.index 0 }) (unopened it 6)) (sym (group_there (layer_in pool t it.depth) p.index) ∙ n)) ∙ opening
