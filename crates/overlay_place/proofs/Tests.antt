-- The test of a pair, case by case: what the climb's turns come to, and what the laws of overlay_walk cite.
use Prim.Native.Nat.{ℕ, suc, ◌-◌}
use mathlib.Core.Path.{◌≡◌, refl, sym, ap, ap₂, ◌∙◌}
use mathlib.Core.Bool.{Bool, true, false, not, ◌&&◌, ◌||◌}
use mathlib.Core.List.{List}
use lib.Dec.{eqb, ltb}
use borrow.Author.Tests.{eq-eqb, ne_eqb}
use Rattle.relation.specs.Order.{pick}
use Rattle.relation.proofs.Tests.{gate_open}
use Rattle.column_trie.specs.declared.ColumnTrie.{ColumnTrie}
use Rattle.column_trie_place.specs.Checks.{cursor, refusal}
use Rattle.column_trie_place.specs.declared.ColumnTrieIter.{ColumnTrieIter}
use Rattle.column_trie_iter.specs.Cursor.{key_of, up_of}
use Rattle.column_trie_iter.specs.declared.KeyAnswer.{KeyAnswer}
use Rattle.overlay_checks.specs.Tables.{tables_number}
use Rattle.laid_iter.specs.Cursors.{pair_at_root}
use Rattle.overlay_place.specs.Pairs.{ups, climbed, started, passed_below, leads, least, abreast, owner_walks, firsts, below_root, pair_stands, pair_refusal}
use Rattle.laid_iter.specs.declared.LaidIter.{LaidIter}

-- ---- up to depth 1

module _ (pool : List ℕ) (t : ColumnTrie) (it : ColumnTrieIter) where
  -- a turn of n that are left, and the end
  pub ups_turn : (n k : ℕ) → n ≡ suc k → ups k pool t (up_of pool t it).iter ≡ ups n pool t it
  unfolding ups
  ups_turn n k e = sym (ap (λ (i : ℕ). ups i pool t it) e)

  pub ups_none : (n : ℕ) → n ≡ 0 → it ≡ ups n pool t it
  unfolding ups
  ups_none n e = sym (ap (λ (i : ℕ). ups i pool t it) e)

  pub climbed_is : climbed pool t it ≡ ups (it.depth - 1) pool t it
  unfolding climbed
  climbed_is = refl

  -- ---- what is passed

  pub passed_none : (k : ℕ) → it.slice_offset ≡ 0 → true ≡ passed_below pool t it k
  unfolding passed_below
  passed_none k e = sym (ap (λ (b : Bool). b || ltb (key_of pool t (cursor it.depth it.interval_i (it.slice_offset - 1))).key k) (eq-eqb it.slice_offset 0 e))

  pub passed_some : (k : ℕ) → (it.slice_offset ≡ 0 → ⊥) → ltb (key_of pool t (cursor it.depth it.interval_i (it.slice_offset - 1))).key k ≡ passed_below pool t it k
  unfolding passed_below
  passed_some k z = sym (ap (λ (b : Bool). b || ltb (key_of pool t (cursor it.depth it.interval_i (it.slice_offset - 1))).key k) (ne_eqb it.slice_offset 0 z))

-- ---- choices

pub or_here : (a b : Bool) → a ≡ true → true ≡ (a || b)
or_here a b e = sym (ap (λ (c : Bool). c || b) e)

or_there : (a b : Bool) → a ≡ false → b ≡ (a || b)
or_there a b e = sym (ap (λ (c : Bool). c || b) e)

module _ (sp : List ℕ) (s : ColumnTrie) (mp : List ℕ) (m : ColumnTrie) (it : LaidIter) where
  pub abreast_by : (k : ℕ) → passed_below sp s it.school k ≡ true → {r : Bool} → r ≡ passed_below mp m it.maker k → r ≡ abreast sp s mp m it k
  unfolding abreast
  abreast_by k e {r} f = gate_open (passed_below sp s it.school k) (passed_below mp m it.maker k) r e f

  -- ---- below the root

  abbrev a : KeyAnswer
  a = key_of sp s (firsts sp s mp m it).school

  abbrev b : KeyAnswer
  b = key_of mp m (firsts sp s mp m it).maker

  below_by : owner_walks it (leads a b) ≡ true → {r : Bool} → r ≡ (not (least a b).found || abreast sp s mp m (firsts sp s mp m it) (least a b).key) → r ≡ below_root sp s mp m it
  unfolding below_root
  below_by e {r} f = gate_open (owner_walks it (leads a b)) (not (least a b).found || abreast sp s mp m (firsts sp s mp m it) (least a b).key) r e f

  pub below_ends : owner_walks it (leads a b) ≡ true → (least a b).found ≡ false → true ≡ below_root sp s mp m it
  below_ends e f = below_by e (or_here (not (least a b).found) (abreast sp s mp m (firsts sp s mp m it) (least a b).key) (ap not f))

  pub below_keys : owner_walks it (leads a b) ≡ true → (least a b).found ≡ true → {r : Bool} → r ≡ abreast sp s mp m (firsts sp s mp m it) (least a b).key → r ≡ below_root sp s mp m it
  below_keys e f g = below_by e (g ∙ or_there (not (least a b).found) (abreast sp s mp m (firsts sp s mp m it) (least a b).key) (ap not f))

  -- ---- the whole test

  abbrev together : Bool
  together = started s it.school && (started m it.maker && below_root sp s mp m it)

  abbrev above : Bool
  above = pair_at_root it || together

  module _ (z : refusal sp s it.school ≡ 0) (y : refusal mp m it.maker ≡ 0) where
    after_both : {r : Bool} → r ≡ above → r ≡ pair_stands sp s mp m it
    unfolding pair_stands
    after_both {r} e =
        gate_open (eqb (refusal sp s it.school) 0) (eqb (refusal mp m it.maker) 0 && above) r (eq-eqb (refusal sp s it.school) 0 z)
        (gate_open (eqb (refusal mp m it.maker) 0) above r (eq-eqb (refusal mp m it.maker) 0 y) e)

    pub stands_at_root : pair_at_root it ≡ true → true ≡ pair_stands sp s mp m it
    stands_at_root e = after_both (or_here (pair_at_root it) together e)

    pub stands_below_lem : pair_at_root it ≡ false → started s it.school ≡ true → started m it.maker ≡ true → {r : Bool} → r ≡ below_root sp s mp m it → r ≡ pair_stands sp s mp m it
    stands_below_lem n e f {r} g =
        after_both
        (gate_open (started s it.school) (started m it.maker && below_root sp s mp m it) r e (gate_open (started m it.maker) (below_root sp s mp m it) r f g) ∙
        or_there (pair_at_root it) together n)

  -- ---- the number

  pub unrefused : tables_number sp s mp m ≡ 0 → pair_stands sp s mp m it ≡ true → 0 ≡ pair_refusal sp s mp m it
  unfolding pair_refusal
  unrefused z e = sym (ap₂ {C = ℕ} (λ (x y : Bool). pick x (pick y 0 7) (tables_number sp s mp m)) (eq-eqb (tables_number sp s mp m) 0 z) e)
