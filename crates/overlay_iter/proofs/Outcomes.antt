-- The ways out of a call that is not refused: the school's walks, the maker's walks, or both stand among the first keys.
use Prim.Native.Nat.{ℕ, ◌≤◌, ◌<◌}
use mathlib.Core.Path.{◌≡◌, refl, sym, ap₂, ◌∙◌}
use mathlib.Core.Bool.{Bool, true, false}
use mathlib.Core.List.{List}
use lib.Dec.{ltb}
use borrow.Author.Tests.{lt-ltb, le-ltb}
use Rattle.relation.specs.Order.{pick}
use Rattle.column_trie.specs.declared.ColumnTrie.{ColumnTrie}
use Rattle.column_trie_place.specs.Checks.{unless}
use Rattle.column_trie_place.proofs.Rests.{answers}
use Rattle.column_trie_iter.specs.Cursor.{key_of, open_of}
use Rattle.column_trie_iter.specs.declared.KeyAnswer.{KeyAnswer}
use Rattle.overlay_checks.specs.declared.Side.TheVariants.{School, Maker}
use Rattle.laid_iter.specs.Cursors.{pair_at_root}
use Rattle.overlay_place.specs.Pairs.{leads, pair_refusal}
use Rattle.laid_iter.specs.declared.LaidIter.{LaidIter}
use Rattle.overlay_iter.specs.Calls.{by_walker, one_opened, both_opened, first_opened}
use Rattle.overlay_iter.specs.declared.LaidOpenAnswer.{LaidOpenAnswer}

module _ {A : Type 0} (sp : List ℕ) (s : ColumnTrie) (mp : List ℕ) (m : ColumnTrie) (it : LaidIter) (deny : ℕ → A) (x y z : A) where
  abbrev outcome : A
  outcome = unless (pair_refusal sp s mp m it) deny (by_walker it x y z)

  module _ {n : ℕ} (e : n ≡ pair_refusal sp s mp m it) (f : n ≡ 0) where
    by_depths : (b c : Bool) → ltb 1 it.school.depth ≡ b → ltb 1 it.maker.depth ≡ c → pick b x (pick c y z) ≡ outcome
    by_depths b c p q = sym (ap₂ {C = A} (λ (d g : Bool). pick d x (pick g y z)) p q) ∙ answers deny (by_walker it x y z) (sym e ∙ f)

    pub when_school : 1 < it.school.depth → x ≡ outcome
    when_school h = by_depths true (ltb 1 it.maker.depth) (lt-ltb 1 it.school.depth h) refl

    pub when_maker : it.school.depth ≤ 1 → 1 < it.maker.depth → y ≡ outcome
    when_maker h k = by_depths false true (le-ltb 1 it.school.depth h) (lt-ltb 1 it.maker.depth k)

    pub when_both : it.school.depth ≤ 1 → it.maker.depth ≤ 1 → z ≡ outcome
    when_both h k = by_depths false false (le-ltb 1 it.school.depth h) (le-ltb 1 it.maker.depth k)

-- ---- among the first keys

module _ (sp : List ℕ) (s : ColumnTrie) (mp : List ℕ) (m : ColumnTrie) (it : LaidIter) where
  abbrev a : KeyAnswer
  a = key_of sp s it.school

  abbrev b : KeyAnswer
  b = key_of mp m it.maker

  by_owner : (c d : Bool) → pair_at_root it ≡ c → leads a b ≡ d → pick c (both_opened (open_of sp s it.school) (open_of mp m it.maker)) (pick d (one_opened School it (open_of sp s it.school)) (one_opened Maker it (open_of mp m it.maker))) ≡ first_opened sp s mp m it
  unfolding first_opened
  by_owner c d p q = sym (ap₂ {C = LaidOpenAnswer} (λ (g h : Bool). pick g (both_opened (open_of sp s it.school) (open_of mp m it.maker)) (pick h (one_opened School it (open_of sp s it.school)) (one_opened Maker it (open_of mp m it.maker)))) p q)

  pub opens_both : pair_at_root it ≡ true → both_opened (open_of sp s it.school) (open_of mp m it.maker) ≡ first_opened sp s mp m it
  opens_both p = by_owner true (leads a b) p refl

  pub opens_school : pair_at_root it ≡ false → leads a b ≡ true → one_opened School it (open_of sp s it.school) ≡ first_opened sp s mp m it
  opens_school p q = by_owner false true p q

  pub opens_maker : pair_at_root it ≡ false → leads a b ≡ false → one_opened Maker it (open_of mp m it.maker) ≡ first_opened sp s mp m it
  opens_maker p q = by_owner false false p q
