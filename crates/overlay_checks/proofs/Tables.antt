-- The number of two tables by its three tests, and what no number tells.
use Prim.Native.Nat.{ℕ}
use mathlib.Core.Path.{◌≡◌, refl, sym}
use mathlib.Core.Bool.{Bool, true, false}
use mathlib.Core.List.{List}
use native.Mathlib.Omega.{arith}
use Rattle.relation.specs.Order.{pick}
use Rattle.column_trie.specs.Table.{undamaged}
use Rattle.column_trie.specs.declared.ColumnTrie.{ColumnTrie}
use Rattle.laid_over.specs.Shape.{same_shape}
use Rattle.overlay_checks.specs.Tables.{tables_number}

-- both undamaged, and of one shape
pub record Clear (sp : List ℕ) (s : ColumnTrie) (mp : List ℕ) (m : ColumnTrie) : Type 0 where
  pub school : undamaged sp s ≡ true
  pub maker : undamaged mp m ≡ true
  pub shape : same_shape s m ≡ true

abbrev tests : Bool → Bool → Bool → ℕ
tests a b c = pick a (pick b (pick c 0 17) 6) 6

module _ (sp : List ℕ) (s : ColumnTrie) (mp : List ℕ) (m : ColumnTrie) where
  pub number_is : (a b c : Bool) → undamaged sp s ≡ a → undamaged mp m ≡ b → same_shape s m ≡ c → tests a b c ≡ tables_number sp s mp m
  unfolding tables_number
  number_is a b c p q r = sym (rw (p, q, r) refl)

  pub number_clear : tables_number sp s mp m ≡ 0 → Clear sp s mp m
  number_clear e = go (undamaged sp s) (undamaged mp m) (same_shape s m) refl refl refl
    where
      go : (a b c : Bool) → undamaged sp s ≡ a → undamaged mp m ≡ b → same_shape s m ≡ c → Clear sp s mp m
      go true true true p q r = record { school = p; maker = q; shape = r }
      go true true false p q r = absurd (omega (arith, e, number_is true true false p q r))
      go true false c p q r = absurd (omega (arith, e, number_is true false c p q r))
      go false b c p q r = absurd (omega (arith, e, number_is false b c p q r))

  pub clear_number : Clear sp s mp m → tables_number sp s mp m ≡ 0
  clear_number c = sym (number_is true true true c.school c.maker c.shape)
