-- What the first checks of an insert and of a removal tell of the table and the tuple.
use Prim.Native.Nat.{ℕ}
use mathlib.Core.Path.{◌≡◌, refl}
use mathlib.Core.Bool.{Bool, true, false}
use mathlib.Core.List.{List}
use native.Mathlib.Omega.{arith}
use lib.ListN.{length}
use lib.Dec.{eqb}
use borrow.Author.Tests.{eqb-true, eq-eqb, ne_eqb}
use Rattle.relation.specs.Order.{Row, pick}
use Rattle.column_trie.specs.Table.{undamaged}
use Rattle.column_trie.specs.declared.ColumnTrie.{ColumnTrie}
use Rattle.column_trie_path.specs.Check.{tuple_number}

module _ (pool : List ℕ) (t : ColumnTrie) (tuple : Row) where
  pub damaged : undamaged pool t ≡ false → 6 ≡ tuple_number pool t tuple
  unfolding tuple_number
  damaged e = simp e

  pub another_length : undamaged pool t ≡ true → (length tuple ≡ t.arity → ⊥) → 4 ≡ tuple_number pool t tuple
  unfolding tuple_number
  another_length sound n = simp (sound, ne_eqb (length tuple) t.arity n)

  pub neither : undamaged pool t ≡ true → length tuple ≡ t.arity → 0 ≡ tuple_number pool t tuple
  unfolding tuple_number
  neither sound e = simp (sound, eq-eqb (length tuple) t.arity e)

  pub accepted : 0 ≡ tuple_number pool t tuple → (undamaged pool t ≡ true) × (length tuple ≡ t.arity)
  unfolding tuple_number
  accepted = go (undamaged pool t) (eqb (length tuple) t.arity) (eqb-true (length tuple) t.arity)
    where
      go : (b c : Bool) → (c ≡ true → length tuple ≡ t.arity) → ◌≡◌ {A = ℕ} 0 (pick b (pick c 0 4) 6) → (b ≡ true) × (length tuple ≡ t.arity)
      go true true f e = (refl, f refl)
      go true false f e = absurd (omega arith)
      go false c f e = absurd (omega arith)
