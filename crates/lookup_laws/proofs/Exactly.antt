-- Each number of a lookup is given exactly when document 02 says: shown both ways, from facts about pools and tables to the number, and back.
use Prim.Native.Nat.{ℕ, ◌≤◌}
use mathlib.Core.Path.{◌≡◌, refl, sym, ap, ◌∙◌}
use mathlib.Core.Bool.{Bool, true, false, not, false≢true}
use mathlib.Core.Logic.{◌⊎◌}
use mathlib.Core.List.{List}
use native.Mathlib.Omega.{arith}
use lib.Dec.{eqb, ltb, leb}
use borrow.Author.Tests.{leb-true, leb-false, le-leb, lt-ltb, le-ltb}
use Rattle.relation.specs.Order.{pick}
use Rattle.relation.specs.Exactly.{Exactly}
use Rattle.relation.proofs.Sequence.{exactly_then, exactly_same, here, later, here_or_later, neither}
use Rattle.column_trie.specs.Table.{Undamaged, undamaged}
use Rattle.column_trie.specs.declared.ColumnTrie.{ColumnTrie}
use Rattle.column_trie.proofs.Damage.{undamaged_told, told_undamaged}
use Rattle.laid_over.specs.Shape.{same_shape, SameShape}
use Rattle.laid_over.proofs.Shape.{shape_decides}
use Rattle.overlay_checks.specs.Tables.{tables_number}
use Rattle.overlay_lookup.specs.Lookup.{lookup_number}

module _ (sp : List ℕ) (s : ColumnTrie) (mp : List ℕ) (m : ColumnTrie) where
  -- the number n of a lookup
  pub record Numbers (n : ℕ) : Type 0 where
    pub damaged : Exactly (n ≡ 6) ((Undamaged sp s → ⊥) ⊎ (Undamaged sp s × (Undamaged mp m → ⊥)))
    pub other_shape : Exactly (n ≡ 17) (Undamaged sp s × (Undamaged mp m × (SameShape s m → ⊥)))
    pub one_column : Exactly (n ≡ 1) (Undamaged sp s × (Undamaged mp m × (SameShape s m × (2 ≤ s.arity → ⊥))))
    pub accepted : Exactly (n ≡ 0) (Undamaged sp s × (Undamaged mp m × (SameShape s m × (2 ≤ s.arity))))

  -- the checks in sequence
  abbrev tests : Bool → Bool → Bool → Bool → ℕ
  tests a b c d = pick a (pick b (pick c (pick d 0 1) 17) 6) 6

  in_sequence : lookup_number sp s mp m ≡ tests (undamaged sp s) (undamaged mp m) (same_shape s m) (leb 2 s.arity)
  unfolding lookup_number tables_number
  in_sequence = go (undamaged sp s) (undamaged mp m) (same_shape s m) ∙ ap (tests (undamaged sp s) (undamaged mp m) (same_shape s m)) turn
    where
      turn : not (ltb s.arity 2) ≡ leb 2 s.arity
      turn = flip (leb 2 s.arity) refl
        where
          flip : (b : Bool) → leb 2 s.arity ≡ b → not (ltb s.arity 2) ≡ leb 2 s.arity
          flip true e = ap not (le-ltb s.arity 2 (leb-true 2 s.arity e)) ∙ sym e
          flip false e = ap not (lt-ltb s.arity 2 (omega (arith, leb-false 2 s.arity e))) ∙ sym e

      last : (d : Bool) → ◌≡◌ {A = ℕ} (pick d 1 0) (pick (not d) 0 1)
      last true = refl
      last false = refl

      go : (a b c : Bool) → let n : ℕ = pick a (pick b (pick c 0 17) 6) 6 in pick (eqb n 0) (pick (ltb s.arity 2) 1 0) n ≡ tests a b c (not (ltb s.arity 2))
      go true true true = last (ltb s.arity 2)
      go true true false = refl
      go true false c = refl
      go false b c = refl

  school_decides : Exactly (undamaged sp s ≡ true) (Undamaged sp s)
  school_decides = (undamaged_told sp s, told_undamaged sp s)

  maker_decides : Exactly (undamaged mp m ≡ true) (Undamaged mp m)
  maker_decides = (undamaged_told mp m, told_undamaged mp m)

  arity_decides : Exactly (leb 2 s.arity ≡ true) (2 ≤ s.arity)
  arity_decides = (leb-true 2 s.arity, le-leb 2 s.arity)

  abbrev fourth : ℕ
  fourth = pick (leb 2 s.arity) 0 1

  abbrev third : ℕ
  third = pick (same_shape s m) fourth 17

  abbrev second : ℕ
  second = pick (undamaged mp m) third 6

  by : {P : Type 0} (n : ℕ) → Exactly (pick (undamaged sp s) second 6 ≡ n) P → Exactly (lookup_number sp s mp m ≡ n) P
  by n f = exactly_then (exactly_same in_sequence) f

  pub each_number_exactly : Numbers (lookup_number sp s mp m)
  each_number_exactly =
      record {
        damaged = by 6 (here_or_later (undamaged sp s) school_decides 6 second (λ p. here (undamaged mp m) maker_decides 6 third (neither (same_shape s m) 17 fourth 6 (λ e. omega arith) (neither (leb 2 s.arity) 1 0 6 (λ e. omega arith) (λ e. omega arith)))));
        other_shape = by 17 (later (undamaged sp s) school_decides 6 second 17 (λ e. omega arith) (λ p. later (undamaged mp m) maker_decides 6 third 17 (λ e. omega arith) (λ q. here (same_shape s m) (shape_decides s m) 17 fourth (neither (leb 2 s.arity) 1 0 17 (λ e. omega arith) (λ e. omega arith)))));
        one_column = by 1 (later (undamaged sp s) school_decides 6 second 1 (λ e. omega arith) (λ p. later (undamaged mp m) maker_decides 6 third 1 (λ e. omega arith) (λ q. later (same_shape s m) (shape_decides s m) 17 fourth 1 (λ e. omega arith) (λ r. here (leb 2 s.arity) arity_decides 1 0 (λ e. omega arith)))));
        accepted = by 0 (later (undamaged sp s) school_decides 6 second 0 (λ e. omega arith) (λ p. later (undamaged mp m) maker_decides 6 third 0 (λ e. omega arith) (λ q. later (same_shape s m) (shape_decides s m) 17 fourth 0 (λ e. omega arith) (λ r. zero_exactly (leb 2 s.arity) arity_decides))));
      }
    where
      zero_exactly : (b : Bool) {P : Type 0} → Exactly (b ≡ true) P → Exactly (◌≡◌ {A = ℕ} (pick b 0 1) 0) P
      zero_exactly true f = (λ e. f.0 refl, λ p. refl)
      zero_exactly false f = (λ e. absurd (omega arith), λ p. absurd (false≢true (f.1 p)))
