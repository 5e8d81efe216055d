-- Each number of the laid-over cursor's calls is given exactly when document 02 says: 6 for damage in either table, 17 for another shape, 7 for a pair that is no
-- state; and every call gives that number.
use Prim.Native.Nat.{ℕ}
use mathlib.Core.Path.{◌≡◌, refl}
use mathlib.Core.Bool.{Bool, true, false, false≢true}
use mathlib.Core.Logic.{◌⊎◌}
use mathlib.Core.List.{List}
use native.Mathlib.Omega.{arith}
use lib.Dec.{eqb}
use Rattle.relation.specs.Order.{pick}
use Rattle.relation.specs.Exactly.{Exactly}
use Rattle.relation.proofs.Sequence.{exactly_then, exactly_same, here, later, here_or_later, neither}
use Rattle.column_trie.specs.Table.{Undamaged, undamaged, rows_in}
use Rattle.column_trie.specs.declared.ColumnTrie.{ColumnTrie}
use Rattle.column_trie.proofs.Damage.{undamaged_told, told_undamaged}
use Rattle.laid_over.specs.Shape.{same_shape, SameShape}
use Rattle.laid_over.proofs.Shape.{shape_decides}
use Rattle.trie_iterator.specs.TrieIterator.{State}
use Rattle.overlay_checks.specs.Tables.{tables_number}
use Rattle.overlay_checks.proofs.Tables.{clear_number}
use Rattle.overlay_place.specs.Pairs.{pair_stands, pair_refusal}
use Rattle.laid_iter.specs.declared.LaidIter.{LaidIter}
use Rattle.overlay_walk.specs.Walk.{LaidStands}
use Rattle.overlay_walk.proofs.Decides.{the_test_decides_exactly_the_states}

module _ (sp : List ℕ) (s : ColumnTrie) (mp : List ℕ) (m : ColumnTrie) (it : LaidIter) where
  -- the pair stands at some state of the iterator over the rows that count
  abbrev pub IsState : Type 0
  IsState = (u : State) × LaidStands s m (rows_in sp s) (rows_in mp m) u it

  -- the number n of a call
  pub record Numbers (n : ℕ) : Type 0 where
    pub damaged : Exactly (n ≡ 6) ((Undamaged sp s → ⊥) ⊎ (Undamaged sp s × (Undamaged mp m → ⊥)))
    pub other_shape : Exactly (n ≡ 17) (Undamaged sp s × (Undamaged mp m × (SameShape s m → ⊥)))
    pub no_state : Exactly (n ≡ 7) (Undamaged sp s × (Undamaged mp m × (SameShape s m × (IsState → ⊥))))
    pub accepted : Exactly (n ≡ 0) (Undamaged sp s × (Undamaged mp m × (SameShape s m × IsState)))

  abbrev tests : Bool → Bool → Bool → Bool → ℕ
  tests a b c d = pick a (pick b (pick c (pick d 0 7) 17) 6) 6

  in_sequence : pair_refusal sp s mp m it ≡ tests (undamaged sp s) (undamaged mp m) (same_shape s m) (pair_stands sp s mp m it)
  unfolding pair_refusal tables_number
  in_sequence = go (undamaged sp s) (undamaged mp m) (same_shape s m)
    where
      go : (a b c : Bool) → let n : ℕ = pick a (pick b (pick c 0 17) 6) 6 in pick (eqb n 0) (pick (pair_stands sp s mp m it) 0 7) n ≡ tests a b c (pair_stands sp s mp m it)
      go true true true = refl
      go true true false = refl
      go true false c = refl
      go false b c = refl

  school_decides : Exactly (undamaged sp s ≡ true) (Undamaged sp s)
  school_decides = (undamaged_told sp s, told_undamaged sp s)

  maker_decides : Exactly (undamaged mp m ≡ true) (Undamaged mp m)
  maker_decides = (undamaged_told mp m, told_undamaged mp m)

  pair_decides : Undamaged sp s → Undamaged mp m → SameShape s m → Exactly (pair_stands sp s mp m it ≡ true) IsState
  pair_decides a b c =
      the_test_decides_exactly_the_states sp s mp m (clear_number sp s mp m (record { school = told_undamaged sp s a; maker = told_undamaged mp m b; shape = (shape_decides s m).1 c })) it

  abbrev fourth : ℕ
  fourth = pick (pair_stands sp s mp m it) 0 7

  abbrev third : ℕ
  third = pick (same_shape s m) fourth 17

  abbrev second : ℕ
  second = pick (undamaged mp m) third 6

  by : {P : Type 0} (n : ℕ) → Exactly (pick (undamaged sp s) second 6 ≡ n) P → Exactly (pair_refusal sp s mp m it ≡ n) P
  by n f = exactly_then (exactly_same in_sequence) f

  -- an answer of the last check, behind the other three
  behind : {Q : Type 0} (n : ℕ) → (6 ≡ n → ⊥) → (17 ≡ n → ⊥) → (Undamaged sp s → Undamaged mp m → SameShape s m → Exactly (fourth ≡ n) Q) → Exactly (pair_refusal sp s mp m it ≡ n) (Undamaged sp s × (Undamaged mp m × (SameShape s m × Q)))
  behind n f g h = by n (later (undamaged sp s) school_decides 6 second n f (λ p. later (undamaged mp m) maker_decides 6 third n f (λ q. later (same_shape s m) (shape_decides s m) 17 fourth n g (λ r. h p q r))))

  zero_exactly : (b : Bool) {P : Type 0} → Exactly (b ≡ true) P → Exactly (◌≡◌ {A = ℕ} (pick b 0 7) 0) P
  zero_exactly true f = (λ e. f.0 refl, λ p. refl)
  zero_exactly false f = (λ e. absurd (omega arith), λ p. absurd (false≢true (f.1 p)))

  pub each_number_exactly : Numbers (pair_refusal sp s mp m it)
  each_number_exactly =
      record {
        damaged = by 6 (here_or_later (undamaged sp s) school_decides 6 second (λ p. here (undamaged mp m) maker_decides 6 third (neither (same_shape s m) 17 fourth 6 (λ e. omega arith) (neither (pair_stands sp s mp m it) 7 0 6 (λ e. omega arith) (λ e. omega arith)))));
        other_shape = by 17 (later (undamaged sp s) school_decides 6 second 17 (λ e. omega arith) (λ p. later (undamaged mp m) maker_decides 6 third 17 (λ e. omega arith) (λ q. here (same_shape s m) (shape_decides s m) 17 fourth (neither (pair_stands sp s mp m it) 7 0 17 (λ e. omega arith) (λ e. omega arith)))));
        no_state = behind 7 (λ e. omega arith) (λ e. omega arith) (λ p q r. here (pair_stands sp s mp m it) (pair_decides p q r) 7 0 (λ e. omega arith));
        accepted = behind 0 (λ e. omega arith) (λ e. omega arith) (λ p q r. zero_exactly (pair_stands sp s mp m it) (pair_decides p q r));
      }
