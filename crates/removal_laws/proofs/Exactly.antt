-- The numbers of a removal are given exactly when document 02 says, and a row was there exactly when the tuple is accepted and among the rows: shown both
-- ways, from facts about pool, table and tuple to the answer, and back.
use Prim.Native.Nat.{ℕ, zero, suc}
use mathlib.Core.Path.{◌≡◌, refl, sym, subst, subst₂}
use mathlib.Core.Bool.{Bool, true, false}
use mathlib.Core.List.{List}
use native.Mathlib.Decide.{ℕ_discrete}
use lib.ListN.{length}
use lib.Dec.{eqb}
use borrow.Author.Tests.{eqb-true, eq-eqb}
use Rattle.relation.specs.Exactly.{Exactly}
use Rattle.relation.specs.Order.{Row}
use Rattle.relation.specs.Lists.{◌∈◌}
use Rattle.relation.proofs.Tests.{not_both, and_true, and_left, and_right}
use Rattle.column_trie.specs.Table.{rows_in, Undamaged, undamaged}
use Rattle.column_trie.specs.declared.ColumnTrie.{ColumnTrie}
use Rattle.column_trie.proofs.Damage.{undamaged_told, told_undamaged}
use Rattle.column_trie_path.specs.Known.{known}
use Rattle.column_trie_path.proofs.Known.{in_known, known_in}
use Rattle.insert_laws.proofs.Exactly.{SizedFor}
use Rattle.column_trie_remove.specs.declared.Removed.{Removed}
use Rattle.column_trie_remove.specs.Remove.{remove_number, takes_out, Removes}
use Rattle.column_trie_remove.proofs.Removes.{number_6, number_4, number_0}

-- the number n of a removal, and whether it says that the row was there
pub record Numbers (pool : List ℕ) (t : ColumnTrie) (tuple : Row) (n : ℕ) (there : Bool) : Type 0 where
  pub damaged : Exactly (n ≡ 6) (Undamaged pool t → ⊥)
  pub another_length : Exactly (n ≡ 4) (Undamaged pool t × (length tuple ≡ t.arity → ⊥))
  pub accepted : Exactly (n ≡ 0) (SizedFor pool t tuple)
  pub was_there : Exactly (there ≡ true) ((n ≡ 0) × (tuple ∈ rows_in pool t))

module _ (pool : List ℕ) (t : ColumnTrie) (tuple : Row) where
  abbrev number : ℕ
  number = remove_number pool t tuple

  -- ---- from the facts to the number

  six : (Undamaged pool t → ⊥) → number ≡ 6
  six n = go (undamaged pool t) refl
    where
      go : (b : Bool) → undamaged pool t ≡ b → number ≡ 6
      go true e = absurd (n (undamaged_told pool t e))
      go false e = number_6 pool t tuple e

  four : Undamaged pool t × (length tuple ≡ t.arity → ⊥) → number ≡ 4
  four h = number_4 pool t tuple (told_undamaged pool t h.0) h.1

  none : SizedFor pool t tuple → number ≡ 0
  none h = number_0 pool t tuple (told_undamaged pool t h.0) h.1

  -- ---- and back: one of them holds, with its number

  abbrev Facts : ℕ → Type 0
  Facts zero = SizedFor pool t tuple
  Facts (suc zero) = ⊥
  Facts (suc (suc zero)) = ⊥
  Facts (suc (suc (suc zero))) = ⊥
  Facts (suc (suc (suc (suc zero)))) = Undamaged pool t × (length tuple ≡ t.arity → ⊥)
  Facts (suc (suc (suc (suc (suc zero))))) = ⊥
  Facts (suc (suc (suc (suc (suc (suc zero)))))) = Undamaged pool t → ⊥
  Facts (suc (suc (suc (suc (suc (suc (suc n))))))) = ⊥

  so : {n : ℕ} → number ≡ n → Facts n → Facts number
  so e f = subst Facts (sym e) f

  checked : Facts number
  checked = by_damage (undamaged pool t) refl
    where
      by_length : Undamaged pool t → Dec (length tuple ≡ t.arity) → Facts number
      by_length u (yes e) = so (none (u, e)) (u, e)
      by_length u (no n) = so (four (u, n)) (u, n)

      by_damage : (b : Bool) → undamaged pool t ≡ b → Facts number
      by_damage true e = by_length (undamaged_told pool t e) (ℕ_discrete (length tuple) t.arity)
      by_damage false e = let n : Undamaged pool t → ⊥ = λ u. not_both (undamaged pool t) (told_undamaged pool t u) e in so (six n) n

  -- ---- there

  pub there_tells : takes_out pool t tuple ≡ true → (number ≡ 0) × (tuple ∈ rows_in pool t)
  unfolding takes_out
  there_tells e =
      let k = known (rows_in pool t) tuple in
      let b = eqb number 0 in
      (eqb-true number 0 (and_left b k e), known_in (rows_in pool t) tuple (and_right b k e))

  there_told : (number ≡ 0) × (tuple ∈ rows_in pool t) → takes_out pool t tuple ≡ true
  unfolding takes_out
  there_told h = and_true (eqb number 0) (known (rows_in pool t) tuple) (eq-eqb number 0 h.0) (in_known h.1)

  numbers : Numbers pool t tuple number (takes_out pool t tuple)
  numbers =
      record {
        damaged = (λ e. subst Facts e checked, six);
        another_length = (λ e. subst Facts e checked, four);
        accepted = (λ e. subst Facts e checked, none);
        was_there = (there_tells, there_told);
      }

pub each_number_of_a_removal_is_given_exactly_when : {pool pool' : List ℕ} {t : ColumnTrie} {tuple : Row} {r : Removed} → Removes pool pool' t tuple r → Numbers pool t tuple r.number r.was_there
each_number_of_a_removal_is_given_exactly_when {pool} {pool'} {t} {tuple} s = subst₂ (Numbers pool t tuple) (sym s.number) (sym s.was_there) (numbers pool t tuple)
