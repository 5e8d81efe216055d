-- The numbers of a write are given exactly when document 02 says, shown both ways: from facts about table and bytes to the number, and back.
use Prim.Native.Nat.{ℕ, ◌≤◌, ◌<◌}
use mathlib.Core.Path.{◌≡◌, refl, sym, subst}
use mathlib.Core.Bool.{Bool, true, false}
use mathlib.Core.List.{List}
use native.Mathlib.Omega.{arith}
use native.Mathlib.Decide.{dec_lt}
use lib.ListN.{length}
use Rattle.relation.specs.Exactly.{Exactly}
use Rattle.relation.proofs.Tests.{not_both}
use Rattle.column_trie.specs.Table.{Undamaged, undamaged}
use Rattle.column_trie.specs.declared.ColumnTrie.{ColumnTrie}
use Rattle.column_trie.proofs.Damage.{undamaged_told, told_undamaged}
use Rattle.file_write.specs.declared.FileWritten.{FileWritten}
use Rattle.file_write.specs.Write.{file_in, write_number, Writes}
use Rattle.file_write.proofs.Files.{number_6, number_14, number_0}

-- the number n of a write into these bytes
pub record WriteNumbers (pool : List ℕ) (t : ColumnTrie) (bytes : List ℕ) (n : ℕ) : Type 0 where
  pub damaged : Exactly (n ≡ 6) (Undamaged pool t → ⊥)
  pub too_long : Exactly (n ≡ 14) (Undamaged pool t × (length bytes < length (file_in pool t)))
  pub accepted : Exactly (n ≡ 0) (Undamaged pool t × (length (file_in pool t) ≤ length bytes))

module _ (pool : List ℕ) (t : ColumnTrie) (bytes : List ℕ) where
  abbrev number : ℕ
  number = write_number pool t (length bytes)

  abbrev long : ℕ
  long = length (file_in pool t)

  -- ---- from the facts to the number

  six : (Undamaged pool t → ⊥) → number ≡ 6
  six n = go (undamaged pool t) refl
    where
      go : (b : Bool) → undamaged pool t ≡ b → number ≡ 6
      go true e = absurd (n (undamaged_told pool t e))
      go false e = number_6 pool t (length bytes) e

  fourteen : Undamaged pool t × (length bytes < long) → number ≡ 14
  fourteen h = number_14 pool t (length bytes) (told_undamaged pool t h.0) h.1

  none : Undamaged pool t × (long ≤ length bytes) → number ≡ 0
  none h = number_0 pool t (length bytes) (told_undamaged pool t h.0) h.1

  -- ---- and back: one of them holds, and its number is no other's

  numbers : WriteNumbers pool t bytes number
  numbers = by_damage (undamaged pool t) refl
    where
      all : (number ≡ 6 → Undamaged pool t → ⊥) → (number ≡ 14 → Undamaged pool t × (length bytes < long)) → (number ≡ 0 → Undamaged pool t × (long ≤ length bytes)) → WriteNumbers pool t bytes number
      all a b c = record { damaged = (a, six); too_long = (b, fourteen); accepted = (c, none) }

      by_length : Undamaged pool t → Dec (length bytes < long) → WriteNumbers pool t bytes number
      by_length u (yes h) = let z = fourteen (u, h) in all (λ e. absurd (omega arith)) (λ e. (u, h)) (λ e. absurd (omega arith))
      by_length u (no h) = let z = none (u, omega arith) in all (λ e. absurd (omega arith)) (λ e. absurd (omega arith)) (λ e. (u, omega arith))

      by_damage : (b : Bool) → undamaged pool t ≡ b → WriteNumbers pool t bytes number
      by_damage true e = by_length (undamaged_told pool t e) (dec_lt (length bytes) long)
      by_damage false e =
          let n : Undamaged pool t → ⊥ = λ u. not_both (undamaged pool t) (told_undamaged pool t u) e in
          let z = six n in
          all (λ e. n) (λ e. absurd (omega arith)) (λ e. absurd (omega arith))

pub each_number_of_a_write_is_given_exactly_when : {pool bytes bytes' : List ℕ} {t : ColumnTrie} {r : FileWritten} → Writes pool t bytes bytes' r → WriteNumbers pool t bytes r.number
each_number_of_a_write_is_given_exactly_when {pool} {bytes} {bytes'} {t} w = subst (WriteNumbers pool t bytes) (sym w.number) (numbers pool t bytes)
