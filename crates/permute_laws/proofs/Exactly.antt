-- The numbers of a rebuild are given exactly when document 02 says, shown both ways: from facts about the arguments to the number, and back.
use Prim.Native.Nat.{ℕ, ◌+◌, ◌*◌, ◌≤◌, ◌<◌}
use mathlib.Core.Path.{◌≡◌, refl, sym, ap, subst}
use mathlib.Core.Bool.{Bool, true, false}
use mathlib.Core.Logic.{◌⊎◌, inl, inr}
use mathlib.Core.List.{List}
use native.Mathlib.Omega.{arith}
use native.Mathlib.Decide.{dec_lt}
use lib.ListN.{length, take}
use borrow.Author.Tests.{le-leb, lt-leb}
use Rattle.relation.specs.Exactly.{Exactly}
use Rattle.relation.proofs.Tests.{not_both}
use Rattle.query.specs.Meaning.{Permutation}
use Rattle.query.specs.Checks.{permutes}
use Rattle.query.proofs.Checks.{permutes_true, true_permutes, permutes_false}
use Rattle.column_trie.specs.Limits.{max_capacity}
use Rattle.column_trie.specs.Table.{Undamaged, undamaged}
use Rattle.column_trie.specs.declared.ColumnTrie.{ColumnTrie}
use Rattle.column_trie.proofs.Damage.{undamaged_told, told_undamaged}
use Rattle.from_sorted.specs.declared.Built.{Built}
use Rattle.from_sorted.proofs.Ranges.{From1To, Off, on, off, either}
use Rattle.column_trie_permute.specs.Permute.{permute_number, Permutes}
use Rattle.column_trie_permute.proofs.Numbers.{number_6, number_8, number_2, number_3, number_5, number_0}

-- the first numbers are a permutation of the table's columns; those past the arity are not looked at
abbrev pub Columns : ColumnTrie → List ℕ → Type 0
Columns t columns = Permutation t.arity (take t.arity columns)

-- the number n of a rebuild into a pool of len words: each exactly when its own check is the first to fail, and 0 exactly when none fails
pub record Numbers (pool : List ℕ) (t : ColumnTrie) (columns : List ℕ) (len start capacity n : ℕ) : Type 0 where
  pub damaged : Exactly (n ≡ 6) (Undamaged pool t → ⊥)
  pub no_permutation : Exactly (n ≡ 8) (Undamaged pool t × (Columns t columns → ⊥))
  pub capacity_off : Exactly (n ≡ 2) (Undamaged pool t × Columns t columns × Off max_capacity capacity)
  pub not_in_pool : Exactly (n ≡ 3) (Undamaged pool t × Columns t columns × From1To max_capacity capacity × (len < start + 2 * t.arity * capacity))
  pub too_many_rows : Exactly (n ≡ 5) (Undamaged pool t × Columns t columns × From1To max_capacity capacity × (start + 2 * t.arity * capacity ≤ len) × (capacity < t.tuple_count))
  pub accepted : Exactly (n ≡ 0) (Undamaged pool t × Columns t columns × From1To max_capacity capacity × (start + 2 * t.arity * capacity ≤ len) × (t.tuple_count ≤ capacity))

module _ (pool : List ℕ) (t : ColumnTrie) (columns : List ℕ) (len start capacity : ℕ) where
  abbrev number : ℕ
  number = permute_number pool t columns len start capacity

  abbrev ends : ℕ
  ends = start + 2 * t.arity * capacity

  good : Columns t columns → permutes t.arity (take t.arity columns) ≡ true
  good p = true_permutes t.arity (take t.arity columns) p

  -- ---- from the facts to the number

  six : (Undamaged pool t → ⊥) → number ≡ 6
  six n = go (undamaged pool t) refl
    where
      go : (b : Bool) → undamaged pool t ≡ b → number ≡ 6
      go true e = absurd (n (undamaged_told pool t e))
      go false e = sym (number_6 pool t columns len start capacity e)

  eight : Undamaged pool t × (Columns t columns → ⊥) → number ≡ 8
  eight (u, n) = sym (number_8 pool t columns len start capacity (told_undamaged pool t u) (permutes_false t.arity (take t.arity columns) n))

  two : Undamaged pool t × Columns t columns × Off max_capacity capacity → number ≡ 2
  two (u, p, h) = sym (number_2 pool t columns len start capacity (told_undamaged pool t u) (good p) (off max_capacity capacity h))

  three : Undamaged pool t × Columns t columns × From1To max_capacity capacity × (len < ends) → number ≡ 3
  three (u, p, c, h) = sym (number_3 pool t columns len start capacity (told_undamaged pool t u) (good p) (on max_capacity capacity c) (lt-leb ends len h))

  five : Undamaged pool t × Columns t columns × From1To max_capacity capacity × (ends ≤ len) × (capacity < t.tuple_count) → number ≡ 5
  five (u, p, c, l, h) = sym (number_5 pool t columns len start capacity (told_undamaged pool t u) (good p) (on max_capacity capacity c) (le-leb ends len l) h)

  none : Undamaged pool t × Columns t columns × From1To max_capacity capacity × (ends ≤ len) × (t.tuple_count ≤ capacity) → number ≡ 0
  none (u, p, c, l, h) = sym (number_0 pool t columns len start capacity (told_undamaged pool t u) (good p) (on max_capacity capacity c) (le-leb ends len l) h)

  -- ---- and back: one of them holds, with its number, and so no other has it

  numbers : Numbers pool t columns len start capacity number
  numbers = by_damage (undamaged pool t) refl
    where
      all :
          (number ≡ 6 → Undamaged pool t → ⊥) → (number ≡ 8 → Undamaged pool t × (Columns t columns → ⊥)) → (number ≡ 2 → Undamaged pool t × Columns t columns × Off max_capacity capacity) →
          (number ≡ 3 → Undamaged pool t × Columns t columns × From1To max_capacity capacity × (len < ends)) →
          (number ≡ 5 → Undamaged pool t × Columns t columns × From1To max_capacity capacity × (ends ≤ len) × (capacity < t.tuple_count)) →
          (number ≡ 0 → Undamaged pool t × Columns t columns × From1To max_capacity capacity × (ends ≤ len) × (t.tuple_count ≤ capacity)) → Numbers pool t columns len start capacity number
      all a b c d e f = record { damaged = (a, six); no_permutation = (b, eight); capacity_off = (c, two); not_in_pool = (d, three); too_many_rows = (e, five); accepted = (f, none) }

      by_rows : Undamaged pool t → Columns t columns → From1To max_capacity capacity → ends ≤ len → Dec (capacity < t.tuple_count) → Numbers pool t columns len start capacity number
      by_rows u p c l (yes h) =
          let z = five (u, p, c, l, h) in
          all (λ e. absurd (omega (arith, z, e))) (λ e. absurd (omega (arith, z, e))) (λ e. absurd (omega (arith, z, e))) (λ e. absurd (omega (arith, z, e))) (λ e. (u, p, c, l, h)) (λ e. absurd (omega (arith, z, e)))
      by_rows u p c l (no h) =
          let m : t.tuple_count ≤ capacity = omega (arith, h) in
          let z = none (u, p, c, l, m) in
          all (λ e. absurd (omega (arith, z, e))) (λ e. absurd (omega (arith, z, e))) (λ e. absurd (omega (arith, z, e))) (λ e. absurd (omega (arith, z, e))) (λ e. absurd (omega (arith, z, e))) (λ e. (u, p, c, l, m))

      by_pool : Undamaged pool t → Columns t columns → From1To max_capacity capacity → Dec (len < ends) → Numbers pool t columns len start capacity number
      by_pool u p c (yes h) =
          let z = three (u, p, c, h) in
          all (λ e. absurd (omega (arith, z, e))) (λ e. absurd (omega (arith, z, e))) (λ e. absurd (omega (arith, z, e))) (λ e. (u, p, c, h)) (λ e. absurd (omega (arith, z, e))) (λ e. absurd (omega (arith, z, e)))
      by_pool u p c (no h) = by_rows u p c (omega (arith, h)) (dec_lt capacity t.tuple_count)

      by_capacity : Undamaged pool t → Columns t columns → From1To max_capacity capacity ⊎ Off max_capacity capacity → Numbers pool t columns len start capacity number
      by_capacity u p (inl c) = by_pool u p c (dec_lt len ends)
      by_capacity u p (inr c) =
          let z = two (u, p, c) in
          all (λ e. absurd (omega (arith, z, e))) (λ e. absurd (omega (arith, z, e))) (λ e. (u, p, c)) (λ e. absurd (omega (arith, z, e))) (λ e. absurd (omega (arith, z, e))) (λ e. absurd (omega (arith, z, e)))

      by_columns : Undamaged pool t → (b : Bool) → permutes t.arity (take t.arity columns) ≡ b → Numbers pool t columns len start capacity number
      by_columns u true e = by_capacity u (permutes_true t.arity (take t.arity columns) e) (either max_capacity capacity)
      by_columns u false e =
          let n : Columns t columns → ⊥ = λ p. not_both (permutes t.arity (take t.arity columns)) (good p) e in
          let z = eight (u, n) in
          all (λ e. absurd (omega (arith, z, e))) (λ e. (u, n)) (λ e. absurd (omega (arith, z, e))) (λ e. absurd (omega (arith, z, e))) (λ e. absurd (omega (arith, z, e))) (λ e. absurd (omega (arith, z, e)))

      by_damage : (b : Bool) → undamaged pool t ≡ b → Numbers pool t columns len start capacity number
      by_damage true e = by_columns (undamaged_told pool t e) (permutes t.arity (take t.arity columns)) refl
      by_damage false e =
          let n : Undamaged pool t → ⊥ = λ u. not_both (undamaged pool t) (told_undamaged pool t u) e in
          let z = six n in
          all (λ e. n) (λ e. absurd (omega (arith, z, e))) (λ e. absurd (omega (arith, z, e))) (λ e. absurd (omega (arith, z, e))) (λ e. absurd (omega (arith, z, e))) (λ e. absurd (omega (arith, z, e)))

pub each_number_of_a_rebuild_is_given_exactly_when : {pool : List ℕ} {t : ColumnTrie} {columns into : List ℕ} {start capacity : ℕ} {into' : List ℕ} {r : Built} → Permutes pool t columns into start capacity into' r → Numbers pool t columns (length into) start capacity r.number
each_number_of_a_rebuild_is_given_exactly_when {pool} {t} {columns} {into} {start} {capacity} b = subst (Numbers pool t columns (length into) start capacity) (sym (ap (λ (x : Built). x.number) b.answer)) (numbers pool t columns (length into) start capacity)
