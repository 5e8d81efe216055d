-- The numbers of a build are given exactly when document 01 says, shown both ways: from facts about the arguments to the number, and back.
use Prim.Native.Nat.{ℕ, zero, suc, ◌+◌, ◌*◌, ◌/◌, ◌%◌, ◌≤◌, ◌<◌}
use mathlib.Core.Path.{◌≡◌, sym, ap, subst}
use mathlib.Core.Bool.{Bool, true}
use mathlib.Core.Logic.{◌⊎◌, inl, inr}
use mathlib.Core.List.{List}
use native.Mathlib.Omega.{arith}
use native.Mathlib.Decide.{dec_lt, ℕ_discrete}
use lib.ListN.{length}
use borrow.Author.Tests.{le-leb, lt-leb}
use Rattle.relation.specs.Exactly.{Exactly}
use Rattle.column_trie.specs.Limits.{max_arity, max_capacity}
use Rattle.column_trie.specs.Table.{lies_in}
use Rattle.from_sorted.specs.Given.{rows_given}
use Rattle.column_trie_build.specs.Build.{build_number, Builds}
use Rattle.from_sorted.specs.declared.Built.{Built}
use Rattle.column_trie_build.proofs.Numbers.{number_0, number_1, number_2, number_3, number_4, number_5}
use Rattle.from_sorted.proofs.Given.{length_given}
use Rattle.from_sorted.proofs.Ranges.{From1To, Off, on, off, either}

-- arity and capacity are in their limits
abbrev pub InLimits : ℕ → ℕ → Type 0
InLimits arity capacity = From1To max_arity arity × From1To max_capacity capacity

-- and the 2ac words lie in a pool of len words
abbrev pub InLimitsAndPool : ℕ → ℕ → ℕ → ℕ → Type 0
InLimitsAndPool len start arity capacity = InLimits arity capacity × (start + 2 * arity * capacity ≤ len)

-- the number n of a build: each exactly when its own check is the first to fail, and 0 exactly when none fails
pub record Numbers (given lent : List ℕ) (start arity capacity n : ℕ) : Type 0 where
  pub arity_off : Exactly (n ≡ 1) (Off max_arity arity)
  pub capacity_off : Exactly (n ≡ 2) (From1To max_arity arity × Off max_capacity capacity)
  pub not_in_pool : Exactly (n ≡ 3) (InLimits arity capacity × (length lent < start + 2 * arity * capacity))
  pub not_whole_rows : Exactly (n ≡ 4) (InLimitsAndPool (length lent) start arity capacity × (length given % arity ≡ 0 → ⊥))
  pub too_many_rows : Exactly (n ≡ 5) (InLimitsAndPool (length lent) start arity capacity × (length given % arity ≡ 0) × (capacity < length (rows_given arity given)))
  pub accepted : Exactly (n ≡ 0) (InLimitsAndPool (length lent) start arity capacity × (length given % arity ≡ 0) × (length (rows_given arity given) ≤ capacity))

module _ (given lent : List ℕ) (start arity capacity : ℕ) where
  abbrev number : ℕ
  number = build_number (length given) (length lent) start arity capacity

  rows_many : length (rows_given arity given) ≡ length given / arity
  rows_many = length_given arity given

  -- ---- from the facts to the number

  one : Off max_arity arity → number ≡ 1
  one h = sym (number_1 (length given) (length lent) start arity capacity (off max_arity arity h))

  two : From1To max_arity arity × Off max_capacity capacity → number ≡ 2
  two h = sym (number_2 (length given) (length lent) start arity capacity (on max_arity arity h.0) (off max_capacity capacity h.1))

  three : InLimits arity capacity × (length lent < start + 2 * arity * capacity) → number ≡ 3
  three h =
      sym (number_3 (length given) (length lent) start arity capacity (on max_arity arity h.0.0) (on max_capacity capacity h.0.1)
      (lt-leb (start + 2 * arity * capacity) (length lent) h.1))

  module _ (p : InLimitsAndPool (length lent) start arity capacity) where
    lies : lies_in (length lent) start arity capacity ≡ true
    lies = le-leb (start + 2 * arity * capacity) (length lent) p.1

    four : (length given % arity ≡ 0 → ⊥) → number ≡ 4
    four h = sym (number_4 (length given) (length lent) start arity capacity (on max_arity arity p.0.0) (on max_capacity capacity p.0.1) lies h)

    five : length given % arity ≡ 0 → capacity < length (rows_given arity given) → number ≡ 5
    five w h =
        sym (number_5 (length given) (length lent) start arity capacity (on max_arity arity p.0.0) (on max_capacity capacity p.0.1) lies w
        (omega (arith, rows_many)))

    none : length given % arity ≡ 0 → length (rows_given arity given) ≤ capacity → number ≡ 0
    none w h =
        sym (number_0 (length given) (length lent) start arity capacity (on max_arity arity p.0.0) (on max_capacity capacity p.0.1) lies w
        (omega (arith, rows_many)))

  -- ---- and back: one of them holds, with its number

  abbrev Facts : ℕ → Type 0
  Facts zero = InLimitsAndPool (length lent) start arity capacity × (length given % arity ≡ 0) × (length (rows_given arity given) ≤ capacity)
  Facts (suc zero) = Off max_arity arity
  Facts (suc (suc zero)) = From1To max_arity arity × Off max_capacity capacity
  Facts (suc (suc (suc zero))) = InLimits arity capacity × (length lent < start + 2 * arity * capacity)
  Facts (suc (suc (suc (suc zero)))) = InLimitsAndPool (length lent) start arity capacity × (length given % arity ≡ 0 → ⊥)
  Facts (suc (suc (suc (suc (suc zero))))) = InLimitsAndPool (length lent) start arity capacity × (length given % arity ≡ 0) × (capacity < length (rows_given arity given))
  Facts (suc (suc (suc (suc (suc (suc n)))))) = ⊥

  so : {n : ℕ} → number ≡ n → Facts n → Facts number
  so e f = subst Facts (sym e) f

  checked : Facts number
  checked = by_arity (either max_arity arity)
    where
      by_rows : InLimitsAndPool (length lent) start arity capacity → length given % arity ≡ 0 → Dec (capacity < length (rows_given arity given)) → Facts number
      by_rows p w (yes h) = so (five p w h) (p, w, h)
      by_rows p w (no h) = let k : length (rows_given arity given) ≤ capacity = omega arith in so (none p w k) (p, w, k)

      by_words : InLimitsAndPool (length lent) start arity capacity → Dec (length given % arity ≡ 0) → Facts number
      by_words p (yes w) = by_rows p w (dec_lt capacity (length (rows_given arity given)))
      by_words p (no w) = so (four p w) (p, w)

      by_pool : InLimits arity capacity → Dec (length lent < start + 2 * arity * capacity) → Facts number
      by_pool l (yes h) = so (three (l, h)) (l, h)
      by_pool l (no h) = by_words (l, omega arith) (ℕ_discrete (length given % arity) 0)

      by_capacity : From1To max_arity arity → From1To max_capacity capacity ⊎ Off max_capacity capacity → Facts number
      by_capacity a (inl c) = by_pool (a, c) (dec_lt (length lent) (start + 2 * arity * capacity))
      by_capacity a (inr c) = so (two (a, c)) (a, c)

      by_arity : From1To max_arity arity ⊎ Off max_arity arity → Facts number
      by_arity (inl a) = by_capacity a (either max_capacity capacity)
      by_arity (inr a) = so (one a) a

  numbers : Numbers given lent start arity capacity number
  numbers =
      record {
        arity_off = (λ e. subst Facts e checked, one);
        capacity_off = (λ e. subst Facts e checked, two);
        not_in_pool = (λ e. subst Facts e checked, three);
        not_whole_rows = (λ e. subst Facts e checked, λ h. four h.0 h.1);
        too_many_rows = (λ e. subst Facts e checked, λ h. five h.0 h.1 h.2);
        accepted = (λ e. subst Facts e checked, λ h. none h.0 h.1 h.2);
      }

pub each_number_of_a_build_is_given_exactly_when :
    (given lent : List ℕ) (start arity capacity : ℕ) (kinds : List Bool) {given' lent' : List ℕ} {r : Built} → Builds given lent start arity capacity kinds given' lent' r → Numbers given lent start arity capacity r.number
each_number_of_a_build_is_given_exactly_when given lent start arity capacity kinds b =
    subst (Numbers given lent start arity capacity) (sym (ap (λ (x : Built). x.number) b.answer)) (numbers given lent start arity capacity)
