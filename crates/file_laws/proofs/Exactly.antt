-- The numbers of a read are given exactly when document 02 says, shown both ways: from facts about the arguments to the number, and back.
use Prim.Native.Nat.{ℕ, ◌+◌, ◌*◌, ◌≤◌, ◌<◌}
use mathlib.Core.Path.{◌≡◌, refl, sym, ap, ◌∙◌, subst}
use mathlib.Core.Bool.{true}
use mathlib.Core.Logic.{◌⊎◌, inl, inr}
use mathlib.Core.List.{List}
use native.Mathlib.Omega.{arith}
use native.Mathlib.Decide.{dec_lt}
use lib.ListN.{length}
use borrow.Author.Tests.{le-leb, lt-leb}
use Rattle.std.proofs.lemmas.Option.{none-some}
use Rattle.std.specs.Prelude.{Option, Some, None}
use Rattle.relation.specs.Exactly.{Exactly}
use Rattle.column_trie.specs.Limits.{max_capacity}
use Rattle.column_trie.specs.Table.{lies_in}
use Rattle.from_sorted.specs.declared.Built.{Built}
use Rattle.from_sorted.proofs.Ranges.{From1To, Off, on, off, either}
use Rattle.table_file.specs.Bytes.{Bytes}
use Rattle.table_file.specs.File.{File, file_of, parse, Table}
use Rattle.table_file.proofs.Laws.{what_is_written_is_read, what_is_read_was_written}
use Rattle.file_read.specs.Read.{read_number, Reads}
use Rattle.file_read.proofs.Numbers.{number_2, number_3, number_5, number_0}

-- the bytes are the file of the table f
abbrev pub FileOf : List ℕ → File → Type 0
FileOf bytes f = (bytes ≡ file_of f.arity f.kinds f.rows) × Table f.arity f.kinds f.rows

-- a table of that arity, with a capacity in its limits, lies in a pool of len words
abbrev pub Fits : ℕ → ℕ → ℕ → ℕ → Type 0
Fits len start arity capacity = From1To max_capacity capacity × (start + 2 * arity * capacity ≤ len)

-- the number n of a read: each exactly when its own check is the first to fail, and 0 exactly when none fails
pub record Numbers (bytes lent : List ℕ) (start capacity n : ℕ) : Type 0 where
  pub no_file : Exactly (n ≡ 13) ((f : File) → FileOf bytes f → ⊥)
  pub capacity_off : Exactly (n ≡ 2) ((f : File) × FileOf bytes f × Off max_capacity capacity)
  pub not_in_pool : Exactly (n ≡ 3) ((f : File) × FileOf bytes f × From1To max_capacity capacity × (length lent < start + 2 * f.arity * capacity))
  pub too_many_rows : Exactly (n ≡ 5) ((f : File) × FileOf bytes f × Fits (length lent) start f.arity capacity × (capacity < length f.rows))
  pub accepted : Exactly (n ≡ 0) ((f : File) × FileOf bytes f × Fits (length lent) start f.arity capacity × (length f.rows ≤ capacity))

module _ (bytes lent : List ℕ) (start capacity : ℕ) (y : Bytes bytes) where
  abbrev len : ℕ
  len = length lent

  abbrev number : ℕ
  number = read_number (parse bytes) (length lent) start capacity

  -- ---- from the facts to the number

  is_found : (f : File) → FileOf bytes f → parse bytes ≡ Some f
  is_found f w = ap parse w.0 ∙ what_is_written_is_read f.arity f.kinds f.rows w.1

  at_file : (f : File) → FileOf bytes f → number ≡ read_number (Some f) len start capacity
  at_file f w = ap (λ (x : Option File). read_number x len start capacity) (is_found f w)

  thirteen : ((f : File) → FileOf bytes f → ⊥) → number ≡ 13
  thirteen h = go (parse bytes) refl
    where
      go : (x : Option File) → parse bytes ≡ x → number ≡ 13
      go None e = ap (λ (x : Option File). read_number x len start capacity) e
      go (Some f) e = absurd (h f (what_is_read_was_written bytes f y e))

  two : (f : File) × FileOf bytes f × Off max_capacity capacity → number ≡ 2
  two (f, w, h) = at_file f w ∙ sym (number_2 f len start capacity (off max_capacity capacity h))

  three : (f : File) × FileOf bytes f × From1To max_capacity capacity × (len < start + 2 * f.arity * capacity) → number ≡ 3
  three (f, w, c, h) = at_file f w ∙ sym (number_3 f len start capacity (on max_capacity capacity c) (lt-leb (start + 2 * f.arity * capacity) len h))

  lies : (f : File) → Fits len start f.arity capacity → lies_in len start f.arity capacity ≡ true
  lies f p = le-leb (start + 2 * f.arity * capacity) len p.1

  five : (f : File) × FileOf bytes f × Fits len start f.arity capacity × (capacity < length f.rows) → number ≡ 5
  five (f, w, p, h) = at_file f w ∙ sym (number_5 f len start capacity (on max_capacity capacity p.0) (lies f p) h)

  none : (f : File) × FileOf bytes f × Fits len start f.arity capacity × (length f.rows ≤ capacity) → number ≡ 0
  none (f, w, p, h) = at_file f w ∙ sym (number_0 f len start capacity (on max_capacity capacity p.0) (lies f p) h)

  -- ---- and back: one of them holds, with its number, and so no other has it

  only_thirteen : ((f : File) → FileOf bytes f → ⊥) → Numbers bytes lent start capacity number
  only_thirteen h =
      let z : number ≡ 13 = thirteen h in
      record {
        no_file = (λ e. h, thirteen);
        capacity_off = (λ e. absurd (omega (arith, z, e)), two);
        not_in_pool = (λ e. absurd (omega (arith, z, e)), three);
        too_many_rows = (λ e. absurd (omega (arith, z, e)), five);
        accepted = (λ e. absurd (omega (arith, z, e)), none);
      }

  only_two : ((f : File) × FileOf bytes f × Off max_capacity capacity) → Numbers bytes lent start capacity number
  only_two h =
      let z : number ≡ 2 = two h in
      record {
        no_file = (λ e. absurd (omega (arith, z, e)), thirteen);
        capacity_off = (λ e. h, two);
        not_in_pool = (λ e. absurd (omega (arith, z, e)), three);
        too_many_rows = (λ e. absurd (omega (arith, z, e)), five);
        accepted = (λ e. absurd (omega (arith, z, e)), none);
      }

  only_three : ((f : File) × FileOf bytes f × From1To max_capacity capacity × (len < start + 2 * f.arity * capacity)) → Numbers bytes lent start capacity number
  only_three h =
      let z : number ≡ 3 = three h in
      record {
        no_file = (λ e. absurd (omega (arith, z, e)), thirteen);
        capacity_off = (λ e. absurd (omega (arith, z, e)), two);
        not_in_pool = (λ e. h, three);
        too_many_rows = (λ e. absurd (omega (arith, z, e)), five);
        accepted = (λ e. absurd (omega (arith, z, e)), none);
      }

  only_five : ((f : File) × FileOf bytes f × Fits len start f.arity capacity × (capacity < length f.rows)) → Numbers bytes lent start capacity number
  only_five h =
      let z : number ≡ 5 = five h in
      record {
        no_file = (λ e. absurd (omega (arith, z, e)), thirteen);
        capacity_off = (λ e. absurd (omega (arith, z, e)), two);
        not_in_pool = (λ e. absurd (omega (arith, z, e)), three);
        too_many_rows = (λ e. h, five);
        accepted = (λ e. absurd (omega (arith, z, e)), none);
      }

  only_none : ((f : File) × FileOf bytes f × Fits len start f.arity capacity × (length f.rows ≤ capacity)) → Numbers bytes lent start capacity number
  only_none h =
      let z : number ≡ 0 = none h in
      record {
        no_file = (λ e. absurd (omega (arith, z, e)), thirteen);
        capacity_off = (λ e. absurd (omega (arith, z, e)), two);
        not_in_pool = (λ e. absurd (omega (arith, z, e)), three);
        too_many_rows = (λ e. absurd (omega (arith, z, e)), five);
        accepted = (λ e. h, none);
      }

  numbers : Numbers bytes lent start capacity number
  numbers = by_bytes (parse bytes) refl
    where
      by_rows : (f : File) → FileOf bytes f → Fits len start f.arity capacity → Dec (capacity < length f.rows) → Numbers bytes lent start capacity number
      by_rows f w p (yes h) = only_five (f, w, p, h)
      by_rows f w p (no h) = only_none (f, w, p, omega arith)

      by_pool : (f : File) → FileOf bytes f → From1To max_capacity capacity → Dec (len < start + 2 * f.arity * capacity) → Numbers bytes lent start capacity number
      by_pool f w c (yes h) = only_three (f, w, c, h)
      by_pool f w c (no h) = by_rows f w (c, omega arith) (dec_lt capacity (length f.rows))

      by_capacity : (f : File) → FileOf bytes f → From1To max_capacity capacity ⊎ Off max_capacity capacity → Numbers bytes lent start capacity number
      by_capacity f w (inl c) = by_pool f w c (dec_lt len (start + 2 * f.arity * capacity))
      by_capacity f w (inr c) = only_two (f, w, c)

      by_bytes : (x : Option File) → parse bytes ≡ x → Numbers bytes lent start capacity number
      by_bytes None e = only_thirteen (λ f w. none-some _ (sym e ∙ is_found f w))
      by_bytes (Some f) e = by_capacity f (what_is_read_was_written bytes f y e) (either max_capacity capacity)

pub each_number_of_a_read_is_given_exactly_when : (bytes lent : List ℕ) (start capacity : ℕ) {lent' : List ℕ} {r : Built} → Bytes bytes → Reads bytes lent start capacity lent' r → Numbers bytes lent start capacity r.number
each_number_of_a_read_is_given_exactly_when bytes lent start capacity y b = subst (Numbers bytes lent start capacity) (sym (ap (λ (x : Built). x.number) b.answer)) (numbers bytes lent start capacity y)
