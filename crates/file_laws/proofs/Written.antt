-- What a write leaves: the table's file in front and every byte behind it as it was; refused, every byte and the length 0.
use Prim.Native.Nat.{ℕ, ◌+◌, ◌-◌, ◌≤◌}
use mathlib.Core.Path.{◌≡◌, refl, sym, ap, ◌∙◌}
use mathlib.Core.Bool.{Bool, true, false}
use mathlib.Core.List.{List, ◌++◌}
use native.Mathlib.Omega.{arith}
use native.Mathlib.Decide.{ℕ_discrete}
use lib.ListN.{length, take, drop, get_or, length-append, length-drop}
use lib.Seq.{take_at, drop_at, get_or-drop}
use lib.Dec.{eqb}
use borrow.Author.Tests.{eq-eqb, ne_eqb}
use Rattle.relation.specs.Order.{pick}
use Rattle.column_trie.specs.Table.{Undamaged}
use Rattle.column_trie.specs.declared.ColumnTrie.{ColumnTrie}
use Rattle.file_write.specs.declared.FileWritten.{FileWritten}
use Rattle.file_write.specs.Write.{file_in, write_number, Writes}
use Rattle.file_laws.proofs.WriteExactly.{each_number_of_a_write_is_given_exactly_when}

module _ {pool bytes bytes' : List ℕ} {t : ColumnTrie} {r : FileWritten} (w : Writes pool t bytes bytes' r) where
  abbrev file : List ℕ
  file = file_in pool t

  -- ---- accepted

  module _ (z : r.number ≡ 0) where
    zero : eqb (write_number pool t (length bytes)) 0 ≡ true
    zero = eq-eqb (write_number pool t (length bytes)) 0 (sym w.number ∙ z)

    pub written_sound : Undamaged pool t
    written_sound = ((each_number_of_a_write_is_given_exactly_when w).accepted.0 z).0

    pub written_fits : length file ≤ length bytes
    written_fits = ((each_number_of_a_write_is_given_exactly_when w).accepted.0 z).1

    pub written_len : r.len ≡ length file
    written_len = w.len ∙ ap (λ (b : Bool). pick b (length file) 0) zero

    pub written_bytes : bytes' ≡ file ++ drop (length file) bytes
    written_bytes = w.written ∙ ap (λ (b : Bool). pick b (file ++ drop (length file) bytes) bytes) zero

    -- the bytes up to the length are the file
    pub a_write_leaves_the_file_of_the_table : take r.len bytes' ≡ file
    a_write_leaves_the_file_of_the_table = ap (λ (l : List ℕ). take r.len l) written_bytes ∙ take_at file (drop (length file) bytes) r.len (sym written_len)

  -- ---- refused

  module _ (n : r.number ≡ 0 → ⊥) where
    other : eqb (write_number pool t (length bytes)) 0 ≡ false
    other = ne_eqb (write_number pool t (length bytes)) 0 (λ e. n (w.number ∙ e))

    pub refused_len : r.len ≡ 0
    refused_len = w.len ∙ ap (λ (b : Bool). pick b (length file) 0) other

    pub refused_bytes : bytes' ≡ bytes
    refused_bytes = w.written ∙ ap (λ (b : Bool). pick b (file ++ drop (length file) bytes) bytes) other

pub record UntouchedBytes (bytes bytes' : List ℕ) (r : FileWritten) : Type 0 where
  pub len : r.len ≡ 0
  pub written : bytes' ≡ bytes

pub a_refused_write_leaves_everything_untouched : {pool bytes bytes' : List ℕ} {t : ColumnTrie} {r : FileWritten} → Writes pool t bytes bytes' r → (r.number ≡ 0 → ⊥) → UntouchedBytes bytes bytes' r
a_refused_write_leaves_everything_untouched w n = record { len = refused_len w n; written = refused_bytes w n }

-- no byte more or less, and every byte at or behind the length as it was
pub record KeptBytes (bytes bytes' : List ℕ) (r : FileWritten) : Type 0 where
  pub size : length bytes' ≡ length bytes
  pub behind : (k : ℕ) → r.len ≤ k → get_or bytes' k 0 ≡ get_or bytes k 0

pub write_keeps_every_byte_behind_the_file : {pool bytes bytes' : List ℕ} {t : ColumnTrie} {r : FileWritten} → Writes pool t bytes bytes' r → KeptBytes bytes bytes' r
write_keeps_every_byte_behind_the_file {pool} {bytes} {bytes'} {t} {r} w = go (ℕ_discrete r.number 0)
  where
    file : List ℕ
    file = file_in pool t

    at : (xs : List ℕ) (k : ℕ) → length file ≤ k → get_or xs k 0 ≡ get_or (drop (length file) xs) (k - length file) 0
    at xs k h = ap (λ (n : ℕ). get_or xs n 0) (let e : k ≡ length file + (k - length file) = omega arith in e) ∙ sym (get_or-drop (length file) xs (k - length file) 0)

    go : Dec (r.number ≡ 0) → KeptBytes bytes bytes' r
    go (no n) = record { size = ap length (refused_bytes w n); behind = λ k h. ap (λ (l : List ℕ). get_or l k 0) (refused_bytes w n) }
    go (yes z) =
        let e = written_bytes w z in
        let d : drop (length file) bytes' ≡ drop (length file) bytes = ap (drop (length file)) e ∙ drop_at file (drop (length file) bytes) (length file) refl in
        record {
          size = ap length e ∙ length-append file (drop (length file) bytes) ∙ omega (arith, written_fits w z, length-drop (length file) bytes);
          behind = λ k h. let l : length file ≤ k = omega (arith, written_len w z) in at bytes' k l ∙ ap (λ (x : List ℕ). get_or x (k - length file) 0) d ∙ sym (at bytes k l);
        }
