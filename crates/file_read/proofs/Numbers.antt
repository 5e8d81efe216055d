-- The number of a read: what each check that refuses gives, in sequence, and what 0 tells.
use Prim.Native.Nat.{ℕ, ◌+◌, ◌*◌, ◌≤◌, ◌<◌}
use mathlib.Core.Path.{◌≡◌, refl}
use mathlib.Core.Bool.{Bool, true, false}
use mathlib.Core.List.{List}
use native.Mathlib.Omega.{arith}
use lib.ListN.{length}
use lib.Dec.{ltb}
use borrow.Author.Tests.{ltb-false, lt-ltb, le-ltb, leb-true}
use Rattle.std.specs.Prelude.{Option, Some, None}
use Rattle.relation.specs.Order.{pick}
use Rattle.column_trie.specs.Limits.{max_capacity}
use Rattle.column_trie.specs.Table.{capacity_ok, lies_in}
use Rattle.column_trie.proofs.Header.{capacity_told}
use Rattle.from_sorted.proofs.Answer.{refuses, passes, not_refused}
use Rattle.table_file.specs.Bytes.{Bytes}
use Rattle.table_file.specs.File.{File, file_of, parse, Table}
use Rattle.table_file.proofs.Laws.{what_is_read_was_written}
use Rattle.file_read.specs.Read.{read_number}

module _ (f : File) (len start capacity : ℕ) where
  pub number_2 : capacity_ok capacity ≡ false → 2 ≡ read_number (Some f) len start capacity
  number_2 e = refuses (capacity_ok capacity) 2 _ e

  module _ (k : capacity_ok capacity ≡ true) where
    pub number_3 : lies_in len start f.arity capacity ≡ false → 3 ≡ read_number (Some f) len start capacity
    number_3 e = passes (capacity_ok capacity) 2 _ k (refuses (lies_in len start f.arity capacity) 3 _ e)

    module _ (l : lies_in len start f.arity capacity ≡ true) where
      last : (r : ℕ) → r ≡ pick (ltb capacity (length f.rows)) 5 0 → r ≡ read_number (Some f) len start capacity
      last r e = passes (capacity_ok capacity) 2 _ k (passes (lies_in len start f.arity capacity) 3 _ l e)

      pub number_5 : capacity < length f.rows → 5 ≡ read_number (Some f) len start capacity
      number_5 h = last 5 (simp (lt-ltb capacity (length f.rows) h))

      pub number_0 : length f.rows ≤ capacity → 0 ≡ read_number (Some f) len start capacity
      number_0 h = last 0 (simp (le-ltb capacity (length f.rows) h))

-- what an accepted read has
pub record Accepted (bytes : List ℕ) (len start capacity : ℕ) : Type 0 where
  pub file : File
  pub found_is : parse bytes ≡ Some file
  pub bytes_are : bytes ≡ file_of file.arity file.kinds file.rows
  pub table : Table file.arity file.kinds file.rows
  pub roomy : 0 < capacity
  pub small : capacity ≤ max_capacity
  pub fits : start + 2 * file.arity * capacity ≤ len
  pub room : length file.rows ≤ capacity

pub accepted : (bytes : List ℕ) (len start capacity : ℕ) → Bytes bytes → read_number (parse bytes) len start capacity ≡ 0 → Accepted bytes len start capacity
accepted bytes len start capacity b e = go (parse bytes) refl e
  where
    within : (rows : ℕ) (x : Bool) → ltb capacity rows ≡ x → ◌≡◌ {A = ℕ} (pick x 5 0) 0 → rows ≤ capacity
    within rows true h z = absurd (omega arith)
    within rows false h z = ltb-false capacity rows h

    go : (x : Option File) → parse bytes ≡ x → read_number x len start capacity ≡ 0 → Accepted bytes len start capacity
    go None p z = absurd (omega arith)
    go (Some f) p z =
        let w = what_is_read_was_written bytes f b p in
        let q = not_refused (capacity_ok capacity) 2 _ (omega arith) z in
        let l = not_refused (lies_in len start f.arity capacity) 3 _ (omega arith) q.1 in
        let c = capacity_told capacity q.0 in
        record {
          file = f;
          found_is = p;
          bytes_are = w.0;
          table = w.1;
          roomy = c.0;
          small = c.1;
          fits = leb-true (start + 2 * f.arity * capacity) len l.0;
          room = within (length f.rows) (ltb capacity (length f.rows)) refl l.1;
        }
