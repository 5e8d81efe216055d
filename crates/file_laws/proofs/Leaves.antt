-- An accepted read leaves the table of the file: undamaged, with the file's rows and kinds.
use Prim.Native.Nat.{ℕ}
use mathlib.Core.Path.{◌≡◌, refl, sym, ap, ◌∙◌, subst₂}
use mathlib.Core.List.{List}
use lib.ListN.{length}
use Rattle.std.specs.Prelude.{Option, Some}
use Rattle.relation.specs.Layers.{layers_of}
use Rattle.column_trie.specs.Pool.{store}
use Rattle.column_trie.specs.Table.{table_of, empty_table, layers_in, rows_in, Undamaged}
use Rattle.column_trie.specs.declared.ColumnTrie.{ColumnTrie}
use Rattle.column_trie.proofs.Tables.{stored}
use Rattle.from_sorted.specs.Answer.{kept_kinds}
use Rattle.from_sorted.specs.declared.Built.{Built}
use Rattle.from_sorted.proofs.Answer.{if_built}
use Rattle.from_sorted.proofs.Taken.{kept_plain}
use Rattle.table_file.specs.Bytes.{Bytes}
use Rattle.table_file.specs.File.{File, parse}
use Rattle.file_read.specs.Read.{read_number, table_read, pool_read, Reads}
use Rattle.file_read.proofs.Numbers.{Accepted, accepted}

-- what an accepted read of file f leaves in the pool
pub record TableOfTheFile (f : File) (pool : List ℕ) (t : ColumnTrie) : Type 0 where
  pub undamaged : Undamaged pool t
  pub layers : layers_in pool t ≡ layers_of f.arity f.rows
  pub rows : rows_in pool t ≡ f.rows
  pub kinds : t.grade ≡ kept_kinds f.arity f.kinds

-- what a contract with number 0 says of table and pool
module _ (bytes lent : List ℕ) (start capacity : ℕ) {lent' : List ℕ} {r : Built} (y : Bytes bytes) (b : Reads bytes lent start capacity lent' r) (z : r.number ≡ 0) where
  zero_number : read_number (parse bytes) (length lent) start capacity ≡ 0
  zero_number = sym (ap (λ (x : Built). x.number) b.answer) ∙ z

  pub read_accepted : Accepted bytes (length lent) start capacity
  read_accepted = accepted bytes (length lent) start capacity y zero_number

  -- the file that was read
  abbrev pub file_read : File
  file_read = read_accepted.file

  pub read_found : parse bytes ≡ Some file_read
  read_found = read_accepted.found_is

  pub read_pool : lent' ≡ store start capacity (layers_of file_read.arity file_read.rows) lent
  read_pool =
      b.pool
      ∙ if_built (read_number (parse bytes) (length lent) start capacity) (pool_read (parse bytes) lent start capacity) lent zero_number
      ∙ ap (λ (x : Option File). pool_read x lent start capacity) read_found

  pub read_table : r.table ≡ table_of start file_read.arity capacity (kept_kinds file_read.arity file_read.kinds) file_read.rows
  read_table =
      ap (λ (x : Built). x.table) b.answer
      ∙ if_built (read_number (parse bytes) (length lent) start capacity) (table_read (parse bytes) start capacity) (empty_table 0 0 0) zero_number
      ∙ ap (λ (x : Option File). table_read x start capacity) read_found

  pub a_read_leaves_the_table_of_the_file : TableOfTheFile file_read lent' r.table
  a_read_leaves_the_table_of_the_file =
      let f = file_read in
      let a = read_accepted in
      let s = stored start f.arity capacity (kept_kinds f.arity f.kinds) f.rows lent a.table.some a.table.few a.roomy a.small a.fits (kept_plain f.arity f.kinds) a.table.asc a.table.width a.room in
      subst₂ (TableOfTheFile f) (sym read_pool) (sym read_table) (record { undamaged = s.undamaged; layers = s.layers_back; rows = s.rows_back; kinds = refl })
