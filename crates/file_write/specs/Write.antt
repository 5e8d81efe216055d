-- Public: what writing a table's file answers, and what it leaves in the bytes.
use Rattle.std.specs.Prelude.{ℕ, ◌≡◌, Bool, List, ◌++◌, length, take, drop, leb, eqb}
use Rattle.relation.specs.Order.{pick}
use Rattle.column_trie.specs.Table.{rows_in, undamaged}
use Rattle.column_trie.specs.declared.ColumnTrie.{ColumnTrie}
use Rattle.table_file.specs.File.{file_of}
use Rattle.file_write.specs.declared.FileWritten.{FileWritten}

-- the kinds of a table's columns
abbrev pub kinds_of : ColumnTrie → List Bool
kinds_of t = take t.arity t.grade

-- the file of the table in the pool: its arity, its kinds and its rows
abbrev pub file_in : List ℕ → ColumnTrie → List ℕ
file_in pool t = file_of t.arity (kinds_of t) (rows_in pool t)

-- 6 for a damaged table, 14 for a file that is longer than the bytes
unfoldable pub write_number : List ℕ → ColumnTrie → ℕ → ℕ
write_number pool t room = pick (undamaged pool t) (pick (leb (length (file_in pool t)) room) 0 14) 6

pub record Writes (pool : List ℕ) (t : ColumnTrie) (bytes bytes' : List ℕ) (r : FileWritten) : Type 0 where
  pub number : r.number ≡ write_number pool t (length bytes)
  -- the file's length; 0 where refused
  pub len : r.len ≡ pick (eqb (write_number pool t (length bytes)) 0) (length (file_in pool t)) 0
  -- the file at the front, bytes behind it as they were; nothing changed where refused
  pub written : bytes' ≡ pick (eqb (write_number pool t (length bytes)) 0) (file_in pool t ++ drop (length (file_in pool t)) bytes) bytes
