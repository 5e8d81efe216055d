-- Internal: what is asked by the functions that write fields of rows, and what they leave.
use Rattle.std.specs.Prelude.{ℕ, ◌+◌, ◌*◌, ◌-◌, ◌≤◌, ◌≡◌, List, length}
use Rattle.column_trie.specs.Pool.{lay}
use Rattle.column_trie.specs.Table.{layers_in, rows_in}
use Rattle.column_trie.specs.declared.ColumnTrie.{ColumnTrie}
use Rattle.table_file.specs.File.{per_field, rows_fields}
use Rattle.row_path.specs.Path.{OnPath}

-- the table, an undamaged one, has n rows from row i on, the path is that of the row before them, and `room` bytes have room for them from `at` on
pub record Putting (pool : List ℕ) (t : ColumnTrie) (path : List ℕ) (i n at room : ℕ) : Type 0 where
  pub there : i + n ≤ t.tuple_count
  pub before : OnPath (layers_in pool t) (i - 1) path
  pub fits : at + 8 * (n * t.arity) ≤ room

-- the piece is laid from `at` on, and the path is that of row i
pub record RowsPut (pool : List ℕ) (t : ColumnTrie) (i : ℕ) (bytes : List ℕ) (at : ℕ) (piece bytes' path' : List ℕ) : Type 0 where
  pub laid : bytes' ≡ lay bytes at piece
  pub on : OnPath (layers_in pool t) i path'

-- the table's fields of rows
abbrev pub fields_in : List ℕ → ColumnTrie → List ℕ
fields_in pool t = rows_fields (length (rows_in pool t)) (per_field t.arity) (rows_in pool t)

-- a piece is laid from `at` on, up to `end`
pub record Laid (bytes : List ℕ) (at : ℕ) (piece bytes' : List ℕ) (end : ℕ) : Type 0 where
  pub is : bytes' ≡ lay bytes at piece
  pub ends : end ≡ at + length piece
