-- Internal: a table's head, and its file's length by the header.
use Rattle.std.specs.Prelude.{ℕ, ◌+◌, ◌*◌, Bool, List, length}
use Rattle.std.specs.Int.{div_ceil}
use Rattle.column_trie.specs.declared.ColumnTrie.{ColumnTrie}
use Rattle.table_file.specs.File.{head, per_field}
use Rattle.file_write.specs.Write.{kinds_of}

abbrev pub head_of : ColumnTrie → List ℕ
head_of t = head t.arity (kinds_of t)

-- the head of a table with these kinds, one for each column
abbrev pub kinds_head : List Bool → List ℕ
kinds_head ks = head (length ks) ks

-- n rows in fields of m: three bytes a field, and the rows
abbrev pub rows_len : ℕ → ℕ → ℕ → ℕ
rows_len a m n = 3 * div_ceil n m + 8 * (n * a)

abbrev pub file_len : ColumnTrie → ℕ
file_len t = length (head_of t) + rows_len t.arity (per_field t.arity) t.tuple_count + 3
