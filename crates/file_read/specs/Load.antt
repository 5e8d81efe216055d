-- Internal: what the steps of a read answer and ask.
use Rattle.std.specs.Prelude.{ℕ, ◌+◌, ◌*◌, ◌≤◌, ◌<◌, ◌≡◌, List, [], length, drop, get_or, Option, Some, None}
use Rattle.relation.specs.Order.{Row}
use Rattle.relation.specs.Rows.{Width}
use Rattle.column_trie.specs.Limits.{max_arity}
use Rattle.column_trie.specs.declared.ColumnTrie.{ColumnTrie}
use Rattle.from_sorted.specs.Push.{Filling}
use Rattle.table_file.specs.Bytes.{decode}
use Rattle.table_file.specs.File.{File, parse}
use Rattle.table_file.specs.Places.{place}

-- the rows of the file that the bytes are, none if they are none
abbrev pub rows_found : Option File → List Row
rows_found None = []
rows_found (Some f) = f.rows

-- row i lies where it lies in a file whose fields of rows begin at `at`
pub record RowAt (bytes : List ℕ) (at a i : ℕ) (row : Row) : Type 0 where
  pub inside : at + place a i + 8 * a ≤ length bytes
  pub is : decode a (drop (at + place a i) bytes) ≡ row

-- the bytes are a file of n rows, whose fields of rows begin at `at`, and the empty table t has room for them
pub record Loading (bytes : List ℕ) (at n len : ℕ) (t : ColumnTrie) : Type 0 where
  pub many : n ≡ length (rows_found (parse bytes))
  pub lies : (i : ℕ) → i < n → RowAt bytes at t.arity i (get_or (rows_found (parse bytes)) i [])
  pub fill : Filling len t (rows_found (parse bytes))
  pub width : Width t.arity (rows_found (parse bytes))

-- the kinds of a file are there to be read
pub record HasKinds (bytes : List ℕ) (arity : ℕ) : Type 0 where
  pub few : arity ≤ max_arity
  pub long : 4 < length bytes
  pub there : get_or bytes 4 0 ≡ 4 → 7 + arity ≤ length bytes
