-- Internal: the words of a table's rows in the sequence of the permuted rows, and what it takes to lay those rows.
use Rattle.std.specs.Prelude.{ℕ, ◌+◌, ◌-◌, ◌<◌, ◌≡◌, List, [], length, get_or}
use Rattle.relation.specs.Rows.{sort, Asc, Width}
use Rattle.column_trie.specs.Pool.{lay, spot}
use Rattle.column_trie.specs.declared.ColumnTrie.{ColumnTrie}
use Rattle.from_sorted.specs.Push.{Filling}
use Rattle.permuted_rows.specs.Packed.{number_of}
use Rattle.permuted_rows.specs.Seen.{rows_seen, StandsIn}
use Rattle.permuted_rows.specs.declared.Permuted.{Permuted}

-- the word is that of row j of the permuted rows as they are sorted
pub record RankAt (rows : Permuted) (j word : ℕ) : Type 0 where
  pub packed : StandsIn rows word
  pub row : get_or (rows_seen rows) (number_of word) [] ≡ get_or (sort (rows_seen rows)) j []

pub record Ranked (rows : Permuted) (numbers : List ℕ) : Type 0 where
  pub long : length numbers ≡ rows.table.tuple_count
  pub many : rows.table.tuple_count ≡ length (sort (rows_seen rows))
  pub ranks : (j : ℕ) → j < rows.table.tuple_count → RankAt rows j (get_or numbers j 0)

-- they are laid over the second pool, and no other word of it changed
pub record RankedIn (rows : Permuted) (into : List ℕ) (at : ℕ) (into' : List ℕ) : Type 0 where
  pub numbers : List ℕ
  pub ranked : Ranked rows numbers
  pub words : into' ≡ lay into at numbers

-- the words lie in the last layer of the empty table, which has room for the rows
pub record Laying (rows : Permuted) (into : List ℕ) (empty : ColumnTrie) : Type 0 where
  pub arity : empty.arity ≡ rows.table.arity
  pub many : rows.table.tuple_count ≡ length (sort (rows_seen rows))
  pub fill : Filling (length into) empty (sort (rows_seen rows))
  pub width : Width empty.arity (sort (rows_seen rows))
  pub asc : Asc (sort (rows_seen rows))
  pub lies : (j : ℕ) → j < rows.table.tuple_count → RankAt rows j (get_or into (spot empty.start empty.capacity (empty.arity - 1) + j) 0)
