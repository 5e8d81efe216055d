-- Public: rows with their columns in another order: "number i names the old column that becomes column i".
use Rattle.std.specs.Prelude.{ℕ, List, map, take}
use Rattle.relation.specs.Order.{Row}
use Rattle.query.specs.Meaning.{part}
use Rattle.column_trie.specs.Table.{rows_in}
use Rattle.column_trie.specs.declared.ColumnTrie.{ColumnTrie}

-- each row's words in the sequence of the columns
unfoldable pub permuted : List ℕ → List Row → List Row
permuted columns rows = map (part columns) rows

-- the rows of a table, so read; numbers past the arity are not looked at
abbrev pub rows_permuted : List ℕ → ColumnTrie → List ℕ → List Row
rows_permuted pool t columns = permuted (take t.arity columns) (rows_in pool t)
