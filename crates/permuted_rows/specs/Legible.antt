-- Internal: what it takes to read the rows of a table with their columns in another order.
use Rattle.std.specs.Prelude.{ℕ, ◌<◌, ◌≡◌, true, List, get_or}
use Rattle.column_trie.specs.Table.{undamaged}
use Rattle.column_trie.specs.declared.ColumnTrie.{ColumnTrie}

-- the table is undamaged, and the first numbers name columns of it
pub record Legible (pool : List ℕ) (t : ColumnTrie) (columns : List ℕ) : Type 0 where
  pub sound : undamaged pool t ≡ true
  pub inside : (k : ℕ) → k < t.arity → get_or columns k 0 < t.arity
