-- Internal: the first checks of an insert and of a removal.
use Rattle.std.specs.Prelude.{ℕ, List, length, eqb}
use Rattle.relation.specs.Order.{Row, pick}
use Rattle.column_trie.specs.Table.{undamaged}
use Rattle.column_trie.specs.declared.ColumnTrie.{ColumnTrie}

-- 6 for a damaged table, 4 for a tuple whose length isn't the arity; else 0
unfoldable pub tuple_number : List ℕ → ColumnTrie → Row → ℕ
tuple_number pool t tuple = pick (undamaged pool t) (pick (eqb (length tuple) t.arity) 0 4) 6
