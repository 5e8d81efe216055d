-- Public: what an insert leaves, for every pool, header and tuple.
use Rattle.std.specs.Prelude.{ℕ, ◌≡◌, Bool, not, ◌&&◌, List, length, eqb}
use Rattle.relation.specs.Order.{Row, pick}
use Rattle.relation.specs.Rows.{put}
use Rattle.relation.specs.Layers.{layers_of}
use Rattle.column_trie.specs.Pool.{store}
use Rattle.column_trie.specs.Table.{refilled, rows_in, undamaged}
use Rattle.column_trie.specs.declared.ColumnTrie.{ColumnTrie}
unfoldable pub use Rattle.column_trie_path.specs.Known.{known}
use Rattle.column_trie_insert.specs.declared.Inserted.{Inserted}

-- the refusals in document 01's sequence: 6 for a damaged table, 4 for a tuple whose length isn't the arity, 5 for a new tuple when the count is the
-- capacity; else 0
unfoldable pub insert_number : List ℕ → ColumnTrie → Row → ℕ
unfolding known
insert_number pool t tuple =
    pick (undamaged pool t)
    (pick (eqb (length tuple) t.arity) (pick (not (known (rows_in pool t) tuple) && eqb t.tuple_count t.capacity) 5 0) 4)
    6

-- the tuple is accepted and was not there
unfoldable pub takes_in : List ℕ → ColumnTrie → Row → Bool
unfolding insert_number
takes_in pool t tuple = eqb (insert_number pool t tuple) 0 && not (known (rows_in pool t) tuple)

-- A new tuple: the header of the rows with it, its columns of the kinds that they were, and their layers stored over the pool. Anything else, refused or there already, changes nothing
abbrev pub table_left : List ℕ → ColumnTrie → Row → ColumnTrie
table_left pool t tuple = pick (takes_in pool t tuple) (refilled t (put tuple (rows_in pool t))) t

abbrev pub pool_left : List ℕ → ColumnTrie → Row → List ℕ
pool_left pool t tuple = pick (takes_in pool t tuple) (store t.start t.capacity (layers_of t.arity (put tuple (rows_in pool t))) pool) pool

-- what an insert answers and leaves
pub record Inserts (pool pool' : List ℕ) (t : ColumnTrie) (tuple : Row) (r : Inserted) : Type 0 where
  pub number : r.number ≡ insert_number pool t tuple
  pub is_new : r.is_new ≡ takes_in pool t tuple
  pub table : r.table ≡ table_left pool t tuple
  pub words : pool' ≡ pool_left pool t tuple
