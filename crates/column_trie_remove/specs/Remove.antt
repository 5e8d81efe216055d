-- Public: what a removal leaves, for every pool, header and tuple.
use Rattle.std.specs.Prelude.{ℕ, ◌≡◌, Bool, ◌&&◌, List, [], ◌∷◌, length, eqb}
use Rattle.relation.specs.Order.{Row, pick}
use Rattle.relation.specs.Rows.{same}
use Rattle.relation.specs.Layers.{layers_of}
use Rattle.column_trie.specs.Pool.{store}
use Rattle.column_trie.specs.Table.{refilled, rows_in, undamaged}
use Rattle.column_trie.specs.declared.ColumnTrie.{ColumnTrie}
use Rattle.column_trie_path.specs.Known.{known}
use Rattle.column_trie_remove.specs.declared.Removed.{Removed}

-- the remaining rows: those that aren't r
unfoldable pub without : Row → List Row → List Row
unfolding same
without r [] = []
without r (q ∷ qs) = pick (same r q) (without r qs) (q ∷ without r qs)

-- the refusals in document 02's sequence: 6 for a damaged table, 4 for a tuple whose length isn't the arity; else 0
unfoldable pub remove_number : List ℕ → ColumnTrie → Row → ℕ
remove_number pool t tuple = pick (undamaged pool t) (pick (eqb (length tuple) t.arity) 0 4) 6

-- the tuple is accepted and was there
unfoldable pub takes_out : List ℕ → ColumnTrie → Row → Bool
unfolding remove_number known
takes_out pool t tuple = eqb (remove_number pool t tuple) 0 && known (rows_in pool t) tuple

-- A tuple that was there: the header of the remaining rows, its columns of the kinds that they were, and their layers stored over the pool. Anything else, refused or absent, changes nothing
abbrev pub table_left : List ℕ → ColumnTrie → Row → ColumnTrie
table_left pool t tuple = pick (takes_out pool t tuple) (refilled t (without tuple (rows_in pool t))) t

abbrev pub pool_left : List ℕ → ColumnTrie → Row → List ℕ
pool_left pool t tuple = pick (takes_out pool t tuple) (store t.start t.capacity (layers_of t.arity (without tuple (rows_in pool t))) pool) pool

-- what a removal answers and leaves
pub record Removes (pool pool' : List ℕ) (t : ColumnTrie) (tuple : Row) (r : Removed) : Type 0 where
  pub number : r.number ≡ remove_number pool t tuple
  pub was_there : r.was_there ≡ takes_out pool t tuple
  pub table : r.table ≡ table_left pool t tuple
  pub words : pool' ≡ pool_left pool t tuple
