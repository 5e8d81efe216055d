-- Public: what a rebuild with permuted columns answers and what it leaves behind, as functions of the arguments at entry.
use Rattle.std.specs.Prelude.{ℕ, ◌≡◌, Bool, not, List, map, length, take, ltb}
use Rattle.relation.specs.Order.{Row, pick}
use Rattle.relation.specs.Rows.{as_set}
use Rattle.relation.specs.Layers.{layers_of}
use Rattle.query.specs.Checks.{permutes}
use Rattle.column_trie.specs.Pool.{store}
use Rattle.column_trie.specs.Table.{grade_at, capacity_ok, lies_in, empty_table, table_of, undamaged}
use Rattle.column_trie.specs.declared.ColumnTrie.{ColumnTrie}
use Rattle.from_sorted.specs.Answer.{unless_refused, kept_kinds}
use Rattle.from_sorted.specs.declared.Built.{Built}
use Rattle.permuted_rows.specs.Permuted.{rows_permuted}

-- "kinds going along"
abbrev pub kinds_permuted : ColumnTrie → List ℕ → List Bool
kinds_permuted t columns = map (λ (c : ℕ). grade_at t c) (take t.arity columns)

-- the number of a rebuild into a pool of so many words: "6, 8, 2, 3, 5 in sequence", 0 if none refuses; "8 if it isn't a permutation of the table's columns"
unfoldable pub permute_number : List ℕ → ColumnTrie → List ℕ → ℕ → ℕ → ℕ → ℕ
permute_number pool t columns len start capacity =
    pick (not (undamaged pool t)) 6
    (pick (not (permutes t.arity (take t.arity columns))) 8
    (pick (not (capacity_ok capacity)) 2
    (pick (not (lies_in len start t.arity capacity)) 3
    (pick (ltb capacity t.tuple_count) 5 0))))

-- the rows of the new table: what a build of the permuted rows stores
abbrev pub rows_left : List ℕ → ColumnTrie → List ℕ → List Row
rows_left pool t columns = as_set (rows_permuted pool t columns)

-- the answer: the number, and the header of the new table; a refused rebuild's header is all zeros, and so all plain
abbrev pub permute_answer : List ℕ → ColumnTrie → List ℕ → ℕ → ℕ → ℕ → Built
permute_answer pool t columns len start capacity =
    let number = permute_number pool t columns len start capacity in
    record { number = number; table = unless_refused number (table_of start t.arity capacity (kept_kinds t.arity (kinds_permuted t columns)) (rows_left pool t columns)) (empty_table 0 0 0) }

-- the second pool's words: the new table's layers laid over what it held, and no other word changed
abbrev pub pool_left : List ℕ → ColumnTrie → List ℕ → List ℕ → ℕ → ℕ → List ℕ
pool_left pool t columns into start capacity =
    unless_refused (permute_number pool t columns (length into) start capacity) (store start capacity (layers_of t.arity (rows_left pool t columns)) into) into

-- what a rebuild of the table t in `pool` answers and leaves in the second pool, which held `into`
pub record Permutes (pool : List ℕ) (t : ColumnTrie) (columns into : List ℕ) (start capacity : ℕ) (into' : List ℕ) (r : Built) : Type 0 where
  pub answer : r ≡ permute_answer pool t columns (length into) start capacity
  pub words : into' ≡ pool_left pool t columns into start capacity
