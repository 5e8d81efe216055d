-- Public: what a read of a table file answers and what it leaves behind, as functions of the arguments at entry.
use Rattle.std.specs.Prelude.{ℕ, ◌≡◌, not, List, length, ltb, Option, Some, None}
use Rattle.relation.specs.Order.{pick}
use Rattle.relation.specs.Layers.{layers_of}
use Rattle.column_trie.specs.Pool.{store}
use Rattle.column_trie.specs.Table.{capacity_ok, lies_in, empty_table, table_of}
use Rattle.column_trie.specs.declared.ColumnTrie.{ColumnTrie}
use Rattle.from_sorted.specs.Answer.{unless_refused, kept_kinds}
use Rattle.from_sorted.specs.declared.Built.{Built}
use Rattle.table_file.specs.File.{File, parse}

-- the number of a read into a pool of so many words, by what the bytes are: "the reader checks 13, 2, 3, 5", 0 if none refuses
abbrev pub read_number : Option File → ℕ → ℕ → ℕ → ℕ
read_number None len start capacity = 13
read_number (Some f) len start capacity = pick (not (capacity_ok capacity)) 2 (pick (not (lies_in len start f.arity capacity)) 3 (pick (ltb capacity (length f.rows)) 5 0))

-- the header of the table that the bytes are, with its rows and kinds
abbrev pub table_read : Option File → ℕ → ℕ → ColumnTrie
table_read None start capacity = empty_table 0 0 0
table_read (Some f) start capacity = table_of start f.arity capacity (kept_kinds f.arity f.kinds) f.rows

-- its layers laid over what the pool held, and no other word changed
abbrev pub pool_read : Option File → List ℕ → ℕ → ℕ → List ℕ
pool_read None pool start capacity = pool
pool_read (Some f) pool start capacity = store start capacity (layers_of f.arity f.rows) pool

-- the answer; a refused read's header is all zeros, and so all plain
abbrev pub read_answer : Option File → ℕ → ℕ → ℕ → Built
read_answer file len start capacity =
    let number = read_number file len start capacity in
    record { number = number; table = unless_refused number (table_read file start capacity) (empty_table 0 0 0) }

-- the pool's words
abbrev pub pool_left : Option File → List ℕ → ℕ → ℕ → List ℕ
pool_left file pool start capacity = unless_refused (read_number file (length pool) start capacity) (pool_read file pool start capacity) pool

-- what a read of `bytes` into `lent` answers and leaves
pub record Reads (bytes lent : List ℕ) (start capacity : ℕ) (lent' : List ℕ) (r : Built) : Type 0 where
  pub answer : r ≡ read_answer (parse bytes) (length lent) start capacity
  pub pool : lent' ≡ pool_left (parse bytes) lent start capacity
