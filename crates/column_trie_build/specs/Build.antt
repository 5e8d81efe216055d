-- Public: what a build answers and what it leaves behind, as functions of the arguments at entry.
use Rattle.std.specs.Prelude.{ℕ, ◌/◌, ◌%◌, ◌≡◌, Bool, not, List, length, ltb, eqb}
use Rattle.relation.specs.Order.{pick}
use Rattle.relation.specs.Rows.{flat, sort, as_set}
use Rattle.relation.specs.Layers.{layers_of}
use Rattle.column_trie.specs.Pool.{store}
use Rattle.column_trie.specs.Table.{arity_ok, capacity_ok, lies_in, empty_table, table_of}
use Rattle.from_sorted.specs.Given.{rows_given}
use Rattle.from_sorted.specs.Answer.{unless_refused, kept_kinds}
use Rattle.from_sorted.specs.declared.Built.{Built}

-- the number of a build over so many words, into a pool of so many: document 01's checks 1 to 5 in sequence, 0 if none refuses
unfoldable pub build_number : ℕ → ℕ → ℕ → ℕ → ℕ → ℕ
build_number words len start arity capacity =
    pick (not (arity_ok arity)) 1
    (pick (not (capacity_ok capacity)) 2
    (pick (not (lies_in len start arity capacity)) 3
    (pick (not (eqb (words % arity) 0)) 4
    (pick (ltb capacity (words / arity)) 5 0))))

-- the answer: the number, and the header of the table of the set of the rows; a refused build's header is all zeros, and so all plain
abbrev pub built_answer : List ℕ → List ℕ → ℕ → ℕ → ℕ → List Bool → Built
built_answer words pool start arity capacity kinds =
    let number = build_number (length words) (length pool) start arity capacity in
    record { number = number; table = unless_refused number (table_of start arity capacity (kept_kinds arity kinds) (as_set (rows_given arity words))) (empty_table 0 0 0) }

-- the rows' words: sorted, duplicates kept
abbrev pub words_left : List ℕ → List ℕ → ℕ → ℕ → ℕ → List ℕ
words_left words pool start arity capacity = unless_refused (build_number (length words) (length pool) start arity capacity) (flat (sort (rows_given arity words))) words

-- the pool's words: the layers of the set of the rows laid over what it held, and no other word changed
abbrev pub pool_left : List ℕ → List ℕ → ℕ → ℕ → ℕ → List ℕ
pool_left words pool start arity capacity =
    unless_refused (build_number (length words) (length pool) start arity capacity) (store start capacity (layers_of arity (as_set (rows_given arity words))) pool) pool

-- what a build over `given` and `lent` answers and leaves
pub record Builds (given lent : List ℕ) (start arity capacity : ℕ) (kinds : List Bool) (given' lent' : List ℕ) (r : Built) : Type 0 where
  pub answer : r ≡ built_answer given lent start arity capacity kinds
  pub rows : given' ≡ words_left given lent start arity capacity
  pub pool : lent' ≡ pool_left given lent start arity capacity
