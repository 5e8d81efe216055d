-- Internal: a layer with a key less, when a layer can lose one, and what a row leaves once it is out.
use Rattle.std.specs.Prelude.{ℕ, suc, ◌+◌, ◌<◌, ◌≡◌, Bool, true, Option, List, ◌++◌, map, length, take, drop}
use Rattle.relation.specs.Order.{Row, pick}
use Rattle.relation.specs.Lists.{◌∈◌}
use Rattle.relation.specs.Layers.{Layer, layers_of}
use Rattle.column_trie.specs.Pool.{store, spot}
use Rattle.column_trie.specs.Table.{data_len_at, interval_len_at, rows_in, refilled, header_sound, undamaged}
use Rattle.column_trie.specs.declared.ColumnTrie.{ColumnTrie}
use Rattle.wedge.specs.Shift.{PositiveFrom, lessened}
use Rattle.column_trie_path.specs.declared.Fork.{Fork}
use Rattle.column_trie_path.specs.Place.{LastFork}
use Rattle.column_trie_remove.specs.Remove.{without}

-- the key at place `at` of the data goes. Its parent i stays, and the later groups start one earlier; or it goes too, and its interval with it
abbrev pub pruned : ℕ → ℕ → Layer → Layer
pruned i at l = record { keys = take at l.keys ++ drop (suc at) l.keys; intervals = take (suc i) l.intervals ++ map lessened (drop (suc i) l.intervals) }

abbrev pub felled : ℕ → ℕ → Layer → Layer
felled i at l = record { keys = take at l.keys ++ drop (suc at) l.keys; intervals = take i l.intervals ++ map lessened (drop (suc i) l.intervals) }

abbrev pub shrunk : Bool → ℕ → ℕ → Layer → Layer
shrunk lone i at l = pick lone (felled i at l) (pruned i at l)

-- layer d has a key at place `at`, a parent i, and later groups that don't start at 0
pub record Shrinkable (pool : List ℕ) (t : ColumnTrie) (d i at : ℕ) : Type 0 where
  pub sound : header_sound (length pool) t ≡ true
  pub depth : d < t.arity
  pub place : at < data_len_at t d
  pub interval : i < interval_len_at t d
  pub positive : PositiveFrom (spot t.start t.capacity d + t.capacity + suc i) (spot t.start t.capacity d + t.capacity + interval_len_at t d) pool

-- f is the last fork on the way to a row of the table, if there is one
pub record Forked (pool : List ℕ) (t : ColumnTrie) (tuple : Row) (f : Option Fork) : Type 0 where
  pub undamaged : undamaged pool t ≡ true
  pub there : tuple ∈ rows_in pool t
  pub fork : LastFork (rows_in pool t) tuple t.arity f

-- the layers of the remaining rows, stored over the pool, and their header
pub record RowCut (pool pool' : List ℕ) (t : ColumnTrie) (tuple : Row) (r : ColumnTrie) : Type 0 where
  pub words : pool' ≡ store t.start t.capacity (layers_of t.arity (without tuple (rows_in pool t))) pool
  pub header : r ≡ refilled t (without tuple (rows_in pool t))

-- The code that cuts a row out reads no key of it: its contract says that f is the fork of some row, and that every row whose fork it is, is out
abbrev pub ForkedSome : List ℕ → ColumnTrie → Option Fork → Type 0
ForkedSome pool t f = (tuple : Row) × Forked pool t tuple f

abbrev pub ForkCut : List ℕ → List ℕ → ColumnTrie → Option Fork → ColumnTrie → Type 0
ForkCut pool pool' t f r = (tuple : Row) → Forked pool t tuple f → RowCut pool pool' t tuple r
