-- Internal: room for a row, and what it leaves once it is in.
use Rattle.std.specs.Prelude.{ℕ, ◌+◌, ◌≤◌, ◌<◌, ◌≡◌, Bool, true, false, List, length}
use Rattle.relation.specs.Order.{Row}
use Rattle.relation.specs.Rows.{put}
use Rattle.relation.specs.Layers.{layers_of}
use Rattle.column_trie.specs.Pool.{store, spot}
use Rattle.column_trie.specs.Table.{data_len_at, interval_len_at, rows_in, refilled, header_sound, undamaged}
use Rattle.column_trie.specs.declared.ColumnTrie.{ColumnTrie}
use Rattle.wedge.specs.Shift.{SmallFrom}
use Rattle.column_trie_path.specs.Place.{PathOf}
use Rattle.column_trie_path.specs.declared.Path.{Path}

-- layer d has room for a key at place `at`, and for an interval i where the parent is new
pub record Roomy (pool : List ℕ) (t : ColumnTrie) (d i at : ℕ) (fresh : Bool) : Type 0 where
  pub sound : header_sound (length pool) t ≡ true
  pub depth : d < t.arity
  pub key_room : data_len_at t d < t.capacity
  pub place : at ≤ data_len_at t d
  pub old : fresh ≡ false → i < interval_len_at t d
  pub new : fresh ≡ true → (i ≤ interval_len_at t d) × (interval_len_at t d < t.capacity)
  pub small : SmallFrom (spot t.start t.capacity d + t.capacity) (spot t.start t.capacity d + t.capacity + interval_len_at t d) pool

-- the table has room for a tuple that it lacks, and the path leads to where it leaves the stored rows; in a table without rows, to the top
pub record Addable (pool : List ℕ) (t : ColumnTrie) (tuple : Row) (p : Path) : Type 0 where
  pub undamaged : undamaged pool t ≡ true
  pub long : length tuple ≡ t.arity
  pub room : t.tuple_count < t.capacity
  pub empty : t.tuple_count ≡ 0 → (p.depth ≡ 0) × (p.interval ≡ 0)
  pub path : (t.tuple_count ≡ 0 → ⊥) → PathOf t.arity (rows_in pool t) tuple p × (p.depth < t.arity)

-- the layers with the row, stored over the pool, and their header
pub record RowAdded (pool pool' : List ℕ) (t : ColumnTrie) (tuple : Row) (r : ColumnTrie) : Type 0 where
  pub words : pool' ≡ store t.start t.capacity (layers_of t.arity (put tuple (rows_in pool t))) pool
  pub header : r ≡ refilled t (put tuple (rows_in pool t))
