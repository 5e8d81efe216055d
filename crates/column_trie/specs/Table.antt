-- Public: a table in the pool: its header, the layers that its words hold, and when it is undamaged.
use Rattle.std.specs.Prelude.{ℕ, ◌+◌, ◌*◌, ◌-◌, ◌≤◌, ◌<◌, ◌≡◌, Bool, false, ◌&&◌, ◌||◌, not, List, [], ◌++◌, map, length, take, drop, get_or, replicate, ltb, leb, eqb}
use Rattle.relation.specs.Tests.{every}
use Rattle.relation.specs.Order.{Row}
use Rattle.relation.specs.Layers.{Layer, layers_of}
use Rattle.relation.specs.Undamaged as layers
use Rattle.relation.specs.Paths.{rows_of}
use Rattle.column_trie.specs.Limits.{max_arity, max_capacity}
use Rattle.column_trie.specs.Pool.{spot, reads}
use Rattle.column_trie.specs.declared.ColumnTrie.{ColumnTrie}

-- a header's two lengths at depth d
abbrev pub data_len_at : ColumnTrie → ℕ → ℕ
data_len_at t d = get_or t.data_len d 0

abbrev pub interval_len_at : ColumnTrie → ℕ → ℕ
interval_len_at t d = get_or t.interval_len d 0

-- whether column d is a grade
abbrev pub grade_at : ColumnTrie → ℕ → Bool
grade_at t d = get_or t.grade d false

-- a header, field by field: where a definition makes one, it is by this name
abbrev pub header_with : ℕ → ℕ → ℕ → List ℕ → List ℕ → ℕ → List Bool → ColumnTrie
header_with start arity capacity data_lens interval_lens count kinds =
    record {
      start = start;
      arity = arity;
      capacity = capacity;
      data_len = data_lens;
      interval_len = interval_lens;
      tuple_count = count;
      grade = kinds;
    }

-- the same header with other lengths and another count
abbrev pub relengthed : ColumnTrie → List ℕ → List ℕ → ℕ → ColumnTrie
relengthed t data_lens interval_lens count = header_with t.start t.arity t.capacity data_lens interval_lens count t.grade

-- one length for each depth, 0 past the last
abbrev pub padded : List ℕ → List ℕ
padded ns = ns ++ replicate (max_arity - length ns) 0

-- the numbers of keys and of intervals of the layers, as a header has them
abbrev pub key_counts : List Layer → List ℕ
key_counts ls = padded (map (λ l. length l.keys) ls)

abbrev pub interval_counts : List Layer → List ℕ
interval_counts ls = padded (map (λ l. length l.intervals) ls)

-- the header of a table that holds these layers and this many rows
abbrev pub header : ℕ → ℕ → ℕ → List Bool → List Layer → ℕ → ColumnTrie
header start arity capacity kinds ls count = header_with start arity capacity (key_counts ls) (interval_counts ls) count kinds

-- of a table that holds the layers of these rows
abbrev pub table_of : ℕ → ℕ → ℕ → List Bool → List Row → ColumnTrie
table_of start arity capacity kinds rows = header start arity capacity kinds (layers_of arity rows) (length rows)

-- the same header, of a table that holds the layers of other rows
abbrev pub refilled : ColumnTrie → List Row → ColumnTrie
refilled t rows = table_of t.start t.arity t.capacity t.grade rows

-- a header's arrays of lengths have one entry for each depth: what the type says of them
pub record Whole (t : ColumnTrie) : Type 0 where
  pub data_long : length t.data_len ≡ max_arity
  pub interval_long : length t.interval_len ≡ max_arity

-- of a table without rows, all columns plain
abbrev pub empty_table : ℕ → ℕ → ℕ → ColumnTrie
empty_table start arity capacity = header_with start arity capacity (replicate max_arity 0) (replicate max_arity 0) 0 (replicate max_arity false)

-- what stands where a table is looked up by a number that none has
abbrev pub no_table : ColumnTrie
no_table = header_with 0 0 0 [] [] 0 []

-- the layers of a table in the pool, as long as its header says, and the rows that they hold
abbrev pub layers_in : List ℕ → ColumnTrie → List Layer
layers_in pool t = reads t.start t.capacity (take t.arity t.data_len) (take t.arity t.interval_len) pool

-- the layer at one depth
abbrev pub layer_in : List ℕ → ColumnTrie → ℕ → Layer
layer_in pool t d =
    record {
      keys = take (data_len_at t d) (drop (spot t.start t.capacity d) pool);
      intervals = take (interval_len_at t d) (drop (spot t.start t.capacity d + t.capacity) pool);
    }

abbrev pub rows_in : List ℕ → ColumnTrie → List Row
rows_in pool t = rows_of (layers_in pool t)

-- ---- undamaged, as a record and as a test

pub record Undamaged (pool : List ℕ) (t : ColumnTrie) : Type 0 where
  -- "it fits limits and pool, no length exceeds c, those past the arity are 0, and the count is the last layer's data length"
  pub arity : (0 < t.arity) × (t.arity ≤ max_arity)
  pub capacity : (0 < t.capacity) × (t.capacity ≤ max_capacity)
  pub fits : t.start + 2 * t.arity * t.capacity ≤ length pool
  pub within : (d : ℕ) → d < max_arity → (data_len_at t d ≤ t.capacity) × (interval_len_at t d ≤ t.capacity)
  pub past : (d : ℕ) → t.arity ≤ d → d < max_arity → (data_len_at t d ≡ 0) × (interval_len_at t d ≡ 0)
  -- "a grade past the arity is damage"
  pub plain : (d : ℕ) → t.arity ≤ d → d < max_arity → grade_at t d ≡ false
  -- the count, the two shapes, and the order of intervals and keys
  pub layers : layers.Undamaged t.arity t.capacity (layers_in pool t) t.tuple_count

abbrev pub arity_ok : ℕ → Bool
arity_ok arity = ltb 0 arity && leb arity max_arity

abbrev pub capacity_ok : ℕ → Bool
capacity_ok capacity = ltb 0 capacity && leb capacity max_capacity

-- the 2ac words from the start lie in a pool of len words
abbrev pub lies_in : ℕ → ℕ → ℕ → ℕ → Bool
lies_in len start arity capacity = leb (start + 2 * arity * capacity) len

-- no length exceeds the capacity
abbrev pub within_at : ColumnTrie → ℕ → Bool
within_at t d = leb (data_len_at t d) t.capacity && leb (interval_len_at t d) t.capacity

-- what a cursor asks of a header: arity, capacity, pool range and lengths
abbrev pub header_sound : ℕ → ColumnTrie → Bool
header_sound len t = arity_ok t.arity && (capacity_ok t.capacity && (lies_in len t.start t.arity t.capacity && every max_arity (within_at t)))

-- no length and no grade past the arity
abbrev pub past_at : ColumnTrie → ℕ → Bool
past_at t d = ltb d t.arity || (eqb (data_len_at t d) 0 && (eqb (interval_len_at t d) 0 && not (grade_at t d)))

-- the header's tests, then those of the layers that it describes
unfoldable pub undamaged : List ℕ → ColumnTrie → Bool
undamaged pool t = header_sound (length pool) t && (every max_arity (past_at t) && layers.undamaged t.arity t.capacity (layers_in pool t) t.tuple_count)
