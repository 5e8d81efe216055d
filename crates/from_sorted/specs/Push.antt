-- Internal: what the steps of a build do to a table: a key or an interval more, a row more, all rows.
use Rattle.std.specs.Prelude.{ℕ, ◌+◌, ◌-◌, ◌*◌, ◌≤◌, ◌<◌, ◌≡◌, List, [], ◌∷◌, ◌++◌, length, take, get_or, set, replicate}
use Rattle.relation.specs.Order.{Row}
use Rattle.relation.specs.Rows.{Sorted, Width, as_set}
use Rattle.relation.specs.Layers.{Layer, layer, layers_of}
use Rattle.column_trie.specs.Limits.{max_arity, max_capacity}
use Rattle.column_trie.specs.Pool.{store}
use Rattle.column_trie.specs.Table.{relengthed, key_counts, interval_counts, refilled}
use Rattle.column_trie.specs.declared.ColumnTrie.{ColumnTrie}

-- one word more at the end of the list that lies at `at` of the pool and whose length is entry d of `lens`
pub record Appends (pool : List ℕ) (at : ℕ) (lens : List ℕ) (d word : ℕ) (pool' lens' : List ℕ) : Type 0 where
  pub words : pool' ≡ set pool (at + get_or lens d 0) word
  pub count : lens' ≡ set lens d (get_or lens d 0 + 1)

-- a layer with one key more; with one interval more, which starts at the end of its keys
abbrev pub keyed : ℕ → Layer → Layer
keyed k l = record { keys = l.keys ++ (k ∷ []); intervals = l.intervals }

abbrev pub opened : Layer → Layer
opened l = record { keys = l.keys; intervals = l.intervals ++ (length l.keys ∷ []) }

-- what one more row does to layers of arity a: below column `from` nothing, then a key for each column, from column `opens` on under a new interval
pub record Turn (a : ℕ) (old new : List Layer) (row : Row) (from opens : ℕ) : Type 0 where
  pub inside : from < a
  pub known : (d : ℕ) → d < from → layer new d ≡ layer old d
  pub only : (d : ℕ) → from ≤ d → d < opens → d < a → layer new d ≡ keyed (get_or row d 0) (layer old d)
  pub under : (d : ℕ) → opens ≤ d → d < a → layer new d ≡ keyed (get_or row d 0) (opened (layer old d))

-- in the place of t, a table with these lengths that holds the rows `old`, with room for one more, and whose layers the row turns into those with it
pub record Pushing (len : ℕ) (t : ColumnTrie) (ks is : List ℕ) (old : List Row) (row : Row) (from opens : ℕ) : Type 0 where
  pub few : t.arity ≤ max_arity
  pub small : t.capacity ≤ max_capacity
  pub fits : t.start + 2 * t.arity * t.capacity ≤ len
  pub width : Width t.arity old
  pub wide : length row ≡ t.arity
  pub room : length old < t.capacity
  pub keys : ks ≡ key_counts (layers_of t.arity old)
  pub intervals : is ≡ interval_counts (layers_of t.arity old)
  pub turn : Turn t.arity (layers_of t.arity old) (layers_of t.arity (old ++ (row ∷ []))) row from opens

-- the table holds that row too, over whatever pool the rows before it were laid
pub record Pushes (pool : List ℕ) (t : ColumnTrie) (old : List Row) (row : Row) (pool' ks is : List ℕ) : Type 0 where
  pub keys : ks ≡ key_counts (layers_of t.arity (old ++ (row ∷ [])))
  pub intervals : is ≡ interval_counts (layers_of t.arity (old ++ (row ∷ [])))
  pub words :
      (p : List ℕ) → pool ≡ store t.start t.capacity (layers_of t.arity old) p → pool' ≡ store t.start t.capacity (layers_of t.arity (old ++ (row ∷ []))) p

-- for some rows that are there; and for any that are
abbrev pub CanPush : ℕ → ColumnTrie → List ℕ → List ℕ → Row → ℕ → ℕ → Type 0
CanPush len t ks is row from opens = (old : List Row) × Pushing len t ks is old row from opens

abbrev pub Pushed : List ℕ → ColumnTrie → List ℕ → List ℕ → Row → ℕ → ℕ → List ℕ → List ℕ → List ℕ → Type 0
Pushed pool t ks is row from opens pool' ks' is' = (old : List Row) → Pushing (length pool) t ks is old row from opens → Pushes pool t old row pool' ks' is'

-- the first i of the rows are held, from a pool in which the first was
pub record Filled (t : ColumnTrie) (rows : List Row) (pool₀ pool ks is : List ℕ) (i : ℕ) : Type 0 where
  pub low : 0 < i
  pub high : i ≤ length rows
  pub long : length pool ≡ length pool₀
  pub keys : ks ≡ key_counts (layers_of t.arity (take i rows))
  pub intervals : is ≡ interval_counts (layers_of t.arity (take i rows))
  pub words : (p : List ℕ) → pool₀ ≡ store t.start t.capacity (layers_of t.arity (take 1 rows)) p → pool ≡ store t.start t.capacity (layers_of t.arity (take i rows)) p

-- an empty table with room for the rows, which are sorted
pub record Filling (len : ℕ) (t : ColumnTrie) (rows : List Row) : Type 0 where
  pub positive : 0 < t.arity
  pub few : t.arity ≤ max_arity
  pub small : t.capacity ≤ max_capacity
  pub fits : t.start + 2 * t.arity * t.capacity ≤ len
  pub room : length rows ≤ t.capacity
  pub sorted : Sorted rows
  pub empty : t ≡ relengthed t (replicate max_arity 0) (replicate max_arity 0) 0

-- the table holds the set of the rows, its columns are of the kinds that they were
pub record Fills (pool : List ℕ) (t : ColumnTrie) (rows : List Row) (pool' : List ℕ) (r : ColumnTrie) : Type 0 where
  pub header : r ≡ refilled t (as_set rows)
  pub words : pool' ≡ store t.start t.capacity (layers_of t.arity (as_set rows)) pool

-- a table of which the first i of such rows are held, the last of them and the next one
pub record Following (len : ℕ) (t : ColumnTrie) (rows : List Row) (pool₀ pool ks is : List ℕ) (i : ℕ) (last row : Row) : Type 0 where
  pub filling : Filling len t rows
  pub width : Width t.arity rows
  pub filled : Filled t rows pool₀ pool ks is i
  pub same : length pool ≡ len
  pub more : i < length rows
  pub last_is : last ≡ get_or rows (i - 1) []
  pub row_is : row ≡ get_or rows i []

-- for some rows of which the last and the next are these; and for any
abbrev pub CanFollow : List ℕ → ColumnTrie → List ℕ → List ℕ → Row → Row → Type 0
CanFollow pool t ks is last row = (len : ℕ) × (rows : List Row) × (pool₀ : List ℕ) × (i : ℕ) × Following len t rows pool₀ pool ks is i last row

abbrev pub Followed : List ℕ → ColumnTrie → List ℕ → List ℕ → Row → Row → List ℕ → List ℕ → List ℕ → Type 0
Followed pool t ks is last row pool' ks' is' =
    (len : ℕ) (rows : List Row) (pool₀ : List ℕ) (i : ℕ) → Following len t rows pool₀ pool ks is i last row → Filled t rows pool₀ pool' ks' is' (i + 1)
