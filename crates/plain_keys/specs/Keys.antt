-- Internal: contracts of the search for keys: the group of an interval, the first key of a run, and what a search may rely on.
use Rattle.std.specs.Prelude.{ℕ, suc, ◌+◌, ◌-◌, ◌^◌, ◌≤◌, ◌<◌, ◌≡◌, Bool, true, List, [], ◌∷◌, length, get_or, take, drop, Option, Some, None}
use Rattle.relation.specs.Order.{Row, pick}
use Rattle.relation.specs.Layers.{Layer}
use Rattle.query.specs.Meaning.{part}
use Rattle.column_trie.specs.Table.{Undamaged}
use Rattle.laid_over.specs.Shape.{SameShape}
use Rattle.join_query.specs.Query.{max_tables, max_variables, table_at, var_at}
use Rattle.join_query.specs.declared.Atom.{Atom}
use Rattle.join_query.specs.declared.Tables.{Tables}

-- the least key that is sought: one from `key` on, or above it
abbrev pub bound : Bool → ℕ → ℕ
bound past key = pick past (suc key) key

-- where the group of interval i begins among the layer's keys; it ends where the next one's does
abbrev pub group_at : Layer → ℕ → ℕ
group_at l i = get_or l.intervals i (length l.keys)

-- its keys
abbrev pub group_keys : Layer → ℕ → List ℕ
group_keys l i = take (group_at l (i + 1) - group_at l i) (drop (group_at l i) l.keys)

-- a group that lies among the layer's keys
pub record Grouped (l : Layer) (i : ℕ) : Type 0 where
  pub few : i < 2 ^ 63
  pub forward : group_at l i ≤ group_at l (i + 1)
  pub inside : group_at l (i + 1) ≤ length l.keys

-- the first key of a run, if it has one
unfoldable pub head_of : List ℕ → Option ℕ
head_of [] = None
head_of (k ∷ ks) = Some k

-- the words that a row has for an atom's variables, column by column
abbrev pub words : Atom → Row → Row
words a row = part a.variables row

-- a row has words for the variables of the columns up to `len`
abbrev pub Named : Atom → ℕ → Type 0
Named a len = (d : ℕ) → d ≤ len → var_at a d < max_variables

-- an atom whose rows can be searched for the keys behind a row's first len words: its variables are numbers of words, and its table, and where it is laid over its maker's of the same shape, lie undamaged in the pool
pub record Readable (pool : List ℕ) (ts : Tables) (a : Atom) (len : ℕ) : Type 0 where
  pub names : a.table < max_tables
  pub sound : Undamaged pool (table_at ts a.table)
  pub named : Named a len
  pub short : len < (table_at ts a.table).arity
  pub makes : a.laid_over ≡ true → a.maker < max_tables
  pub made : a.laid_over ≡ true → Undamaged pool (table_at ts a.maker)
  pub shape : a.laid_over ≡ true → SameShape (table_at ts a.table) (table_at ts a.maker)
