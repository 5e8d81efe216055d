-- Of theorems: "two queries have the same atoms up to such rebuilding": what that means, and what their joins then have in common.
use Rattle.std.specs.Prelude.{ℕ, ◌*◌, ◌<◌, ◌≡◌, false, List, ◌++◌, length, take, drop}
use Rattle.relation.specs.Order.{Row, ◌≺◌}
use Rattle.relation.specs.Lists.{Ascends}
use Rattle.relation.specs.Rows.{Members, flat}
use Rattle.query.specs.Meaning as meaning
use Rattle.query.specs.Meaning.{part}
use Rattle.column_trie.specs.Limits.{max_arity}
use Rattle.column_trie.specs.Table.{rows_in}
use Rattle.column_trie.specs.declared.ColumnTrie.{ColumnTrie}
use Rattle.column_trie.proofs.Layers.{Whole}
use Rattle.from_sorted.specs.declared.Built.{Built}
use Rattle.column_trie_permute.specs.Permute.{Permutes}
use Rattle.join_query.specs.Query.{atom_at, table_at, order_of, vars_of, atom_of}
use Rattle.join_query.specs.declared.Atom.{Atom}
use Rattle.join_query.specs.declared.Query.{Query}
use Rattle.join_query.specs.declared.Tables.{Tables}
use Rattle.leapfrog_triejoin.specs.declared.Joined.{Joined}

-- an atom, the tables that it names one of, and the pool that they lie in
pub record Sited : Type 0 where
  pub pool : List ℕ
  pub tables : Tables
  pub atom : Atom

abbrev pub sited : List ℕ → Tables → Query → ℕ → Sited
sited pool ts q i = record { pool = pool; tables = ts; atom = atom_at q i }

-- its table, its list, and what it means: the list with the rows that count
abbrev pub table_in : Sited → ColumnTrie
table_in s = table_at s.tables s.atom.table

abbrev pub list_in : Sited → List ℕ
list_in s = vars_of s.atom

abbrev pub meant : Sited → meaning.Atom
meant s = atom_of s.pool s.tables s.atom

-- b is a, rebuilt: b's table is one that `permute` made of a's, and its list is permuted alike. Neither is laid over
pub record Rebuilt (a b : Sited) : Type 0 where
  pub columns : List ℕ
  pub into : List ℕ
  pub start : ℕ
  pub capacity : ℕ
  pub left : List ℕ
  pub answer : Built
  pub permutes : Permutes a.pool (table_in a) columns into start capacity left answer
  pub accepted : answer.number ≡ 0
  -- the header that it answered; and where other calls have written since, its rows are as it left them
  pub table : table_in b ≡ answer.table
  pub kept : rows_in b.pool (table_in b) ≡ rows_in left (table_in b)
  -- a variable for each column, and each goes where its column goes
  pub fits : length (list_in a) ≡ (table_in a).arity
  pub list : list_in b ≡ part (take (table_in a).arity columns) (list_in a)
  pub plain : a.atom.laid_over ≡ false
  pub plain' : b.atom.laid_over ≡ false
  -- what the types say
  pub whole : Whole (table_in a)
  pub long : length columns ≡ max_arity

-- the same atom up to such rebuilding: the same list and rows (laid over or not), or rebuilt, in either direction, any number of times
pub data Alike : Sited → Sited → Type 0 where
  equal : {a b : Sited} → meant a ≡ meant b → Alike a b
  there : {a b : Sited} → Rebuilt a b → Alike a b
  back : {a b : Sited} → Rebuilt b a → Alike a b
  through : {a b c : Sited} → Alike a b → Alike b c → Alike a c

-- the two queries have the same variables, and each atom of the one is an atom of the other
pub record SameAtoms (pool : List ℕ) (ts : Tables) (q : Query) (pool' : List ℕ) (ts' : Tables) (q' : Query) : Type 0 where
  pub variables : q.n ≡ q'.n
  pub forth : (i : ℕ) → i < q.atom_count → (j : ℕ) × (j < q'.atom_count) × Alike (sited pool ts q i) (sited pool' ts' q' j)
  pub back : (j : ℕ) → j < q'.atom_count → (i : ℕ) × (i < q.atom_count) × Alike (sited pool ts q i) (sited pool' ts' q' j)

-- these are the rows that a join wrote into its window, all of them, and they ascend as read in the query's order
pub record Wrote (q : Query) (window : List ℕ) (r : Joined) (after : List ℕ) (rows : List Row) : Type 0 where
  pub count : r.rows ≡ length rows
  pub words : after ≡ flat rows ++ drop (length rows * q.n) window
  pub ascending : Ascends (λ (a b : Row). part (order_of q) a ≺ part (order_of q) b) rows

-- "their rows are the same set and each listing ascends in its own order"
pub record SameRows (q : Query) (window : List ℕ) (r : Joined) (after : List ℕ) (q' : Query) (window' : List ℕ) (r' : Joined) (after' : List ℕ) : Type 0 where
  pub rows : List Row
  pub rows' : List Row
  pub wrote : Wrote q window r after rows
  pub wrote' : Wrote q' window' r' after' rows'
  pub same : Members rows rows'
