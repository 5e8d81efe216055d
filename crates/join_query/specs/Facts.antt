-- Of theorems: what documents 01 and 02 ask of a query, as facts: one record for each number, in the sequence of the checks. They say nothing of how a check is made.
use Rattle.std.specs.Prelude.{ℕ, ◌*◌, ◌≤◌, ◌<◌, ◌≡◌, ◌⊎◌, true, length}
use mathlib.Core.List.{List, Sublistᴰ}
use Rattle.relation.specs.Lists.{◌∈◌}
use Rattle.query.specs.Meaning.{Permutation}
use Rattle.column_trie.specs.Limits.{max_arity}
use Rattle.column_trie.specs.Table.{grade_at, Undamaged}
use Rattle.laid_over.specs.Shape.{SameShape}
use Rattle.query.specs.Limits.{max_atoms}
use Rattle.join_query.specs.Query.{max_tables, max_variables, atom_at, table_at, atom_table, atom_maker, order_of, vars_of, var_at}
use Rattle.join_query.specs.declared.Atom.{Atom}
use Rattle.join_query.specs.declared.Query.{Query}
use Rattle.join_query.specs.declared.Tables.{Tables}

-- the arrays are as long as their types say
pub record Typed (q : Query) : Type 0 where
  pub atoms : length q.atoms ≡ max_atoms
  pub variables : (i : ℕ) → i < max_atoms → length (atom_at q i).variables ≡ max_arity

-- not 8: the order, n numbers long, is a permutation of 0 to n - 1, and n is not over 8
pub record Ordered (q : Query) : Type 0 where
  pub few : q.n ≤ max_variables
  pub permutation : Permutation q.n (order_of q)

-- not 9: not over 8 atoms or tables, and each atom names a table, its maker's too where it is laid over
pub record Named (count : ℕ) (q : Query) : Type 0 where
  pub few : q.atom_count ≤ max_atoms
  pub bounded : count ≤ max_tables
  pub each : (i : ℕ) → i < q.atom_count → (atom_at q i).table < count
  pub maker : (i : ℕ) → i < q.atom_count → (atom_at q i).laid_over ≡ true → (atom_at q i).maker < count

-- not 10, of one atom: its list is as long as its table's arity, which is not over 8, holds no number from n up, and strictly follows the order: it is
-- the order with some variables left out
pub record Follows (q : Query) (a : Atom) (arity : ℕ) : Type 0 where
  pub exact : a.len ≡ arity
  pub short : a.len ≤ max_arity
  pub below : (x : ℕ) → x ∈ vars_of a → x < q.n
  pub strictly : Sublistᴰ (vars_of a) (order_of q)

-- of each
abbrev pub AllFollow : Tables → Query → Type 0
AllFollow ts q = (i : ℕ) → i < q.atom_count → Follows q (atom_at q i) (table_at ts (atom_at q i).table).arity

-- not 11: each variable is in some atom's list
abbrev pub Covered : Query → Type 0
Covered q = (x : ℕ) → x < q.n → (i : ℕ) × (i < q.atom_count) × (x ∈ vars_of (atom_at q i))

-- atom i's list has a column j
pub record HasColumn (q : Query) (i j : ℕ) : Type 0 where
  pub atom : i < q.atom_count
  pub place : j < (atom_at q i).len

-- not 15: two columns that the same variable binds are of the same kind
abbrev pub SameKinds : Tables → Query → Type 0
SameKinds ts q = (i j k l : ℕ) → HasColumn q i j → HasColumn q k l → var_at (atom_at q i) j ≡ var_at (atom_at q k) l → grade_at (atom_table ts q i) j ≡ grade_at (atom_table ts q k) l

-- not 16: n is 0, or the window, len words long, is some number of rows of n words long
abbrev pub WholeRows : ℕ → ℕ → Type 0
WholeRows n len = (n ≡ 0) ⊎ ((rows : ℕ) × (len ≡ rows * n))

-- not 6: each table that an atom names is undamaged, and where it is laid over its maker's too
pub record SoundTables (pool : List ℕ) (ts : Tables) (q : Query) : Type 0 where
  pub each : (i : ℕ) → i < q.atom_count → Undamaged pool (atom_table ts q i)
  pub maker : (i : ℕ) → i < q.atom_count → (atom_at q i).laid_over ≡ true → Undamaged pool (atom_maker ts q i)

-- not 17: the two tables of each atom that is laid over are of the same arity and kinds
abbrev pub SameShapes : Tables → Query → Type 0
SameShapes ts q = (i : ℕ) → i < q.atom_count → (atom_at q i).laid_over ≡ true → SameShape (atom_table ts q i) (atom_maker ts q i)

-- none of these numbers, where the window has len words
pub record Passing (pool : List ℕ) (ts : Tables) (q : Query) (len : ℕ) : Type 0 where
  pub ordered : Ordered q
  pub named : Named ts.count q
  pub follow : AllFollow ts q
  pub covered : Covered q
  pub kinds : SameKinds ts q
  pub window : WholeRows q.n len
  pub sound : SoundTables pool ts q
  pub shapes : SameShapes ts q
