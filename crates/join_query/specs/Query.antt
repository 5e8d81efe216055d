-- Public: a query in the call's words, as the theory of joins has it: its numbers as lists, its atoms with the relations of their tables, and its checks.
use Rattle.std.specs.Prelude.{ℕ, ◌%◌, ◌≡◌, Bool, true, false, ◌&&◌, ◌||◌, not, List, [], map, length, take, get_or, eqb, ltb, leb}
use Rattle.std.specs.Bool.{beq}
use Rattle.relation.specs.Order.{Row, pick}
use Rattle.relation.specs.Tests as index
use Rattle.query.specs.Meaning as meaning
use Rattle.query.specs.Checks.{some, permutes, listed, covers}
use Rattle.column_trie.specs.Limits.{max_arity}
use Rattle.column_trie.specs.Table.{no_table, grade_at, rows_in, undamaged}
use Rattle.column_trie.specs.declared.ColumnTrie.{ColumnTrie}
use Rattle.overlay.specs.Laid.{laid}
use Rattle.laid_over.specs.Shape.{same_shape}
use Rattle.query.specs.Limits.{max_atoms}
use Rattle.join_query.specs.declared.Atom.{Atom}
use Rattle.join_query.specs.declared.Query.{Query}
use Rattle.join_query.specs.declared.Tables.{Tables}

-- how many tables and variables there may be: the code's associated constants are these. The limit on atoms is query's
abbrev pub max_tables : ℕ
max_tables = 8

abbrev pub max_variables : ℕ
max_variables = 8

-- what stands where an atom is looked up by a number that none has
abbrev pub no_atom : Atom
no_atom = record { table = 0; len = 0; variables = []; laid_over = false; maker = 0 }

abbrev pub atom_at : Query → ℕ → Atom
atom_at q i = get_or q.atoms i no_atom

abbrev pub table_at : Tables → ℕ → ColumnTrie
table_at ts i = get_or ts.tables i no_table

-- the order, n numbers long; an atom's list; the atoms; their lists
abbrev pub order_of : Query → List ℕ
order_of q = take q.n q.order

abbrev pub vars_of : Atom → List ℕ
vars_of a = take a.len a.variables

abbrev pub atoms_in : Query → List Atom
atoms_in q = take q.atom_count q.atoms

abbrev pub lists_of : Query → List (List ℕ)
lists_of q = map vars_of (atoms_in q)

-- the variable that binds column j of an atom
abbrev pub var_at : Atom → ℕ → ℕ
var_at a j = get_or a.variables j 0

-- an atom's rows: those that its table holds in the pool; where it is laid over, those of its table and its maker's that count
unfoldable pub rows_at : List ℕ → Tables → Atom → List Row
unfolding laid
rows_at pool ts a =
    pick a.laid_over (laid (rows_in pool (table_at ts a.table)) (rows_in pool (table_at ts a.maker)))
    (rows_in pool (table_at ts a.table))

-- the atoms of the theory: their lists, with their rows
abbrev pub atom_of : List ℕ → Tables → Atom → meaning.Atom
atom_of pool ts a = record { vars = vars_of a; rows = rows_at pool ts a }

abbrev pub atoms_of : List ℕ → Tables → Query → List meaning.Atom
atoms_of pool ts q = map (atom_of pool ts) (atoms_in q)

-- atom i's table; its maker's, where it is laid over
abbrev pub atom_table : Tables → Query → ℕ → ColumnTrie
atom_table ts q i = table_at ts (atom_at q i).table

abbrev pub atom_maker : Tables → Query → ℕ → ColumnTrie
atom_maker ts q i = table_at ts (atom_at q i).maker

-- ---- the checks, in document 01's sequence, with 15 and 16 of document 02 behind 11, and 17 behind 6

-- not 8: the order is a permutation of 0 to n - 1, and n is at most 8
unfoldable pub order_ok : Query → Bool
unfolding permutes
order_ok q = leb q.n max_variables && permutes q.n (order_of q)

-- an atom's table is one of so many; and so is its maker's, where it is laid over
abbrev pub names_some : ℕ → Atom → Bool
names_some count a = ltb a.table count && (not a.laid_over || ltb a.maker count)

-- not 9: at most 8 atoms and tables, and each atom names tables
unfoldable pub named_ok : ℕ → Query → Bool
unfolding index.every
named_ok count q = leb q.atom_count max_atoms && (leb count max_tables && index.every q.atom_count (λ (i : ℕ). names_some count (atom_at q i)))

-- not 10, of one atom
unfoldable pub listed_at : Query → Atom → ℕ → Bool
unfolding listed
listed_at q a arity = leb a.len max_arity && listed q.n (order_of q) arity (vars_of a)

abbrev pub list_ok : Tables → Query → ℕ → Bool
list_ok ts q i = listed_at q (atom_at q i) (table_at ts (atom_at q i).table).arity

-- column j of an atom's list is column j of its table: where v binds it, it is of this kind (yes: grade)
abbrev pub column_ok : ColumnTrie → Atom → ℕ → Bool → ℕ → Bool
column_ok t a v grade j = not (eqb (var_at a j) v) || beq (grade_at t j) grade

-- the same of each column of atom i
abbrev pub columns_ok : Tables → Query → ℕ → Bool → ℕ → Bool
columns_ok ts q v grade i = index.every (atom_at q i).len (column_ok (atom_table ts q i) (atom_at q i) v grade)

-- v binds only columns of this kind
abbrev pub binds_only : Tables → Query → ℕ → Bool → Bool
binds_only ts q v grade = index.every q.atom_count (columns_ok ts q v grade)

-- not 15, of one variable: it binds only plain columns, or only grades
abbrev pub one_kind : Tables → Query → ℕ → Bool
one_kind ts q v = binds_only ts q v false || binds_only ts q v true

-- not 16: a window of len words is some number of rows of n words long; where they have no words, any is
abbrev pub whole_rows : ℕ → ℕ → Bool
whole_rows n len = eqb n 0 || eqb (len % n) 0

-- the atom names table t: as its table, or as its maker's where it is laid over
abbrev pub names : ℕ → Atom → Bool
names t a = eqb a.table t || (a.laid_over && eqb a.maker t)

-- an atom names table t
unfoldable pub named : Query → ℕ → Bool
unfolding some
named q t = some (names t) (atoms_in q)

-- not 6, of one table: undamaged, where an atom names it
unfoldable pub sound_at : List ℕ → Tables → Query → ℕ → Bool
unfolding named undamaged
sound_at pool ts q t = not (named q t) || undamaged pool (table_at ts t)

-- not 17, of one atom: where it is laid over, its two tables are of the same shape
abbrev pub shapes_agree : Tables → Atom → Bool
shapes_agree ts a = not a.laid_over || same_shape (table_at ts a.table) (table_at ts a.maker)

abbrev pub shape_ok : Tables → Query → ℕ → Bool
shape_ok ts q i = shapes_agree ts (atom_at q i)

-- the refusal, or 0, where the window has len words
unfoldable pub join_number : List ℕ → Tables → Query → ℕ → ℕ
unfolding order_ok named_ok listed_at covers sound_at same_shape
join_number pool ts q len =
    pick (not (order_ok q)) 8
    (pick (not (named_ok ts.count q)) 9
    (pick (not (index.every q.atom_count (list_ok ts q))) 10
    (pick (not (covers q.n (lists_of q))) 11
    (pick (not (index.every q.n (one_kind ts q))) 15
    (pick (not (whole_rows q.n len)) 16
    (pick (not (index.every ts.count (sound_at pool ts q))) 6
    (pick (not (index.every q.atom_count (shape_ok ts q))) 17
    0)))))))

-- the query passed the checks, with a window of len words; that its array of atoms is full is what its type says
pub record Accepted (pool : List ℕ) (ts : Tables) (q : Query) (len : ℕ) : Type 0 where
  pub passed : join_number pool ts q len ≡ 0
  pub whole : length q.atoms ≡ max_atoms
