-- Internal: contracts of what an atom says of a row: what of an atom and of a query may be relied on.
use Rattle.std.specs.Prelude.{ℕ, ◌≤◌, ◌<◌, ◌≡◌, List, length}
use Rattle.column_trie.specs.Limits.{max_arity}
use Rattle.join_query.specs.Query.{max_variables, vars_of, var_at, atoms_of, Accepted}
use Rattle.join_query.specs.declared.Atom.{Atom}
use Rattle.join_query.specs.declared.Query.{Query}
use Rattle.join_query.specs.declared.Tables.{Tables}
use Rattle.plain.specs.Plain.{holder}
use Rattle.plain_keys.specs.Keys.{Readable}

-- an atom's list: no longer than its array, of variables below 8
pub record ListFits (a : Atom) : Type 0 where
  pub short : a.len ≤ max_arity
  pub below : (j : ℕ) → j < a.len → var_at a j < max_variables

-- an atom whose rows can be searched behind the words of any of its variables but the last
pub record Searched (pool : List ℕ) (ts : Tables) (a : Atom) : Type 0 where
  pub list : ListFits a
  pub reads : (c : ℕ) → c < length (vars_of a) → Readable pool ts a c

-- a query that passed the checks with some window; then it passes with one of no words (proofs/Windows.antt), which is said here, so that there is one proof of it at most
pub record Passed (pool : List ℕ) (ts : Tables) (q : Query) : Type 0 where
  pub accepted : Accepted pool ts q 0

-- v is one of the variables of a query that passed the checks, with some tables
pub record VariableOf (q : Query) (v : ℕ) : Type 0 where
  pub pool : List ℕ
  pub tables : Tables
  pub passed : Passed pool tables q
  pub below : v < q.n

-- r is the number of the first atom that holds v: whatever the tables, since the atoms' lists alone say so
pub record First (q : Query) (v r : ℕ) : Type 0 where
  pub inside : r < q.atom_count
  pub is : (pool : List ℕ) (ts : Tables) → r ≡ holder v (atoms_of pool ts q)
