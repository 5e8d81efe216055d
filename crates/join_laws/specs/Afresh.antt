-- Of theorems: two joins that differ in one atom: laid over in the one, in the other over a table built afresh of the rows that count.
use Rattle.std.specs.Prelude.{ℕ, ◌<◌, ◌≡◌, Bool, true, false, List}
use Rattle.relation.specs.Rows.{Members}
use Rattle.overlay.specs.Laid.{laid}
use Rattle.column_trie.specs.Table.{rows_in}
use Rattle.from_sorted.specs.Given.{rows_given}
use Rattle.column_trie_build.specs.Build.{Builds}
use Rattle.from_sorted.specs.declared.Built.{Built}
use Rattle.join_query.specs.Query.{atom_at, atom_table, atom_maker, order_of, vars_of, atom_of}
use Rattle.join_query.specs.declared.Query.{Query}
use Rattle.join_query.specs.declared.Tables.{Tables}

-- a table of `arity` words a row that a build left in pool' at the header t, of rows that are just those that count
pub record BuiltOf (arity : ℕ) (pool : List ℕ) (ts : Tables) (q : Query) (i : ℕ) (pool' : List ℕ) (ts' : Tables) (q' : Query) : Type 0 where
  pub given : List ℕ
  pub lent : List ℕ
  pub start : ℕ
  pub capacity : ℕ
  pub kinds : List Bool
  pub given' : List ℕ
  pub answer : Built
  pub builds : Builds given lent start arity capacity kinds given' pool' answer
  pub not_refused : answer.number ≡ 0
  pub table : atom_table ts' q' i ≡ answer.table
  pub rows : Members (rows_given arity given) (laid (rows_in pool (atom_table ts q i)) (rows_in pool (atom_maker ts q i)))

-- the query q over pool and ts, whose atom i is laid over; and q' over pool' and ts', the same but that this atom is plain, over a table built afresh
pub record Afresh (pool : List ℕ) (ts : Tables) (q : Query) (i : ℕ) (pool' : List ℕ) (ts' : Tables) (q' : Query) : Type 0 where
  pub atom : i < q.atom_count
  pub laid_over : (atom_at q i).laid_over ≡ true
  pub plain : (atom_at q' i).laid_over ≡ false
  pub built : BuiltOf (atom_table ts q i).arity pool ts q i pool' ts' q'
  -- all else is the same: the variables and their order, how many atoms, this one's list, and the lists and rows of the others
  pub variables : q.n ≡ q'.n
  pub order : order_of q ≡ order_of q'
  pub atoms : q.atom_count ≡ q'.atom_count
  pub list : vars_of (atom_at q i) ≡ vars_of (atom_at q' i)
  pub others : (j : ℕ) → j < q.atom_count → (j ≡ i → ⊥) → atom_of pool ts (atom_at q j) ≡ atom_of pool' ts' (atom_at q' j)
