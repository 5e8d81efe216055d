-- "Build leaves the layers of the set of rows": the table of an accepted build is undamaged, and its rows are those given, ascending, each once.
use Prim.Native.Nat.{ℕ, ◌≤◌}
use mathlib.Core.Path.{◌≡◌, sym, ap, ◌∙◌, subst, subst₂}
use mathlib.Core.Bool.{Bool}
use mathlib.Core.List.{List}
use native.Mathlib.Omega.{arith}
use lib.ListN.{length}
use Rattle.relation.specs.Order.{Row}
use Rattle.relation.specs.Rows.{Asc, Width, Members, as_set}
use Rattle.relation.specs.Layers.{layers_of}
use Rattle.relation.proofs.Sorting.{as_set_asc, as_set_members, length_as_set}
use Rattle.column_trie.specs.Pool.{store}
use Rattle.column_trie.specs.Table.{table_of, empty_table, layers_in, rows_in, Undamaged}
use Rattle.column_trie.specs.declared.ColumnTrie.{ColumnTrie}
use Rattle.column_trie.proofs.Tables.{stored}
use Rattle.from_sorted.specs.Given.{rows_given}
use Rattle.from_sorted.specs.Answer.{kept_kinds}
use Rattle.column_trie_build.specs.Build.{build_number, Builds}
use Rattle.from_sorted.specs.declared.Built.{Built}
use Rattle.column_trie_build.proofs.Numbers.{Accepted, accepted}
use Rattle.from_sorted.proofs.Given.{length_given, width_given}
use Rattle.from_sorted.proofs.Answer.{if_built}
use Rattle.from_sorted.proofs.Taken.{kept_plain}

-- what an accepted build over `given` leaves in the pool
pub record LayersOfTheSet (given : List ℕ) (arity : ℕ) (pool : List ℕ) (t : ColumnTrie) : Type 0 where
  pub undamaged : Undamaged pool t
  pub layers : layers_in pool t ≡ layers_of arity (as_set (rows_given arity given))
  pub rows : rows_in pool t ≡ as_set (rows_given arity given)
  pub ascending : Asc (rows_in pool t)
  pub members : Members (rows_in pool t) (rows_given arity given)

module _ (given lent : List ℕ) (start arity capacity : ℕ) (a : Accepted (length given) (length lent) start arity capacity) where
  pub set_width : Width arity (as_set (rows_given arity given))
  set_width q m = width_given arity given q ((as_set_members (rows_given arity given) q).0 m)

  pub set_few : length (as_set (rows_given arity given)) ≤ capacity
  set_few = omega (arith, length_as_set (rows_given arity given), length_given arity given, a.room)

  leaves : (kinds : List Bool) → LayersOfTheSet given arity (store start capacity (layers_of arity (as_set (rows_given arity given))) lent) (table_of start arity capacity (kept_kinds arity kinds) (as_set (rows_given arity given)))
  leaves kinds =
      let s = stored start arity capacity (kept_kinds arity kinds) (as_set (rows_given arity given)) lent a.positive a.few a.roomy a.small a.fits (kept_plain arity kinds) (as_set_asc (rows_given arity given)) set_width set_few in
      record {
        undamaged = s.undamaged;
        layers = s.layers_back;
        rows = s.rows_back;
        ascending = subst Asc (sym s.rows_back) (as_set_asc (rows_given arity given));
        members = subst (λ (rs : List Row). Members rs (rows_given arity given)) (sym s.rows_back) (as_set_members (rows_given arity given));
      }

-- what a contract with number 0 says of table and pool
module _ (given lent : List ℕ) (start arity capacity : ℕ) (kinds : List Bool) {given' lent' : List ℕ} {r : Built} (b : Builds given lent start arity capacity kinds given' lent' r) (z : r.number ≡ 0) where
  pub zero_number : build_number (length given) (length lent) start arity capacity ≡ 0
  zero_number = sym (ap (λ (x : Built). x.number) b.answer) ∙ z

  pub built_accepted : Accepted (length given) (length lent) start arity capacity
  built_accepted = accepted (length given) (length lent) start arity capacity zero_number

  pub built_pool : lent' ≡ store start capacity (layers_of arity (as_set (rows_given arity given))) lent
  built_pool =
      b.pool
      ∙ if_built (build_number (length given) (length lent) start arity capacity) (store start capacity (layers_of arity (as_set (rows_given arity given))) lent) lent zero_number

  pub built_table : r.table ≡ table_of start arity capacity (kept_kinds arity kinds) (as_set (rows_given arity given))
  built_table =
      ap (λ (x : Built). x.table) b.answer
      ∙ if_built (build_number (length given) (length lent) start arity capacity) (table_of start arity capacity (kept_kinds arity kinds) (as_set (rows_given arity given))) (empty_table 0 0 0) zero_number

  pub build_leaves_the_layers_of_the_set_of_rows : LayersOfTheSet given arity lent' r.table
  build_leaves_the_layers_of_the_set_of_rows = subst₂ (LayersOfTheSet given arity) (sym built_pool) (sym built_table) (leaves given lent start arity capacity built_accepted kinds)

  -- "stores those past the arity as plain"
  pub build_stores_the_kinds_of_the_columns : r.table.grade ≡ kept_kinds arity kinds
  build_stores_the_kinds_of_the_columns = ap (λ (t : ColumnTrie). t.grade) built_table
