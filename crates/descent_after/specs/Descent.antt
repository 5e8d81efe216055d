-- Internal: the contract of `descend_after`: what the descent with a bound leaves, of every query whose atoms stand where it starts.
use Rattle.std.specs.Prelude.{ℕ, Bool, false, List, drop}
use Rattle.relation.specs.Order.{Row}
use Rattle.query.specs.Descend.{standings}
use Rattle.rows_after.specs.Bounded.{DescendsAfter}
use Rattle.join_query.specs.Query.{order_of, atoms_of}
use Rattle.join_query.specs.declared.Query.{Query}
use Rattle.join_query.specs.declared.Tables.{Tables}
use Rattle.join_plan.specs.Plan.{Plan}
use Rattle.join_window.specs.Window.{written}
use Rattle.join_depths.specs.Depth.{Stands}

-- the rows that complete `found` and come after the given row's words are emitted
pub record DescendedAfter (pool : List ℕ) (plan : Plan) (ends : List ℕ) (n d : ℕ) (at own : List ℕ) (found given : Row) (w₀ : List ℕ) (from : ℕ) (w : List ℕ) (rows : ℕ) (full : Bool) : Type 0 where
  pub descends : (ts : Tables) (q : Query) (f : ℕ → Row) → Stands pool ts q plan ends n d at own f → DescendsAfter n (drop d (order_of q)) (standings f (atoms_of pool ts q)) found given (written w₀ from false) (written w rows full)
