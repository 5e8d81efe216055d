-- Internal: the contract of `descend`: what the descent leaves, of every query whose atoms stand where it starts. `Descended` says it of the rows, `Counted` of
-- the seeks, and `Completes`, the contract, has both.
use Rattle.std.specs.Prelude.{ℕ, ◌≡◌, Bool, false, List, drop}
use Rattle.relation.specs.Order.{Row}
use Rattle.query.specs.Window.{Progress}
use Rattle.query.specs.Descend.{standings, Descends}
use Rattle.leapfrog.specs.Walk.{Tally, walk_of, capped}
use Rattle.join_query.specs.Query.{order_of, atoms_of}
use Rattle.join_window.specs.Window.{written}
use Rattle.join_query.specs.declared.Query.{Query}
use Rattle.join_query.specs.declared.Tables.{Tables}
use Rattle.join_plan.specs.Plan.{Plan}
use Rattle.join_depths.specs.Depth.{Stands}

-- what the descent leaves: the rows that complete `found` are emitted
pub record Descended (pool : List ℕ) (plan : Plan) (ends : List ℕ) (n d : ℕ) (at own : List ℕ) (found : Row) (w₀ : List ℕ) (from : ℕ) (w : List ℕ) (rows : ℕ) (full : Bool) : Type 0 where
  pub descends : (ts : Tables) (q : Query) (f : ℕ → Row) → Stands pool ts q plan ends n d at own f → Descends n (drop d (order_of q)) (standings f (atoms_of pool ts q)) found (written w₀ from false) (written w rows full)

-- the definition's walk leaves the window so, and these seeks
pub record Counted (t : Tally) (s : Progress) (seeks : ℕ) : Type 0 where
  pub window : t.progress ≡ s
  pub count : seeks ≡ capped t.seeks

-- besides the rows, their seeks: those of the definition's walk
pub record Completes (pool : List ℕ) (plan : Plan) (ends : List ℕ) (n d : ℕ) (at own : List ℕ) (found : Row) (w₀ : List ℕ) (from before : ℕ) (w : List ℕ) (rows : ℕ) (full : Bool) (seeks : ℕ) : Type 0 where
  pub descended : Descended pool plan ends n d at own found w₀ from w rows full
  pub counts : (ts : Tables) (q : Query) (f : ℕ → Row) → Stands pool ts q plan ends n d at own f → (m : ℕ) → before ≡ capped m → Counted (walk_of n (drop d (order_of q)) (standings f (atoms_of pool ts q)) found (record { progress = written w₀ from false; seeks = m })) (written w rows full) seeks
