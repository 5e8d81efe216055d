-- Internal: the contract of `open_from`: what the opening of a depth leaves (crates/join_depths, specs/Depth.antt), with the keys from a target on in place of all of them.
use Rattle.std.specs.Prelude.{ℕ, ◌≡◌, List}
use Rattle.relation.specs.Order.{Row}
use Rattle.relation.specs.Runs.{from}
use Rattle.leapfrog_search.specs.Ring.{SameAtoms}
use Rattle.leapfrog_search.specs.Leapfrog.{left_of}
use Rattle.leapfrog_search.specs.declared.Landed.{Landed}
use Rattle.stretches.specs.Stand.{wholes_in}
use Rattle.stretches.specs.declared.State.{State}
use Rattle.join_query.specs.declared.Query.{Query}
use Rattle.join_query.specs.declared.Tables.{Tables}
use Rattle.join_plan.specs.Plan.{Plan}
use Rattle.join_openings.specs.Openings.{count_at}
use Rattle.join_depths.specs.Depth.{Stands, Opened, AgreedAt, IfFound, common_at}

-- of one query: the common keys from t on are left, and where there is one, the atoms are opened
pub record BeginsFrom (pool : List ℕ) (ts : Tables) (q : Query) (plan : Plan) (ends : List ℕ) (n d : ℕ) (z : State) (by_atom : List ℕ) (f : ℕ → Row) (t : ℕ) (landed : Landed) : Type 0 where
  pub keys : left_of (wholes_in pool z ends by_atom (count_at plan d)) landed ≡ from t (common_at pool ts q d f)
  pub opened : IfFound landed (Opened pool ts q plan ends n d z by_atom f)

pub record DepthFrom (pool : List ℕ) (plan : Plan) (ends : List ℕ) (n d : ℕ) (at₀ own₀ : List ℕ) (z : State) (ring by_atom : List ℕ) (t : ℕ) (landed : Landed) : Type 0 where
  pub agreed : AgreedAt pool z ends by_atom (count_at plan d) landed
  pub same : IfFound landed (SameAtoms by_atom ring (count_at plan d))
  pub begins : (ts : Tables) (q : Query) (f : ℕ → Row) → Stands pool ts q plan ends n d at₀ own₀ f → BeginsFrom pool ts q plan ends n d z by_atom f t landed
