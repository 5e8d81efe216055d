-- Internal: the contract of `walk_rest`: where a depth's leapfrog stands on a key, or has none left, and that the rows under the keys left are written.
use Rattle.std.specs.Prelude.{ℕ, suc, ◌<◌, ◌≡◌, Bool, false, get_or, set, drop}
use mathlib.Core.List.{List, map, flat_map}
use Rattle.relation.specs.Order.{Row}
use Rattle.relation.specs.Lists.{◌∈◌}
use Rattle.query.specs.Meaning.{Atom}
use Rattle.query.specs.Solve.{bind, extend}
use Rattle.query.specs.Window.{emits}
use Rattle.query.specs.Descend.{standings}
use Rattle.leapfrog_search.specs.Ring.{SameAtoms}
use Rattle.leapfrog_search.specs.Leapfrog.{left_of}
use Rattle.leapfrog_search.specs.declared.Landed.{Landed}
use Rattle.stretches.specs.Stand.{wholes_in}
use Rattle.stretches.specs.declared.State.{State}
use Rattle.join_query.specs.Query.{order_of, atoms_of}
use Rattle.join_query.specs.declared.Query.{Query}
use Rattle.join_query.specs.declared.Tables.{Tables}
use Rattle.join_plan.specs.Plan.{Plan}
use Rattle.join_window.specs.Window.{written}
use Rattle.join_openings.specs.Openings.{count_at}
use Rattle.join_depths.specs.Depth.{Based, Opened, AgreedAt, IfFound, common_at}

-- the keys that are left where a leapfrog landed so
abbrev pub keys_at : List ℕ → Plan → List ℕ → ℕ → State → List ℕ → Landed → List ℕ
keys_at pool plan ends d z by_atom landed = left_of (wholes_in pool z ends by_atom (count_at plan d)) landed

-- of one query: they are common keys of the depth, and where there is one, the atoms are opened
pub record KeysLeft (pool : List ℕ) (ts : Tables) (q : Query) (plan : Plan) (ends : List ℕ) (n d : ℕ) (z : State) (by_atom : List ℕ) (f : ℕ → Row) (landed : Landed) : Type 0 where
  pub based : Based pool ts q plan ends n d f
  pub among : (k : ℕ) → k ∈ keys_at pool plan ends d z by_atom landed → k ∈ common_at pool ts q d f
  pub opened : IfFound landed (Opened pool ts q plan ends n d z by_atom f)

-- some query's keys are left so: what `walk_rest` asks. What it leaves it says of every such query
pub record Underway (pool : List ℕ) (plan : Plan) (ends : List ℕ) (n d : ℕ) (z : State) (ring by_atom : List ℕ) (landed : Landed) : Type 0 where
  pub below : d < n
  pub agreed : AgreedAt pool z ends by_atom (count_at plan d) landed
  pub same : IfFound landed (SameAtoms by_atom ring (count_at plan d))
  pub tables : Tables
  pub query : Query
  pub words : ℕ → Row
  pub left : KeysLeft pool tables query plan ends n d z by_atom words landed

-- the rows that complete `row` with the word k for the variable v
abbrev pub rows_under : ℕ → ℕ → List ℕ → List Atom → Row → ℕ → List Row
rows_under n v vs atoms row k = extend n vs (map (bind v k) atoms) (set row v k)

-- those of all keys left, at depth d of a query
abbrev pub rows_left : List ℕ → Tables → Query → ℕ → ℕ → (ℕ → Row) → Row → List ℕ → List Row
rows_left pool ts q n d f row keys = flat_map (rows_under n (get_or (order_of q) d 0) (drop (suc d) (order_of q)) (standings f (atoms_of pool ts q)) row) keys

-- they are emitted
pub record Walks (pool : List ℕ) (plan : Plan) (ends : List ℕ) (n d : ℕ) (z : State) (by_atom : List ℕ) (landed : Landed) (found w₀ : List ℕ) (from : ℕ) (w : List ℕ) (rows : ℕ) (full : Bool) : Type 0 where
  pub emitted : (ts : Tables) (q : Query) (f : ℕ → Row) → KeysLeft pool ts q plan ends n d z by_atom f landed → written w rows full ≡ emits n (written w₀ from false) (rows_left pool ts q n d f found (keys_at pool plan ends d z by_atom landed))
