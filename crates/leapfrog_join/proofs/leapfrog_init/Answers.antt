-- `leapfrog_join::leapfrog_init` meets its contract: the sorted ring has the same atoms and is ordered from its first place, so the search may start.
use mathlib.Core.Path.{◌≡◌, ap, ◌∙◌}
use mathlib.Core.List.{List, ◌++◌}
use Prim.Native.Nat.{ℕ}
use lib.ListN.{drop}
use Rattle.ring_sort.specs.Sorted.{key_at, sorted_atoms}
use Rattle.leapfrog_search.proofs.Runs.{enough}
use Rattle.leapfrog_join.proofs.Beginning.{first_sorted, begun_same, begun_ordered, begun}
use Rattle.leapfrog_join.proofs.Laws.{same_ready}
use Rattle.leapfrog_join.proofs.leapfrog_init.Goals as goal
use Rattle.leapfrog_join.proofs.leapfrog_init.Goals.{After-sort_ring}

-- the ring behind the sort of its first k
sorted : (c : After-sort_ring) → let a = c.args in c.sort_ring.new.ring ++ drop a.k a.ring.now ≡ sorted_atoms (key_at a.pool.now a.at.now) a.ring.now a.k ++ drop a.k a.ring.now
sorted c = let a = c.args in ap (λ (l : List ℕ). l ++ drop a.k a.ring.now) (c.sort_ring.ensures ∙ first_sorted (key_at a.pool.now a.at.now) a.ring.now a.k (enough c.requires.ready))

pub leapfrog_search-requires-clause-ready : goal.leapfrog_search-requires-clause-ready
leapfrog_search-requires-clause-ready c =
    let r = c.requires.ready in
    same_ready (begun_same r c.requires.ascends (sorted (goal.at.leapfrog_search-requires-clause-ready c).After-sort_ring)) r

pub leapfrog_search-requires-clause-ordered : goal.leapfrog_search-requires-clause-ordered
leapfrog_search-requires-clause-ordered c = begun_ordered c.requires.ready c.requires.ascends (sorted (goal.at.leapfrog_search-requires-clause-ordered c).After-sort_ring)

pub returns : goal.returns
returns c = begun c.requires.ready c.requires.ascends (sorted (goal.at.returns c).After-sort_ring) c.leapfrog_search.ensures
