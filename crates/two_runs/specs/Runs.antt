-- Internal: two ascending runs of the pool as one run of keys: how they stand, what a seek leaves of them, and the first stretch.
use Rattle.std.specs.Prelude.{◌≡◌, Bool, true, false, ◌⊎◌, List, ◌++◌, ℕ, ◌+◌, ◌-◌, ◌≤◌, ◌<◌, length, get_or}
use Rattle.relation.specs.Lists.{◌∈◌, Ascends}
use Rattle.overlay.specs.Merge.{merge}
use Rattle.leapfrog_search.specs.Leapfrog.{part, Reached}
use Rattle.two_runs.specs.declared.Runs.{Runs}
use Rattle.two_runs.specs.declared.Stretch.{Stretch}

-- the other one first
abbrev pub turned_of : Runs → Runs
turned_of r = record { x = r.y; e = r.f; y = r.x; f = r.e; own = 1 - r.own }

-- the keys of both
abbrev pub run_of : List ℕ → Runs → List ℕ
run_of pool r = merge (part pool r.x r.e) (part pool r.y r.f)

-- both runs lie in the pool and ascend strictly
pub record Inside (pool : List ℕ) (r : Runs) : Type 0 where
  pub low : r.x ≤ r.e
  pub high : r.e ≤ length pool
  pub ascends : Ascends ◌<◌ (part pool r.x r.e)
  pub low₂ : r.y ≤ r.f
  pub high₂ : r.f ≤ length pool
  pub ascends₂ : Ascends ◌<◌ (part pool r.y r.f)
  pub side : r.own ≤ 1

-- the first has the least key: the second has no key left, or none that is less; where both have it, the first is the school's
pub record Led (pool : List ℕ) (r : Runs) : Type 0 where
  pub inside : Inside pool r
  pub some : r.y < r.f → r.x < r.e
  pub least : r.y < r.f → get_or pool r.x 0 ≤ get_or pool r.y 0
  pub tie : r.y < r.f → get_or pool r.x 0 ≡ get_or pool r.y 0 → r.own ≡ 0

-- what the test says
abbrev pub Turns : List ℕ → Runs → Bool → Type 0
Turns pool r true = Led pool (turned_of r)
Turns pool r false = Led pool r

-- the same two runs, that with the least key first
pub record InOrder (pool : List ℕ) (r s : Runs) : Type 0 where
  pub led : Led pool s
  pub same : (s ≡ r) ⊎ (s ≡ turned_of r)

-- each run is cut at t, in the same sequence
pub record Stays (pool : List ℕ) (t : ℕ) (r s : Runs) : Type 0 where
  pub end : s.e ≡ r.e
  pub end₂ : s.f ≡ r.f
  pub reached : Reached pool r.x r.e t s.x
  pub reached₂ : Reached pool r.y r.f t s.y
  pub side : s.own ≡ r.own

-- a stretch: some keys in one piece, and what the run goes on with; behind the last there is nothing
pub record Stretched (pool : List ℕ) (s : Runs) (g : Stretch) : Type 0 where
  pub start : g.x ≡ s.x
  pub end : g.rest.e ≡ s.e
  pub end₂ : g.rest.f ≡ s.f
  pub side : g.rest.own ≡ s.own
  pub some : g.x < g.rest.x
  pub within : g.rest.x ≤ g.rest.e
  pub reached₂ : Reached pool s.y s.f (get_or pool s.x 0 + 1) g.rest.y
  pub last : g.rest.y ≡ g.rest.f → g.rest.x ≡ g.rest.e
  -- a key of the maker's is none of the school's
  pub sole : s.own ≡ 1 → (a : ℕ) → a ∈ part pool g.x g.rest.x → a ∈ part pool s.y s.f → ⊥
  pub run : run_of pool s ≡ part pool g.x g.rest.x ++ run_of pool g.rest
