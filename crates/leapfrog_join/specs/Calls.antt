-- Internal: what the first call of a leapfrog and its seek leave, beside what every call does (crates/leapfrog_search, `Ran`).
use Rattle.std.specs.Prelude.{◌≡◌, Bool, false, List, ◌++◌, ℕ, drop, eqb}
use Rattle.ring_sort.specs.Sorted.{key_at, sorted_atoms}
use Rattle.leapfrog.specs.Search.{Went, init_of}
use Rattle.leapfrog_search.specs.Leapfrog.{runs_in, Ran}
use Rattle.leapfrog_search.specs.declared.Landed.{Landed}
use Rattle.leapfrog_search.specs.declared.Landed.TheVariants.{Key, Nothing}
use Rattle.leapfrog_search.specs.declared.Searched.{Searched}
use Rattle.leapfrog_join.specs.declared.SearchedFor.{SearchedFor}

-- whether a seek of the target that ended so hit it: on a common key that is the target
abbrev pub hit_on : ℕ → Landed → Bool
hit_on target (Key x p) = eqb x target
hit_on target (Nothing p) = false

-- what a leapfrog's seek leaves: besides, whether it hit
pub record RanFor (pool end ring : List ℕ) (k : ℕ) (at₀ at : List ℕ) (target : ℕ) (w : Went) (r : SearchedFor) : Type 0 where
  pub ran : Ran pool end ring k at₀ at w r.searched
  pub hit : r.hit ≡ hit_on target r.searched.landed

-- what the first call leaves: besides, the ring sorted by the keys at its start
pub record Begun (pool end : List ℕ) (k : ℕ) (ring₀ ring at₀ at : List ℕ) (r : Searched) : Type 0 where
  pub order : ring ≡ sorted_atoms (key_at pool at₀) ring₀ k ++ drop k ring₀
  pub ran : Ran pool end ring k at₀ at (init_of (runs_in pool at₀ end ring₀ k)) r
