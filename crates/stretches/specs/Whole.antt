-- Internal: what a leapfrog over whole runs asks and what it leaves. It is said as in crates/leapfrog_join, with an atom's whole run for its piece.
use Rattle.std.specs.Prelude.{◌≡◌, List, ◌++◌, ℕ, ◌≤◌, get_or, take, drop}
use Rattle.relation.specs.Lists.{◌∈◌}
use Rattle.leapfrog.specs.Search.{Went, init_of}
use Rattle.ring_sort.specs.Sorted.{key_at, sorted_atoms}
use Rattle.leapfrog_search.specs.Leapfrog.{Ready, Agreed, answered}
use Rattle.leapfrog_search.specs.declared.Landed.{Landed}
use Rattle.leapfrog_search.specs.declared.Landed.TheVariants.{Key, Nothing}
use Rattle.leapfrog_search.specs.declared.Searched.{Searched}
use Rattle.stretches.specs.Stand.{Stand, stand_of, wholes_in, Tailed, Sized, Laid}
use Rattle.stretches.specs.declared.State.{State}

-- each of the first k atoms of the ring stands on a key of its piece
pub record WholeReady (pool : List ℕ) (s : State) (ends ring : List ℕ) (k : ℕ) : Type 0 where
  pub ready : Ready pool s.at s.end ring k
  pub sized : Sized s ends
  pub tailed : (a : ℕ) → a ∈ take k ring → Tailed pool (stand_of s ends a)

-- and all on the key x
pub record WholeAgreed (pool : List ℕ) (s : State) (ends ring : List ℕ) (k x p : ℕ) : Type 0 where
  pub agreed : Agreed pool s.at s.end ring k x p
  pub sized : Sized s ends
  pub tailed : (a : ℕ) → a ∈ take k ring → Tailed pool (stand_of s ends a)

-- on a last piece an atom goes forward, and nothing else of it changes
pub record Forward (s₀ s : Stand) : Type 0 where
  pub place : s₀.at ≤ s.at
  pub end : s.end ≡ s₀.end
  pub own : s.own ≡ s₀.own
  pub left : s.left ≡ 0

-- what a call leaves of the arrays: those of other atoms as they were; atoms on their last piece, plain ones among them, go forward in it; an atom at the first column of a laid-over table stays so
pub record Carried (pool ends ring : List ℕ) (k : ℕ) (s₀ s : State) : Type 0 where
  pub sized : Sized s ends
  pub within : (a : ℕ) → a ∈ take k ring → get_or s.at a 0 ≤ get_or s.end a 0
  pub tailed : (a : ℕ) → a ∈ take k ring → Tailed pool (stand_of s ends a)
  pub others : (a : ℕ) → (a ∈ take k ring → ⊥) → stand_of s ends a ≡ stand_of s₀ ends a
  pub last : (a : ℕ) → get_or s₀.left a 0 ≡ 0 → Forward (stand_of s₀ ends a) (stand_of s ends a)
  pub laid : (a : ℕ) → a ∈ take k ring → (lo : ℕ → ℕ) (school : List ℕ) → Laid pool lo school (stand_of s₀ ends a) → Laid pool lo school (stand_of s ends a)

-- where a call found a key, all stand on it
abbrev pub AgreedOn : List ℕ → State → List ℕ → ℕ → Landed → Type 0
AgreedOn pool s ring k (Key x p) = Agreed pool s.at s.end ring k x p
AgreedOn pool s ring k (Nothing p) = Unit {0}

-- what a call leaves: that which the definition gives of the whole runs
pub record WholeRan (pool ends ring : List ℕ) (k : ℕ) (s₀ s : State) (w : Went) (r : Searched) : Type 0 where
  pub same : w ≡ answered (wholes_in pool s ends ring k) r.landed r.seeks
  pub agreed : AgreedOn pool s ring k r.landed
  pub carried : Carried pool ends ring k s₀ s

-- what the first call leaves: besides, the ring sorted by the keys at its start
pub record WholeBegun (pool ends : List ℕ) (k : ℕ) (ring₀ ring : List ℕ) (s₀ s : State) (r : Searched) : Type 0 where
  pub order : ring ≡ sorted_atoms (key_at pool s₀.at) ring₀ k ++ drop k ring₀
  pub ran : WholeRan pool ends ring k s₀ s (init_of (wholes_in pool s₀ ends ring₀ k)) r
