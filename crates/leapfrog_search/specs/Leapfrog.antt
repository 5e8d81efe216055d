-- Internal: what a leapfrog asks and what it leaves: atoms that stand on keys of ascending runs, and the keys that those runs have in common.
-- Four lists hold the state: the pool's words; for each atom the place of its key in the pool and the end of its run; and the ring, the atoms that take part.
use Rattle.std.specs.Prelude.{◌≡◌, List, [], ◌++◌, map, ℕ, ◌-◌, ◌≤◌, ◌<◌, length, get_or, take, drop}
use Rattle.relation.specs.Lists.{◌∈◌, Ascends}
use Rattle.relation.specs.Runs.{from}
use Rattle.query.specs.Meet.{meet}
use Rattle.query.specs.Ring.{Round}
use Rattle.query.specs.Limits.{max_atoms}
use Rattle.ring_sort.specs.Sorted.{key_at}
use Rattle.leapfrog_search.specs.declared.Landed.{Landed}
use Rattle.leapfrog_search.specs.declared.Landed.TheVariants.{Key, Nothing}
use Rattle.leapfrog_search.specs.declared.Searched.{Searched}
use Rattle.leapfrog.specs.Search.{Went, on, out}

-- the pool from x to e
abbrev pub part : List ℕ → ℕ → ℕ → List ℕ
part pool x e = take (e - x) (drop x pool)

-- what is left of atom a's run: from its place to its end
abbrev pub run_of : List ℕ → List ℕ → List ℕ → ℕ → List ℕ
run_of pool at end a = part pool (get_or at a 0) (get_or end a 0)

-- what is left of the runs of the first k atoms of the ring
unfoldable pub runs_in : List ℕ → List ℕ → List ℕ → List ℕ → ℕ → List (List ℕ)
runs_in pool at end ring k = map (run_of pool at end) (take k ring)

-- atom a stands on a key of its run, which lies in the pool and ascends strictly
pub record OnKey (pool at end : List ℕ) (a : ℕ) : Type 0 where
  pub atom : a < max_atoms
  pub inside : get_or at a 0 < get_or end a 0
  pub ends : get_or end a 0 ≤ length pool
  pub ascends : Ascends ◌<◌ (run_of pool at end a)

-- the first k of the ring, at least one, are different atoms, and each stands on a key
pub record Ready (pool at end ring : List ℕ) (k : ℕ) : Type 0 where
  pub positive : 0 < k
  pub few : k ≤ max_atoms
  pub size : length ring ≡ max_atoms
  pub places : length at ≡ max_atoms
  pub apart : (i j : ℕ) → i < k → j < k → get_or ring i 0 ≡ get_or ring j 0 → i ≡ j
  pub each : (a : ℕ) → a ∈ take k ring → OnKey pool at end a

-- from place p of the ring round, the keys do not fall
abbrev pub Ordered : List ℕ → List ℕ → List ℕ → ℕ → ℕ → Type 0
Ordered pool at ring k p = Round (λ (j : ℕ). key_at pool at (get_or ring j 0)) k p

-- all stand on the key x
pub record Agreed (pool at end ring : List ℕ) (k x p : ℕ) : Type 0 where
  pub ready : Ready pool at end ring k
  pub place : p < k
  pub all : (a : ℕ) → a ∈ take k ring → key_at pool at a ≡ x

-- the atom at p has no key left
pub record Spent (at end ring : List ℕ) (k p : ℕ) : Type 0 where
  pub place : p < k
  pub gone : get_or at (get_or ring p 0) 0 ≡ get_or end (get_or ring p 0) 0

-- places only move forward, each at most to its run's end, and those of other atoms stay
pub record Moved (end ring : List ℕ) (k : ℕ) (at₀ at : List ℕ) : Type 0 where
  pub places : length at ≡ max_atoms
  pub forward : (a : ℕ) → get_or at₀ a 0 ≤ get_or at a 0
  pub within : (a : ℕ) → a ∈ take k ring → get_or at a 0 ≤ get_or end a 0
  pub others : (a : ℕ) → (a ∈ take k ring → ⊥) → get_or at a 0 ≡ get_or at₀ a 0

-- where a call ended: all agree on its key, or one is spent
abbrev pub Ended : List ℕ → List ℕ → List ℕ → List ℕ → ℕ → Landed → Type 0
Ended pool at end ring k (Key x p) = Agreed pool at end ring k x p
Ended pool at end ring k (Nothing p) = Spent at end ring k p

-- the common keys that are left there: those of the runs as they stand, or none
abbrev pub left_of : List (List ℕ) → Landed → List ℕ
left_of runs (Key x p) = meet runs
left_of runs (Nothing p) = []

-- what a call leaves: of the common keys it has passed `passed`, and no other
pub record Left (pool end ring : List ℕ) (k : ℕ) (at₀ at : List ℕ) (common passed : List ℕ) (landed : Landed) : Type 0 where
  pub ended : Ended pool at end ring k landed
  pub keys : common ≡ passed ++ left_of (runs_in pool at end ring k) landed
  pub moved : Moved end ring k at₀ at

-- a call's answer, with the runs that it left, as the definition of the algorithms gives it
abbrev pub answered : List (List ℕ) → Landed → ℕ → Went
answered runs (Key x p) n = record { runs = runs; place = p; stop = on x; seeks = n }
answered runs (Nothing p) n = record { runs = runs; place = p; stop = out; seeks = n }

-- what a call leaves: that which the definition gives, and the places of other atoms as they were
pub record Ran (pool end ring : List ℕ) (k : ℕ) (at₀ at : List ℕ) (w : Went) (r : Searched) : Type 0 where
  pub same : w ≡ answered (runs_in pool at end ring k) r.landed r.seeks
  pub moved : Moved end ring k at₀ at

-- what one seek of a run leaves: the place r from which on the run has the keys not below the target
pub record Reached (pool : List ℕ) (x e target r : ℕ) : Type 0 where
  pub forward : x ≤ r
  pub within : r ≤ e
  pub rest : part pool r e ≡ from target (part pool x e)
