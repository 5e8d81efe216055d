-- Internal: a leapfrog over pieces that has ended: what its answer tells of the whole runs, and how an atom's next piece is taken.
use Rattle.std.specs.Prelude.{◌≡◌, Bool, true, false, ◌⊎◌, List, [], ℕ, ◌+◌, ◌-◌, ◌*◌, ◌≤◌, ◌<◌, length, get_or, set, take, eqb}
use Rattle.relation.specs.Order.{pick}
use Rattle.relation.specs.Lists.{◌∈◌}
use Rattle.relation.specs.Runs.{from}
use Rattle.query.specs.Limits.{max_atoms}
use Rattle.query.specs.Meet.{total}
use Rattle.leapfrog.specs.Search.{Went, more, go_on}
use Rattle.pieces.specs.Halted.{goal_at, Halted}
use Rattle.leapfrog_search.specs.Leapfrog.{part, runs_in, Agreed, answered}
use Rattle.leapfrog_search.specs.declared.Landed.{Landed}
use Rattle.leapfrog_search.specs.declared.Landed.TheVariants.{Key, Nothing}
use Rattle.leapfrog_search.specs.declared.Searched.{Searched}
use Rattle.two_runs.specs.Runs as two
use Rattle.two_runs.specs.declared.Runs as rust
use Rattle.stretches.specs.Stand.{stand_of, tail_of, whole_of, wholes_in, Tailed, Sized, Laid}
use Rattle.stretches.specs.declared.State.{State}

-- ---- one atom's next piece

-- atom a's two runs from x and from y on, the one from x of table o
abbrev pub runs_from : List ℕ → ℕ → ℕ → ℕ → ℕ → rust.Runs
runs_from ends a x y o = record { x = x; e = get_or ends (2 * a + o) 0; y = y; f = get_or ends (2 * a + 1 - o) 0; own = o }

-- the atom put on the piece from x to m of table o, with l keys of the other's run left
abbrev pub placed : State → ℕ → ℕ → ℕ → ℕ → ℕ → State
placed s a x m o l = record { at = set s.at a x; end = set s.end a m; own = set s.own a o; left = set s.left a l }

-- nothing left behind its piece
abbrev pub emptied : State → ℕ → State
emptied s a = record { at = s.at; end = s.end; own = s.own; left = set s.left a 0 }

-- two runs that begin not before the starts `lo`, and each of the school's keys is in them or below all that they have
pub record Began (pool : List ℕ) (lo : ℕ → ℕ) (school : List ℕ) (r : rust.Runs) : Type 0 where
  pub low : lo r.own ≤ r.x
  pub low₂ : lo (1 - r.own) ≤ r.y
  pub keys : (z : ℕ) → z ∈ school → (z ∈ pick (eqb r.own 0) (part pool r.x r.e) (part pool r.y r.f)) ⊎ ((y : ℕ) → y ∈ two.run_of pool r → z < y)

-- the atom stands on the first piece of `run`; it is at the first column of a laid-over table if `before` says so
pub record Taken (pool ends : List ℕ) (a : ℕ) (run : List ℕ) (before : (ℕ → ℕ) → List ℕ → Type 0) (s₀ s : State) : Type 0 where
  pub x : ℕ
  pub m : ℕ
  pub o : ℕ
  pub l : ℕ
  pub is : s ≡ placed s₀ a x m o l
  pub some : x < m
  pub high : m ≤ length pool
  pub whole : whole_of pool (stand_of s ends a) ≡ run
  pub tailed : Tailed pool (stand_of s ends a)
  pub laid : (lo : ℕ → ℕ) (school : List ℕ) → before lo school → Laid pool lo school (stand_of s ends a)

-- whether it does so: not where `run` has no key
pub data Takes (pool ends : List ℕ) (a : ℕ) (run : List ℕ) (before : (ℕ → ℕ) → List ℕ → Type 0) (s₀ s : State) : Bool → Type 0 where
  some : Taken pool ends a run before s₀ s → Takes pool ends a run before s₀ s true
  none : run ≡ [] → s ≡ emptied s₀ a → Takes pool ends a run before s₀ s false

-- ---- a leapfrog over pieces that has ended

-- the ring and its pieces lie as they should, whether they have keys left or not
pub record Pieces (pool at end ring : List ℕ) (k : ℕ) : Type 0 where
  pub positive : 0 < k
  pub few : k ≤ max_atoms
  pub size : length ring ≡ max_atoms
  pub apart : (i j : ℕ) → i < k → j < k → get_or ring i 0 ≡ get_or ring j 0 → i ≡ j
  pub atoms : (a : ℕ) → a ∈ take k ring → a < max_atoms
  pub within : (a : ℕ) → a ∈ take k ring → get_or at a 0 ≤ get_or end a 0
  pub high : (a : ℕ) → a ∈ take k ring → get_or end a 0 ≤ length pool

-- and so does what lies behind them
pub record Held (pool : List ℕ) (s : State) (ends ring : List ℕ) (k : ℕ) : Type 0 where
  pub pieces : Pieces pool s.at s.end ring k
  pub sized : Sized s ends
  pub tailed : (a : ℕ) → a ∈ take k ring → Tailed pool (stand_of s ends a)

-- all agree on a key, or the piece at p has ended
abbrev pub Stops : List ℕ → State → List ℕ → ℕ → Landed → Type 0
Stops pool s ring k (Key x p) = Agreed pool s.at s.end ring k x p
Stops pool s ring k (Nothing p) = Halted (runs_in pool s.at s.end ring k) p

-- the answer r of a leapfrog over the pieces
pub record Paused (pool : List ℕ) (s : State) (ends ring : List ℕ) (k : ℕ) (r : Searched) : Type 0 where
  pub held : Held pool s ends ring k
  pub stops : Stops pool s ring k r.landed
  pub count : r.seeks + total (wholes_in pool s ends ring k) ≤ 16 * length pool

-- what it tells of the whole runs: a key is theirs too; else the run at p goes on with what lies behind its piece
abbrev pub resumed_of : List ℕ → State → List ℕ → List ℕ → ℕ → Landed → ℕ → Went
resumed_of pool s ends ring k (Key x p) n = answered (wholes_in pool s ends ring k) (Key x p) n
resumed_of pool s ends ring k (Nothing p) n = more n (go_on (wholes_in pool s ends ring k) p (from (goal_at (runs_in pool s.at s.end ring k) p) (tail_of pool (stand_of s ends (get_or ring p 0)))))

-- ---- and that has ended over the whole runs too

-- the places that are looked at to tell
abbrev pub Lookable : List ℕ → Landed → Type 0
Lookable ring (Key x p) = Unit {0}
Lookable ring (Nothing p) = (p < max_atoms) × (get_or ring p 0 < max_atoms)

-- on a key, or on a run that ends with its piece
abbrev pub Settled : List ℕ → List ℕ → Landed → Type 0
Settled left ring (Key x p) = Unit {0}
Settled left ring (Nothing p) = get_or left (get_or ring p 0) 0 ≡ 0
