-- Internal: contracts of the opening of the atoms that take part at a depth, by the plan. The records, in the sequence in which an opening uses them:
--   Readable, OneOpenable, Openable   what `group_under`, `open_one` and `open_all` ask: that a group can be read; that an atom can be opened; that each can
--   Alone, Both, OneOpened, OpensOne  what `open_one` leaves: the atom at the start of its group, or of its two tables' first keys; and the others as they were; or no keys
--   Opens, Refuses, OpenedAll         what `open_all` leaves: the first m atoms opened, or one without keys; one of the two
use Rattle.std.specs.Prelude.{ℕ, zero, suc, ◌+◌, ◌-◌, ◌≤◌, ◌<◌, ◌≡◌, Bool, true, false, List, [], length, get_or, take, drop}
use Rattle.query.specs.Limits.{max_atoms}
use Rattle.two_runs.specs.Runs.{run_of, Inside}
use Rattle.two_runs.specs.declared.Runs as two
use Rattle.stretches.specs.Stand.{Stand, stand_of, whole_of, Tailed, Sized, Laid}
use Rattle.stretches.specs.declared.State.{State}
use Rattle.stretches.specs.Pause.{runs_from, Began}
use Rattle.join_query.specs.Query.{max_variables}
use Rattle.join_plan.specs.Plan.{Plan, depth_at, opening_at}
use Rattle.join_plan.specs.declared.LayerPlan.{LayerPlan}
use Rattle.join_plan.specs.declared.AtomPlan.{AtomPlan}

-- ---- one depth of the plan

abbrev pub variable_at : Plan → ℕ → ℕ
variable_at plan d = (depth_at plan d).variable

-- how many atoms take part, and the j-th of them
abbrev pub count_at : Plan → ℕ → ℕ
count_at plan d = (depth_at plan d).count

abbrev pub who_at : Plan → ℕ → ℕ → ℕ
who_at plan d j = (opening_at plan d j).atom

-- the interval of the key at `place`, in the layer that is opened
abbrev pub interval_at : LayerPlan → ℕ → ℕ
interval_at p place = place - p.above

-- where the group of interval i starts: past the last interval, behind all keys
abbrev pub group_start : List ℕ → LayerPlan → ℕ → ℕ
group_start pool p i = p.keys + get_or (take p.interval_count (drop p.intervals pool)) i p.key_count

-- the group under the key at `place` ends where the next one starts
abbrev pub group_low : List ℕ → LayerPlan → ℕ → ℕ
group_low pool p place = group_start pool p (interval_at p place)

abbrev pub group_high : List ℕ → LayerPlan → ℕ → ℕ
group_high pool p place = group_start pool p (interval_at p place + 1)

-- the group can be read, and lies in the pool
pub record Readable (pool : List ℕ) (p : LayerPlan) (place : ℕ) : Type 0 where
  pub above : p.above ≤ place
  pub inside : interval_at p place < p.interval_count
  pub intervals : p.intervals + p.interval_count ≤ length pool
  pub low : group_low pool p place ≤ length pool
  pub high : group_high pool p place ≤ length pool

-- ---- one atom's opening

-- where it is not opened in both its tables at once: the opening of the table that its words lie in, 0 its own, else its second one
abbrev pub table_of : AtomPlan → ℕ → LayerPlan
table_of p zero = p.school
table_of p (suc own) = p.maker

-- the first keys of both
abbrev pub first_runs : List ℕ → AtomPlan → two.Runs
first_runs ends p = runs_from ends p.atom p.school.keys p.maker.keys 0

-- an atom that stands so can be opened, where its layer has keys
pub record OneOpenable (pool ends : List ℕ) (p : AtomPlan) (s : Stand) : Type 0 where
  pub atom : p.atom < max_atoms
  pub side : s.own ≤ 1
  pub last : s.left ≡ 0
  pub both : p.both ≡ true → Inside pool (first_runs ends p)
  pub one : p.both ≡ false → ((table_of p s.own).key_count ≡ 0 → ⊥) → Readable pool (table_of p s.own) s.at

-- opened in one table: it stands at the start of its group
pub record Alone (pool : List ℕ) (p : AtomPlan) (s₀ s : Stand) : Type 0 where
  pub nonempty : (table_of p s₀.own).key_count ≡ 0 → ⊥
  pub low : s.at ≡ group_low pool (table_of p s₀.own) s₀.at
  pub high : s.end ≡ group_high pool (table_of p s₀.own) s₀.at
  pub own : s.own ≡ s₀.own
  pub last : s.left ≡ 0

-- opened in both: it stands on the first piece of their first keys
pub record Both (pool ends : List ℕ) (p : AtomPlan) (s : Stand) : Type 0 where
  pub some : s.at < s.end
  pub high : s.end ≤ length pool
  pub whole : whole_of pool s ≡ run_of pool (first_runs ends p)
  pub tailed : Tailed pool s
  pub laid : (lo : ℕ → ℕ) (school : List ℕ) → Began pool lo school (first_runs ends p) → Laid pool lo school s

abbrev pub OpenedIn : Bool → List ℕ → List ℕ → AtomPlan → Stand → Stand → Type 0
OpenedIn true pool ends p s₀ s = Both pool ends p s
OpenedIn false pool ends p s₀ s = Alone pool p s₀ s

-- there are no keys to stand on
abbrev pub Without : Bool → List ℕ → List ℕ → AtomPlan → Stand → Type 0
Without true pool ends p s = run_of pool (first_runs ends p) ≡ []
Without false pool ends p s = (table_of p s.own).key_count ≡ 0

-- the atom is opened, and the others are as they were
pub record OneOpened (pool ends : List ℕ) (p : AtomPlan) (z₀ z : State) : Type 0 where
  pub sized : Sized z ends
  pub here : OpenedIn p.both pool ends p (stand_of z₀ ends p.atom) (stand_of z ends p.atom)
  pub others : (x : ℕ) → (x ≡ p.atom → ⊥) → stand_of z ends x ≡ stand_of z₀ ends x

-- or there is nothing to open
pub data OpensOne (pool ends : List ℕ) (p : AtomPlan) (z₀ z : State) : Bool → Type 0 where
  opens : OneOpened pool ends p z₀ z → OpensOne pool ends p z₀ z true
  without : Without p.both pool ends p (stand_of z₀ ends p.atom) → OpensOne pool ends p z₀ z false

-- ---- the openings of a depth

-- the atoms that take part can be opened
pub record Openable (pool : List ℕ) (plan : Plan) (ends : List ℕ) (d : ℕ) (z : State) : Type 0 where
  pub deep : d < max_variables
  pub few : count_at plan d ≤ max_atoms
  pub ascend : (i j : ℕ) → i < j → j < count_at plan d → who_at plan d i < who_at plan d j
  pub each : (j : ℕ) → j < count_at plan d → OneOpenable pool ends (opening_at plan d j) (stand_of z ends (who_at plan d j))

-- arrays of the leapfrog
pub record Arrays (z : State) (ends ring by_atom : List ℕ) : Type 0 where
  pub sized : Sized z ends
  pub size : length ring ≡ max_atoms
  pub by_atom_size : length by_atom ≡ max_atoms

-- the first m of the atoms that take part are opened, and both rings have them in atom order
pub record Opens (pool : List ℕ) (plan : Plan) (ends : List ℕ) (d m : ℕ) (z₀ z : State) (ring by_atom : List ℕ) : Type 0 where
  pub arrays : Arrays z ends ring by_atom
  pub each : (j : ℕ) → j < m → OpenedIn (opening_at plan d j).both pool ends (opening_at plan d j) (stand_of z₀ ends (who_at plan d j)) (stand_of z ends (who_at plan d j))
  pub ring_is : (j : ℕ) → j < m → get_or ring j 0 ≡ who_at plan d j
  pub by_atom_is : (j : ℕ) → j < m → get_or by_atom j 0 ≡ who_at plan d j
  pub others : (x : ℕ) → ((j : ℕ) → j < m → who_at plan d j ≡ x → ⊥) → stand_of z ends x ≡ stand_of z₀ ends x

-- one that has no keys refuses to be opened
pub record Refuses (pool : List ℕ) (plan : Plan) (ends : List ℕ) (d : ℕ) (z₀ : State) : Type 0 where
  pub which : ℕ
  pub takes : which < count_at plan d
  pub none : Without (opening_at plan d which).both pool ends (opening_at plan d which) (stand_of z₀ ends (who_at plan d which))

pub data OpenedAll (pool : List ℕ) (plan : Plan) (ends : List ℕ) (d : ℕ) (z₀ z : State) (ring by_atom : List ℕ) : Bool → Type 0 where
  all : Opens pool plan ends d (count_at plan d) z₀ z ring by_atom → OpenedAll pool plan ends d z₀ z ring by_atom true
  refuses : Refuses pool plan ends d z₀ → OpenedAll pool plan ends d z₀ z ring by_atom false
