-- Internal: contracts of the opening of a depth and of the step to its next key. The words given to atom i's first variables are f i; a place in the pool
-- stands for them, that of the last of them in its layer. An atom that is laid over has two tables: its words lie in one of them, the owner's, which the array
-- `own` tells (0 its own table, 1 its maker's); at its first column it stands in both at once. What opens an atom by the plan's numbers is crates/join_openings's.
-- The records here, in the sequence in which a depth uses them:
--   Owned, Placed, PlacedIn           before it: the table that an atom's words lie in; a place that stands for words; the place in that table
--   Based, Stands, Standing           the query, its plan and its words; every atom at the place of its words; some query's atoms so
--   Within, WithinOne, Opened         what the openings leave, by words: a place in the group under them; in the owner's table; those that take part so, the others as they were
--   Begins, DepthBegun                what `open` leaves of the keys: of one query, and of every query whose atoms stood so
--   Leapt, Starts, Opening            of the seeks: those that a call adds; of one query; and the contract of `open`, DepthBegun and Starts together
--   Steps, Onward                     what `onward` leaves: one key is passed and no other; and its contract, with the seeks
use Rattle.std.specs.Prelude.{ℕ, suc, ◌+◌, ◌-◌, ◌≤◌, ◌<◌, ◌≡◌, Bool, true, false, ◌&&◌, List, [], ◌∷◌, map, length, get_or, take, drop, eqb}
use Rattle.relation.specs.Order.{Row, pick}
use Rattle.relation.specs.Layers.{prefixes, keys_under}
use Rattle.relation.specs.Layers as layers
use Rattle.relation.specs.Runs.{from}
use Rattle.query.specs.Meet.{meet}
use Rattle.query.specs.Solve.{headed, runs}
use Rattle.query.specs.Descend.{standings, prefix_at, nobody, holders, Joinable}
use Rattle.overlay.specs.Laid.{owns}
use Rattle.column_trie.specs.Pool.{spot}
use Rattle.column_trie.specs.Table.{rows_in}
use Rattle.column_trie.specs.declared.ColumnTrie.{ColumnTrie}
use Rattle.leapfrog.specs.Search.{Went, out, init_of, next_of}
use Rattle.leapfrog.specs.Walk.{capped}
use Rattle.ring_sort.specs.Sorted.{key_at}
use Rattle.leapfrog_search.specs.Ring.{SameAtoms}
use Rattle.leapfrog_search.specs.Leapfrog.{left_of, answered}
use Rattle.leapfrog_search.specs.declared.Landed.{Landed}
use Rattle.leapfrog_search.specs.declared.Landed.TheVariants.{Key, Nothing}
use Rattle.leapfrog_search.specs.declared.Searched.{Searched}
use Rattle.stretches.specs.Stand.{Stand, stand_of, wholes_in, Laid}
use Rattle.stretches.specs.declared.State.{State}
use Rattle.stretches.specs.Whole.{WholeAgreed, Carried}
use Rattle.join_query.specs.Query.{atom_table, atom_maker, Accepted, atom_at, order_of, vars_of, atoms_of}
use Rattle.join_query.specs.declared.Query.{Query}
use Rattle.join_query.specs.declared.Tables.{Tables}
use Rattle.join_plan.specs.Plan.{Plan, above_of, layer_at, takers, Planned, FirstsEnded}
use Rattle.join_openings.specs.Openings.{count_at, Arrays}

-- ---- where the atoms stand

-- atom i's table o: 0 its own, 1 its maker's
abbrev pub owner_of : Tables → Query → ℕ → ℕ → ColumnTrie
owner_of ts q i o = pick (eqb o 0) (atom_table ts q i) (atom_maker ts q i)

-- atom i's words p lie in its table o: of a plain atom there is one; else it is the maker's where the school's rows lack the first word
pub record Owned (pool : List ℕ) (ts : Tables) (q : Query) (i o : ℕ) (p : Row) : Type 0 where
  pub side : o ≤ 1
  pub plain : (atom_at q i).laid_over ≡ false → o ≡ 0
  pub first : (atom_at q i).laid_over ≡ true → (k : ℕ) (r : Row) → p ≡ k ∷ r → owns (rows_in pool (atom_table ts q i)) k ≡ eqb o 0

-- the place `at` stands for the words p in table t: counted from where the keys of their last layer start, it is their interval in the next layer
pub record Placed (pool : List ℕ) (t : ColumnTrie) (at : ℕ) (p : Row) : Type 0 where
  pub above : above_of t (length p) ≤ at
  pub under : prefix_at (length p) (at - above_of t (length p)) (rows_in pool t) ≡ p
  pub inside : 0 < length (rows_in pool t) → at - above_of t (length p) < length (prefixes (length p) (rows_in pool t))

-- in the table that they lie in
pub record PlacedIn (pool : List ℕ) (ts : Tables) (q : Query) (i at o : ℕ) (p : Row) : Type 0 where
  pub owned : Owned pool ts q i o p
  pub placed : Placed pool (owner_of ts q i o) at p

-- such a query with its plan, d of its n variables given words; `len` is the length of the window that it passed with
pub record Based (pool : List ℕ) (ts : Tables) (q : Query) (plan : Plan) (ends : List ℕ) (n d : ℕ) (f : ℕ → Row) : Type 0 where
  pub len : ℕ
  pub accepted : Accepted pool ts q len
  pub planned : Planned plan ts q
  pub firsts : FirstsEnded ends ts q q.atom_count
  pub size : q.n ≡ n
  pub deep : d ≤ n
  pub joinable : Joinable (drop d (order_of q)) (standings f (atoms_of pool ts q))
  pub words : (i : ℕ) → i < q.atom_count → length (f i) ≡ layer_at q d (atom_at q i)

-- and each atom stands at the place of its words
pub record Stands (pool : List ℕ) (ts : Tables) (q : Query) (plan : Plan) (ends : List ℕ) (n d : ℕ) (at own : List ℕ) (f : ℕ → Row) : Type 0 where
  pub based : Based pool ts q plan ends n d f
  pub placed : (i : ℕ) → i < q.atom_count → PlacedIn pool ts q i (get_or at i 0) (get_or own i 0) (f i)

-- some query's atoms stand so: what the descent asks. What it leaves it says of every such query
pub record Standing (pool : List ℕ) (plan : Plan) (ends : List ℕ) (n d : ℕ) (at own : List ℕ) : Type 0 where
  pub tables : Tables
  pub query : Query
  pub words : ℕ → Row
  pub stands : Stands pool tables query plan ends n d at own words

-- what the opening of a depth asks of the arrays: nothing is left behind a piece yet
pub record Fresh (z : State) (ends ring by_atom : List ℕ) : Type 0 where
  pub arrays : Arrays z ends ring by_atom
  pub last : (a : ℕ) → get_or z.left a 0 ≡ 0

-- whether atom i takes part at depth d: the next of its variables is the depth's
abbrev pub takes_part : Query → ℕ → (ℕ → Row) → ℕ → Bool
takes_part q d f i = headed (get_or (order_of q) d 0) (drop (length (f i)) (vars_of (atom_at q i)))

-- whether it is then opened in both its tables: at its first column, where it is laid over
abbrev pub twofold : Query → (ℕ → Row) → ℕ → Bool
twofold q f i = (atom_at q i).laid_over && eqb (length (f i)) 0

-- from `at` to `end` stand keys under the words p: the rest of their group
pub record Within (pool : List ℕ) (t : ColumnTrie) (at end : ℕ) (p : Row) : Type 0 where
  pub interval : ℕ
  pub inside : interval < length (prefixes (length p) (rows_in pool t))
  pub under : prefix_at (length p) interval (rows_in pool t) ≡ p
  pub low : spot t.start t.capacity (length p) + get_or (layers.layer_at (length p) (rows_in pool t)).intervals interval 0 ≤ at
  pub high : end ≡ spot t.start t.capacity (length p) + get_or (layers.layer_at (length p) (rows_in pool t)).intervals (suc interval) (length (layers.layer_at (length p) (rows_in pool t)).keys)

-- atom i, opened in the table that its words p lie in
pub record WithinOne (pool : List ℕ) (ts : Tables) (q : Query) (i : ℕ) (s : Stand) (p : Row) : Type 0 where
  pub owned : Owned pool ts q i s.own p
  pub last : s.left ≡ 0
  pub within : Within pool (owner_of ts q i s.own) s.at s.end p

-- where the first keys of its table o start
abbrev pub starts_at : Tables → Query → ℕ → ℕ → ℕ
starts_at ts q i o = spot (owner_of ts q i o).start (owner_of ts q i o).capacity 0

-- or in both
abbrev pub WithinIn : Bool → List ℕ → Tables → Query → ℕ → Stand → Row → Type 0
WithinIn true pool ts q i s p = Laid pool (starts_at ts q i) (keys_under [] (rows_in pool (atom_table ts q i))) s
WithinIn false pool ts q i s p = WithinOne pool ts q i s p

-- the atoms that take part, which `byAtom` has in atom order, are opened; the others stand where they stood
pub record Opened (pool : List ℕ) (ts : Tables) (q : Query) (plan : Plan) (ends : List ℕ) (n d : ℕ) (z : State) (by_atom : List ℕ) (f : ℕ → Row) : Type 0 where
  pub based : Based pool ts q plan ends n d f
  pub below : d < n
  pub ring : take (count_at plan d) by_atom ≡ takers q d
  pub taking : (i : ℕ) → i < q.atom_count → takes_part q d f i ≡ true → WithinIn (twofold q f i) pool ts q i (stand_of z ends i) (f i)
  pub staying : (i : ℕ) → i < q.atom_count → takes_part q d f i ≡ false → PlacedIn pool ts q i (get_or z.at i 0) (get_or z.own i 0) (f i)

-- ---- the keys of a depth

-- where a call found a key, all agree on it
abbrev pub AgreedAt : List ℕ → State → List ℕ → List ℕ → ℕ → Landed → Type 0
AgreedAt pool z ends ring k (Key x p) = WholeAgreed pool z ends ring k x p
AgreedAt pool z ends ring k (Nothing p) = Unit {0}

abbrev pub IfFound : Landed → Type 0 → Type 0
IfFound (Key x p) A = A
IfFound (Nothing p) A = Unit {0}

abbrev pub AtKey : Landed → (ℕ → Type 0) → Type 0
AtKey (Key x p) P = P x
AtKey (Nothing p) P = Unit {0}

-- the keys that the atoms that take part have in common under their words
abbrev pub common_at : List ℕ → Tables → Query → ℕ → (ℕ → Row) → List ℕ
common_at pool ts q d f = meet (map (λ (i : ℕ). keys_under (f i) (get_or (atoms_of pool ts q) i nobody).rows) (holders (get_or (order_of q) d 0) (standings f (atoms_of pool ts q))))

-- what the opening of a depth leaves, of one query: the common keys are left, and where there is one, the atoms are opened
pub record Begins (pool : List ℕ) (ts : Tables) (q : Query) (plan : Plan) (ends : List ℕ) (n d : ℕ) (z : State) (by_atom : List ℕ) (f : ℕ → Row) (landed : Landed) : Type 0 where
  pub keys : left_of (wholes_in pool z ends by_atom (count_at plan d)) landed ≡ common_at pool ts q d f
  pub opened : IfFound landed (Opened pool ts q plan ends n d z by_atom f)

pub record DepthBegun (pool : List ℕ) (plan : Plan) (ends : List ℕ) (n d : ℕ) (at₀ own₀ : List ℕ) (z : State) (ring by_atom : List ℕ) (landed : Landed) : Type 0 where
  pub agreed : AgreedAt pool z ends by_atom (count_at plan d) landed
  pub same : IfFound landed (SameAtoms by_atom ring (count_at plan d))
  pub begins : (ts : Tables) (q : Query) (f : ℕ → Row) → Stands pool ts q plan ends n d at₀ own₀ f → Begins pool ts q plan ends n d z by_atom f landed

-- what a step to the next key leaves: the key x is passed, and no other; each run is cut at the next
pub record Steps (pool ends by_atom : List ℕ) (k : ℕ) (z₀ z : State) (x : ℕ) (landed : Landed) : Type 0 where
  pub agreed : AgreedAt pool z ends by_atom k landed
  pub keys : meet (wholes_in pool z₀ ends by_atom k) ≡ x ∷ left_of (wholes_in pool z ends by_atom k) landed
  pub cut : AtKey landed (λ (y : ℕ). wholes_in pool z ends by_atom k ≡ map (from y) (wholes_in pool z₀ ends by_atom k))
  pub carried : Carried pool ends by_atom k z₀ z

-- a call that does what the definition's w does, where it leaves the runs so: all of it where it found a key, else that there is none; and its seeks n
abbrev pub Answers : Went → List (List ℕ) → Landed → ℕ → Type 0
Answers w runs (Key x p) n = w ≡ answered runs (Key x p) n
Answers w runs (Nothing p) n = (w.stop ≡ out) × (w.seeks ≡ n)

-- a call's answer, its seeks added to those before
abbrev pub since_of : ℕ → Searched → Searched
since_of before s = record { landed = s.landed; seeks = capped (before + s.seeks) }

-- with its seeks added to those before
pub record Leapt (w : Went) (runs : List (List ℕ)) (before : ℕ) (landed : Landed) (seeks : ℕ) : Type 0 where
  pub made : ℕ
  pub answers : Answers w runs landed made
  pub sum : seeks ≡ capped (before + made)

-- the keys under the words, of each atom that takes part, in atom order
abbrev pub groups_at : List ℕ → Tables → Query → ℕ → (ℕ → Row) → List (List ℕ)
groups_at pool ts q d f = runs (get_or (order_of q) d 0) (standings f (atoms_of pool ts q))

-- of one query: the leapfrog is begun on those; where it found a key, each run is cut there
pub record Starts (pool : List ℕ) (ts : Tables) (q : Query) (plan : Plan) (ends : List ℕ) (d : ℕ) (z : State) (ring by_atom : List ℕ) (f : ℕ → Row) (before : ℕ) (landed : Landed) (seeks : ℕ) : Type 0 where
  pub leapt : Leapt (init_of (groups_at pool ts q d f)) (wholes_in pool z ends ring (count_at plan d)) before landed seeks
  pub cut : AtKey landed (λ (x : ℕ). wholes_in pool z ends by_atom (count_at plan d) ≡ map (from x) (groups_at pool ts q d f))

-- the opening of a depth
pub record Opening (pool : List ℕ) (plan : Plan) (ends : List ℕ) (n d : ℕ) (at₀ own₀ : List ℕ) (z : State) (ring by_atom : List ℕ) (before : ℕ) (r : Searched) : Type 0 where
  pub begun : DepthBegun pool plan ends n d at₀ own₀ z ring by_atom r.landed
  pub starts : (ts : Tables) (q : Query) (f : ℕ → Row) → Stands pool ts q plan ends n d at₀ own₀ f → Starts pool ts q plan ends d z ring by_atom f before r.landed r.seeks

-- the step to the next key: at the last depth from place p of the ring as it is, else from the first place of the ring in atom order
pub record Onward (pool ends ring by_atom : List ℕ) (k p : ℕ) (last : Bool) (z₀ z : State) (before : ℕ) (r : Searched) : Type 0 where
  pub steps : Steps pool ends by_atom k z₀ z (key_at pool z₀.at (get_or by_atom 0 0)) r.landed
  pub leapt : Leapt (next_of (wholes_in pool z₀ ends (pick last ring by_atom) k) (pick last p 0)) (wholes_in pool z ends (pick last ring by_atom) k) before r.landed r.seeks
