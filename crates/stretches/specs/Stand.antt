-- Internal: where one atom stands: on a piece of the pool, and what its run goes on with behind the piece.
-- Four arrays hold it, by atom: `at` and `end`, the piece; `own`, whose table the piece lies in, 0 the school's (and any plain table's), 1 the maker's; and `left`, how many keys of the other
-- table's run are not yet passed. Where `left` is 0 the run ends with its piece: so it is of a plain atom, of an atom past its first column, and of a laid-over one on its last piece.
-- `ends`, made once for a join, has the ends of the two runs of first keys: at 2 a the school's, at 2 a + 1 the maker's.
use Rattle.std.specs.Prelude.{◌≡◌, ◌⊎◌, List, [], ◌++◌, map, ℕ, ◌+◌, ◌-◌, ◌*◌, ◌≤◌, ◌<◌, length, get_or, take, eqb}
use Rattle.relation.specs.Order.{pick}
use Rattle.relation.specs.Lists.{◌∈◌, Ascends}
use Rattle.query.specs.Limits.{max_atoms}
use Rattle.leapfrog_search.specs.Leapfrog.{part}
use Rattle.two_runs.specs.Runs.{run_of, Inside}
use Rattle.two_runs.specs.declared.Runs.{Runs}
pub use Rattle.stretches.specs.declared.State.{State}

-- one atom's numbers, with the end of its own table's run and of the other's
pub record Stand : Type 0 where
  pub at : ℕ
  pub end : ℕ
  pub own : ℕ
  pub left : ℕ
  pub mine : ℕ
  pub others : ℕ

abbrev pub stand_of : State → List ℕ → ℕ → Stand
stand_of s ends a = record {
  at = get_or s.at a 0;
  end = get_or s.end a 0;
  own = get_or s.own a 0;
  left = get_or s.left a 0;
  mine = get_or ends (2 * a + get_or s.own a 0) 0;
  others = get_or ends (2 * a + 1 - get_or s.own a 0) 0;
}

-- the two runs behind the piece
abbrev pub rest_of : Stand → Runs
rest_of s = record { x = s.end; e = s.mine; y = s.others - s.left; f = s.others; own = s.own }

-- what the run goes on with there
abbrev pub tail_of : List ℕ → Stand → List ℕ
tail_of pool s = pick (eqb s.left 0) [] (run_of pool (rest_of s))

-- what is left of the atom's run
abbrev pub whole_of : List ℕ → Stand → List ℕ
whole_of pool s = part pool s.at s.end ++ tail_of pool s

-- the whole runs of the first k atoms of the ring
unfoldable pub wholes_in : List ℕ → State → List ℕ → List ℕ → ℕ → List (List ℕ)
wholes_in pool s ends ring k = map (λ (a : ℕ). whole_of pool (stand_of s ends a)) (take k ring)

-- behind a piece that is not the last, both runs lie in the pool
pub record Behind (pool : List ℕ) (s : Stand) : Type 0 where
  pub room : s.left ≤ s.others
  pub inside : Inside pool (rest_of s)

-- the whole run ascends, and what lies behind its piece lies in the pool
pub record Tailed (pool : List ℕ) (s : Stand) : Type 0 where
  pub behind : (s.left ≡ 0 → ⊥) → Behind pool s
  pub ascends : Ascends ◌<◌ (whole_of pool s)

-- the arrays are as long as their types say
pub record Sized (s : State) (ends : List ℕ) : Type 0 where
  pub places : length s.at ≡ max_atoms
  pub piece_ends : length s.end ≡ max_atoms
  pub owners : length s.own ≡ max_atoms
  pub lefts : length s.left ≡ max_atoms
  pub run_ends : length ends ≡ 2 * max_atoms

-- ---- whose a key is

-- what is left of the school's run
abbrev pub school_left : List ℕ → Stand → List ℕ
school_left pool s = pick (eqb s.own 0) (part pool s.at s.mine) (part pool (s.others - s.left) s.others)

-- an atom at the first column of a laid-over table: its places are not before the starts of the two runs (`lo` 0 the school's, 1 the maker's), its piece is one of its own table's run, and each
-- of the school's keys is still to come or below all that is left. So a key of a maker's piece is none of the school's (proofs/Owning.antt, `makers-alone`)
pub record Laid (pool : List ℕ) (lo : ℕ → ℕ) (school : List ℕ) (s : Stand) : Type 0 where
  pub side : s.own ≤ 1
  pub low : lo s.own ≤ s.at
  pub low₂ : lo (1 - s.own) ≤ s.others - s.left
  pub high : s.end ≤ s.mine
  pub keys : (z : ℕ) → z ∈ school → (z ∈ school_left pool s) ⊎ ((y : ℕ) → y ∈ whole_of pool s → z < y)
