-- Internal: what an engine's descent stands on and does: the atoms where they stand, those that take part, what holds of them on the way down, and the contract
-- that the recursive function shows and relies on when it calls itself.
use Rattle.std.specs.Prelude.{ℕ, suc, ◌≡◌, true, List, [], ◌∷◌, map, length, get_or}
use Rattle.relation.specs.Order.{Row, pick}
use Rattle.relation.specs.Lists.{◌∈◌}
use Rattle.relation.specs.Rows.{Asc, Width}
use Rattle.relation.specs.Layers.{prefixes}
use Rattle.query.specs.Meaning.{Atom, Distinct, follows}
use Rattle.query.specs.Solve.{beyond, standing, headed, extend}
use Rattle.query.specs.Window.{Progress, emits}

-- what stands of each atom, where the words given to atom i's first variables are f i
unfoldable pub standings : (ℕ → Row) → List Atom → List Atom
unfolding beyond
standings f [] = []
standings f (a ∷ l) = standing (f 0) a ∷ standings (λ (i : ℕ). f (suc i)) l

-- the words under which interval i of layer d of a table stands
abbrev pub prefix_at : ℕ → ℕ → List Row → Row
prefix_at d i rows = get_or (prefixes d rows) i []

-- where an atom is looked up by a number that none has
abbrev pub nobody : Atom
nobody = record { vars = []; rows = [] }

-- the atoms that take part at v, by number
unfoldable pub holders : ℕ → List Atom → List ℕ
unfolding headed
holders v [] = []
holders v (a ∷ l) = pick (headed v a.vars) (0 ∷ map suc (holders v l)) (map suc (holders v l))

-- What holds of an atom on the way down, where the variables vs are left
pub record Partway (vs : List ℕ) (a : Atom) : Type 0 where
  pub follow : follows vs a.vars ≡ true
  pub wide : Width (length a.vars) a.rows
  pub ascending : Asc a.rows
  -- an atom without variables left has had a row
  pub filled : a.vars ≡ [] → [] ∈ a.rows

-- what holds of all of them
pub record Joinable (vs : List ℕ) (atoms : List Atom) : Type 0 where
  pub partway : (a : Atom) → a ∈ atoms → Partway vs a
  pub covered : (x : ℕ) → x ∈ vs → (a : Atom) × (a ∈ atoms) × (x ∈ a.vars)
  pub single : Distinct vs

-- The variables vs are left, `atoms` is what stands of each atom, `row` has the words given so far, by variable number. From s to t the rows that
-- complete `row` are emitted
pub record Descends (n : ℕ) (vs : List ℕ) (atoms : List Atom) (row : Row) (s t : Progress) : Type 0 where
  pub exit : t ≡ emits n s (extend n vs atoms row)
