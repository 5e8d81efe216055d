-- Internal: the descent that goes on after a given row: at each variable it starts from the given row's word; where it gives the variable that very word it goes down
-- with the bound, and at any later one without it. What an engine does, and the contract of its recursive function.
use Rattle.std.specs.Prelude.{ℕ, ◌≡◌, get_or, set, eqb}
use mathlib.Core.List.{List, [], ◌∷◌, map, flat_map}
use Rattle.relation.specs.Order.{Row, pick}
use Rattle.relation.specs.Runs.{from}
use Rattle.query.specs.Meaning.{Atom}
use Rattle.query.specs.Meet.{meet}
use Rattle.query.specs.Solve.{bind, runs, extend}
use Rattle.query.specs.Window.{Progress, emits}

-- the rows that complete `row` by words for the variables vs, and come strictly after the given row's words for them; with none left it is the given row itself
unfoldable pub extend_after : ℕ → List ℕ → List Atom → Row → Row → List Row
unfolding flat_map from bind runs meet extend
extend_after n [] atoms row given = []
extend_after n (v ∷ vs) atoms row given =
    flat_map
    (λ (k : ℕ). pick (eqb k (get_or given v 0)) (extend_after n vs (map (bind v k) atoms) (set row v k) given) (extend n vs (map (bind v k) atoms) (set row v k)))
    (from (get_or given v 0) (meet (runs v atoms)))

-- from s to t these rows are emitted
pub record DescendsAfter (n : ℕ) (vs : List ℕ) (atoms : List Atom) (row given : Row) (s t : Progress) : Type 0 where
  pub exit : t ≡ emits n s (extend_after n vs atoms row given)
