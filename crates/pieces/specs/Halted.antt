-- Of theorems: a leapfrog over pieces of runs that has ended at a piece's end.
use Rattle.std.specs.Prelude.{◌≡◌, List, [], ◌∷◌, ℕ, ◌≤◌, ◌<◌, length, set, eqb}
use Rattle.relation.specs.Order.{pick}
use Rattle.query.specs.Meet.{Runs}
use Rattle.query.specs.Ring.{Round}
use Rattle.leapfrog.specs.Search.{run_at, first, place_after, place_before}

-- what the run at p is to reach: the key at the place before, the greatest; where it is alone, nothing
abbrev pub goal_at : List (List ℕ) → ℕ → ℕ
goal_at runs p = pick (eqb (length runs) 1) 0 (first (run_at runs (place_before (length runs) p)))

-- the piece at p has no key left, the others have: a key that comes to p and is not below the goal is the greatest
pub record Halted (runs : List (List ℕ)) (p : ℕ) : Type 0 where
  pub place : p < length runs
  pub ended : run_at runs p ≡ []
  pub ascend : Runs runs
  pub nonempty : (j : ℕ) → j < length runs → (j ≡ p → ⊥) → run_at runs j ≡ [] → ⊥
  pub round : (y : ℕ) → goal_at runs p ≤ y → Round (λ (j : ℕ). first (run_at (set runs p (y ∷ [])) j)) (length runs) (place_after (length runs) p)
