-- Internal: what a case's runs are: a ring in atom order, and for each atom a part of the pool that ascends.
use Rattle.std.specs.Prelude.{ℕ, ◌<◌, ◌≤◌, List, [], ◌∷◌, length}
use Rattle.relation.specs.Lists.{Ascends}
use Rattle.leapfrog_search.specs.Leapfrog.{part}

-- every atom, in atom order
abbrev pub in_order : List ℕ
in_order = 0 ∷ 1 ∷ 2 ∷ 3 ∷ 4 ∷ 5 ∷ 6 ∷ 7 ∷ []

-- the pool from x to e: at least one key, each above those before it
pub record Run (pool : List ℕ) (x e : ℕ) : Type 0 where
  pub nonempty : x < e
  pub inside : e ≤ length pool
  pub ascends : Ascends ◌<◌ (part pool x e)
