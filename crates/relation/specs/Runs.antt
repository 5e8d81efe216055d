-- Public: a run of keys, cut at a target.
use Rattle.std.specs.Prelude.{ℕ, List, [], ◌∷◌, ltb}
use Rattle.relation.specs.Order.{pick}

-- the run from its first key not below t
unfoldable pub from : ℕ → List ℕ → List ℕ
from t [] = []
from t (x ∷ xs) = pick (ltb x t) (from t xs) (x ∷ xs)
