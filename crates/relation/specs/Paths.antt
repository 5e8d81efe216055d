-- Public: the rows that layers hold, read from the top.
use Rattle.std.specs.Prelude.{ℕ, suc, ◌-◌, List, [], ◌∷◌, ◌++◌, get_or, leb}
use Rattle.relation.specs.Order.{Row, pick}
use Rattle.relation.specs.Layers.{Layer}

-- how many leading starts are not above j
unfoldable pub upto : ℕ → List ℕ → ℕ
upto j [] = 0
upto j (s ∷ ss) = pick (leb s j) (suc (upto j ss)) 0

-- the parent of the key at place j: the last whose start is not above j
unfoldable pub owner : List ℕ → ℕ → ℕ
unfolding upto
owner ints j = upto j ints - 1

-- each key behind its parent's row
unfoldable pub grow : List Row → List ℕ → ℕ → List ℕ → List Row
unfolding owner
grow ps ints at [] = []
grow ps ints at (k ∷ ks) = (get_or ps (owner ints at) [] ++ (k ∷ [])) ∷ grow ps ints (suc at) ks

unfoldable pub rows_from : List Row → List Layer → List Row
unfolding grow
rows_from ps [] = ps
rows_from ps (l ∷ ls) = rows_from (grow ps l.intervals 0 l.keys) ls

-- the rows that the layers hold
unfoldable pub rows_of : List Layer → List Row
unfolding rows_from
rows_of ls = rows_from ([] ∷ []) ls
