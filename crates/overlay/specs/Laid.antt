-- Public: a school's rows laid over a maker's: "the rows that count are all of the school's, and those of the maker's whose first key the school's lacks".
use Rattle.std.specs.Prelude.{ℕ, ◌≡◌, ◌⊎◌, Bool, true, false, List, [], ◌∷◌, ◌++◌, get_or, eqb}
use Rattle.relation.specs.Order.{Row, pick}
use Rattle.relation.specs.Lists.{◌∈◌}
use Rattle.relation.specs.Rows.{as_set}

-- a row's first key
abbrev pub first : Row → ℕ
first q = get_or q 0 0

-- whether some row has the first key k
unfoldable pub owns : List Row → ℕ → Bool
owns [] k = false
owns (q ∷ qs) k = pick (eqb (first q) k) true (owns qs k)

-- those of the maker's whose first key the school's lacks
unfoldable pub others : List Row → List Row → List Row
unfolding owns
others school [] = []
others school (q ∷ qs) = pick (owns school (first q)) (others school qs) (q ∷ others school qs)

-- the rows that count, ascending
unfoldable pub laid : List Row → List Row → List Row
unfolding others as_set
laid school maker = as_set (school ++ others school maker)

-- the same as a fact of one row
abbrev pub Counts : List Row → List Row → Row → Type 0
Counts school maker q = (q ∈ school) ⊎ ((q ∈ maker) × ((r : Row) → r ∈ school → first r ≡ first q → ⊥))
