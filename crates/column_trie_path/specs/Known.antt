-- Public: whether a row is one of the rows: what an insert and a removal ask.
use Rattle.std.specs.Prelude.{Bool, false, ◌||◌, List, [], ◌∷◌}
use Rattle.relation.specs.Order.{Row}
use Rattle.relation.specs.Rows.{same}

-- r is one of the rows
unfoldable pub known : List Row → Row → Bool
unfolding same
known [] r = false
known (q ∷ qs) r = same r q || known qs r
