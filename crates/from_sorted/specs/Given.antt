-- Public: the rows that lent words are.
use Rattle.std.specs.Prelude.{ℕ, ◌/◌, List, length}
use Rattle.relation.specs.Order.{Row}
use Rattle.relation.specs.Rows.{cut}

-- duplicates kept, in the order given
abbrev pub rows_given : ℕ → List ℕ → List Row
rows_given arity words = cut (length words / arity) arity words
