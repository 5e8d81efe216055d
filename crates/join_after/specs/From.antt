-- Internal: the contract of the inner function that lists: the row that the call goes on after is there or it isn't, where the public call has a flag beside the row.
use Rattle.std.specs.Prelude.{ℕ, Bool, true, false, List, [], Option, Some, None}
use Rattle.relation.specs.Order.{Row}
use Rattle.query.specs.Window.{Progress}
use Rattle.join_query.specs.declared.Query.{Query}
use Rattle.join_query.specs.declared.Tables.{Tables}
use Rattle.rows_after.specs.After.{listed_after}

-- the row that a call goes on after; none, where it starts
abbrev pub given_row : Bool → Row → Option Row
given_row true given = Some given
given_row false given = None

-- the rows that a call lists, in its window. At a start no row is looked at
abbrev pub listed_from : List ℕ → Tables → Query → Option Row → List ℕ → Progress
listed_from pool ts q (Some given) window = listed_after pool ts q true given window
listed_from pool ts q None window = listed_after pool ts q false [] window
