-- Internal: the contract of `row_at`: a row in eight words.
use Rattle.std.specs.Prelude.{ℕ, ◌-◌, List, ◌++◌, length, replicate}
use Rattle.relation.specs.Order.{Row}
use Rattle.join_query.specs.Query.{max_variables}

-- the row, and zeros behind it, as in `padded` of rows_after and `eight` of listing_verdict
abbrev pub zeros_behind : Row → List ℕ
zeros_behind row = row ++ replicate (max_variables - length row) 0
