-- Internal: the row that a call hands back, read from the window that it wrote.
use Rattle.std.specs.Prelude.{ℕ, zero, suc, ◌*◌, List, [], Option, Some, None, take, drop}
use Rattle.relation.specs.Order.{Row}

-- the last of the rows there; where there are none, the n words that count of the row that the call goes on after, and nothing at a start
unfoldable pub last_read : List ℕ → ℕ → ℕ → Option Row → Row
last_read window n zero (Some given) = take n given
last_read window n zero None = []
last_read window n (suc j) after = take n (drop (j * n) window)
