-- Public: what comes of a query, whatever finds its rows: the number, the rows written and the window's words, all of them determined on every input.
use Rattle.std.specs.Prelude.{ℕ, zero, suc, List, length}
use Rattle.query.specs.Solve.{listing}
use Rattle.query.specs.Window.{Progress, windowed}
use Rattle.query.specs.Outcome.{Comes, told, refused}
use Rattle.join_query.specs.Query.{order_of, rows_at, atoms_of, join_number}
use Rattle.join_query.specs.declared.Query.{Query}
use Rattle.join_query.specs.declared.Tables.{Tables}

-- the listing of the query, in its window
abbrev pub listed : List ℕ → Tables → Query → List ℕ → Progress
listed pool ts q window = windowed window q.n (listing q.n (order_of q) (atoms_of pool ts q))

-- a refused query gives its number and no rows, and leaves the window as it was; any other gives its listing, and 12 where more rows exist than fit
unfoldable pub answered : ℕ → List ℕ → Progress → Comes
unfolding told refused
answered zero window s = told s
answered (suc number) window s = refused (suc number) window

unfoldable pub outcome : List ℕ → Tables → Query → List ℕ → Comes
unfolding answered join_number rows_at listing windowed
outcome pool ts q window = answered (join_number pool ts q (length window)) window (listed pool ts q window)
