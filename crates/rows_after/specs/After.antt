-- Public: a join that starts, or goes on after a given row: the rows that it lists, the row that it hands back, and its answer, all of it determined on every input.
use Rattle.std.specs.Prelude.{ℕ, zero, suc, ◌-◌, ◌≡◌, Bool, List, [], ◌∷◌, ◌++◌, length, take, replicate}
use Rattle.relation.specs.Order.{Row, pick, before}
use Rattle.query.specs.Meaning.{part}
use Rattle.query.specs.Solve.{listing}
use Rattle.query.specs.Window.{Progress, windowed}
use Rattle.query.specs.Outcome.{Comes}
use Rattle.join_query.specs.Query.{max_variables, order_of, atoms_of, join_number}
use Rattle.join_query.specs.Outcome.{answered}
use Rattle.join_query.specs.declared.Query.{Query}
use Rattle.join_query.specs.declared.Tables.{Tables}
use Rattle.rows_after.specs.declared.JoinedAfter.{JoinedAfter}

-- ---- the rows

-- those of the rows that come strictly after the given one, as read in the order
unfoldable pub after_row : List ℕ → Row → List Row → List Row
unfolding before
after_row order given [] = []
after_row order given (r ∷ rs) = pick (before (part order given) (part order r)) (r ∷ after_row order given rs) (after_row order given rs)

-- the rows that a call lists: all of them at a start; where it goes on, those after the given one
abbrev pub asked : List ℕ → Bool → Row → List Row → List Row
asked order goes_on given rows = pick goes_on (after_row order given rows) rows

abbrev pub rows_asked : List ℕ → Tables → Query → Bool → Row → List Row
rows_asked pool ts q goes_on given = asked (order_of q) goes_on given (listing q.n (order_of q) (atoms_of pool ts q))

-- they in the call's window: as many as fit, and full where more remain
abbrev pub listed_after : List ℕ → Tables → Query → Bool → Row → List ℕ → Progress
listed_after pool ts q goes_on given window = windowed window q.n (rows_asked pool ts q goes_on given)

-- ---- the row that a call hands back

-- the last of the rows; where there are none, the one that stands before them
unfoldable pub last_of : Row → List Row → Row
last_of row [] = row
last_of row (r ∷ rs) = last_of r rs

-- what stands before the rows of a call: the n words that count of the given row, and nothing at a start
abbrev pub stood_at : ℕ → Bool → Row → Row
stood_at n goes_on given = pick goes_on (take n given) []

-- a row's words as an array has them, zeros behind
abbrev pub padded : Row → List ℕ
padded row = row ++ replicate (max_variables - length row) 0

-- the last row written, or the one that the call stood at; zeros in every refusal but 12
unfoldable pub handed_back : ℕ → Row → List ℕ
handed_back zero row = padded row
handed_back (suc number) row = padded []

unfoldable pub last_after : List ℕ → Tables → Query → Bool → Row → List ℕ → List ℕ
unfolding handed_back last_of after_row join_number listing windowed
last_after pool ts q goes_on given window =
    handed_back (join_number pool ts q (length window))
    (last_of (stood_at q.n goes_on given) (take (listed_after pool ts q goes_on given window).count (rows_asked pool ts q goes_on given)))

-- ---- the answer

-- the number, how many rows are written, and the window's words: the join's checks, and then the rows that the call lists
unfoldable pub outcome_after : List ℕ → Tables → Query → Bool → Row → List ℕ → Comes
unfolding answered after_row join_number listing windowed
outcome_after pool ts q goes_on given window = answered (join_number pool ts q (length window)) window (listed_after pool ts q goes_on given window)

-- the contract: what the call answers and what it leaves in the window. The given row is eight words, and does not count at a start
pub record JoinsAfter (pool : List ℕ) (ts : Tables) (q : Query) (goes_on : Bool) (given : Row) (window : List ℕ) (r : JoinedAfter) (after : List ℕ) : Type 0 where
  pub number : r.number ≡ (outcome_after pool ts q goes_on given window).number
  pub rows : r.rows ≡ (outcome_after pool ts q goes_on given window).rows
  pub words : after ≡ (outcome_after pool ts q goes_on given window).words
  pub last : r.last ≡ last_after pool ts q goes_on given window
