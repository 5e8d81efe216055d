-- Of theorems: calls that go on one after another over tables that do not change, and the rows that they write, joined.
use Rattle.std.specs.Prelude.{ℕ, suc, ◌≤◌, ◌≡◌, Bool, true, List, ◌++◌, length}
use Rattle.relation.specs.Order.{Row}
use Rattle.relation.specs.Rows.{cut}
use Rattle.join_query.specs.Query.{Accepted}
use Rattle.join_query.specs.declared.Query.{Query}
use Rattle.join_query.specs.declared.Tables.{Tables}
use Rattle.rows_after.specs.After.{JoinsAfter}
use Rattle.rows_after.specs.declared.JoinedAfter.{JoinedAfter}

-- the rows that a call wrote, read from its window
abbrev pub piece : Query → JoinedAfter → List ℕ → List Row
piece q r after = cut r.rows q.n after

-- So many calls, the first of them a start or going on after a given row, and their rows, joined. The last says 0; one before it says 12, its window had room for a row, and
-- the next goes on after the row that it handed back. Each call has a window of its own
pub data Calls (pool : List ℕ) (ts : Tables) (q : Query) : Bool → Row → ℕ → List Row → Type 0 where
  ends : {goes_on : Bool} {given : Row} {window : List ℕ} {r : JoinedAfter} {after : List ℕ} → JoinsAfter pool ts q goes_on given window r after → r.number ≡ 0 → Calls pool ts q goes_on given 1 (piece q r after)
  goes : {goes_on : Bool} {given : Row} {window : List ℕ} {r : JoinedAfter} {after : List ℕ} {calls : ℕ} {rows : List Row} → JoinsAfter pool ts q goes_on given window r after → q.n ≤ length window → r.number ≡ 12 → Calls pool ts q true r.last calls rows → Calls pool ts q goes_on given (suc calls) (piece q r after ++ rows)

-- whoever calls has a window with room for a row, of whole rows, and gets an answer by the contract
pub record Answered (pool : List ℕ) (ts : Tables) (q : Query) (goes_on : Bool) (given : Row) : Type 0 where
  pub window : List ℕ
  pub answer : JoinedAfter
  pub after : List ℕ
  pub joins : JoinsAfter pool ts q goes_on given window answer after
  pub accepted : Accepted pool ts q (length window)
  pub room : q.n ≤ length window

-- the calls that come up, from a first one: itself, and where one said 12 the one that goes on after the row that it handed back
pub data ComesUp (pool : List ℕ) (ts : Tables) (q : Query) (goes_on₀ : Bool) (given₀ : Row) : Bool → Row → Type 0 where
  first : ComesUp pool ts q goes_on₀ given₀ goes_on₀ given₀
  next : {goes_on : Bool} {given : Row} → ComesUp pool ts q goes_on₀ given₀ goes_on given → (t : Answered pool ts q goes_on given) → t.answer.number ≡ 12 → ComesUp pool ts q goes_on₀ given₀ true t.answer.last

-- calls from a start or after a given row that come to an end, no more of them than there are rows, and one
pub record Ended (pool : List ℕ) (ts : Tables) (q : Query) (goes_on : Bool) (given : Row) : Type 0 where
  pub count : ℕ
  pub rows : List Row
  pub calls : Calls pool ts q goes_on given count rows
  pub few : count ≤ suc (length rows)
