-- Public: what the plain join answers, the number, the rows written and the window's words: the query's outcome, as the leapfrog triejoin's but for the seeks.
use Rattle.std.specs.Prelude.{ℕ, ◌≡◌, List}
use Rattle.join_query.specs.Outcome.{outcome}
use Rattle.join_query.specs.declared.Query.{Query}
use Rattle.join_query.specs.declared.Tables.{Tables}
use Rattle.plain_join.specs.declared.PlainJoined.{PlainJoined}

-- the contract: what the call answers and what it leaves in the window are the outcome's
pub record PlainJoins (pool : List ℕ) (ts : Tables) (q : Query) (window : List ℕ) (r : PlainJoined) (after : List ℕ) : Type 0 where
  pub number : r.number ≡ (outcome pool ts q window).number
  pub rows : r.rows ≡ (outcome pool ts q window).rows
  pub words : after ≡ (outcome pool ts q window).words
