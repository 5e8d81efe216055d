-- Public: what a check of a recorded listing answers, every field of it determined on every input: the join's checks, and then the verdict.
use Rattle.std.specs.Prelude.{ℕ, zero, suc, ◌-◌, ◌≡◌, List, ◌++◌, length, replicate}
use Rattle.relation.specs.Order.{Row}
use Rattle.query.specs.Solve.{listing}
use Rattle.join_query.specs.Query.{max_variables, order_of, atoms_of, join_number}
use Rattle.join_query.specs.declared.Query.{Query}
use Rattle.join_query.specs.declared.Tables.{Tables}
use Rattle.listing_verdict.specs.Verdict.{Verdict, accepted, wrong, missing, rows_listed, verdict}
use Rattle.listing_verdict.specs.declared.Checked.{Checked}

-- eight words: a row, and zeros behind it
abbrev pub eight : Row → List ℕ
eight r = r ++ replicate (max_variables - length r) 0

abbrev pub no_row : List ℕ
no_row = replicate max_variables 0

-- the verdict in the answer's words
unfoldable pub says : Verdict → Checked
says accepted = record { number = 0; verdict = 1; row = 0; missing = no_row }
says (wrong i) = record { number = 0; verdict = 2; row = i; missing = no_row }
says (missing r) = record { number = 0; verdict = 3; row = 0; missing = eight r }

-- a refused query gives its number, and nothing is checked
unfoldable pub checked : ℕ → Verdict → Checked
unfolding says
checked zero v = says v
checked (suc number) v = record { number = suc number; verdict = 0; row = 0; missing = no_row }

-- the complete listing of the query
abbrev pub complete : List ℕ → Tables → Query → List Row
complete pool ts q = listing q.n (order_of q) (atoms_of pool ts q)

-- the verdict on words that are said to be it
abbrev pub verdict_on : List ℕ → Tables → Query → List ℕ → ℕ → Verdict
verdict_on pool ts q words count = verdict (order_of q) (complete pool ts q) (rows_listed q.n words count)

-- the contract
pub record Checks (pool : List ℕ) (ts : Tables) (q : Query) (words : List ℕ) (count : ℕ) (r : Checked) : Type 0 where
  pub answer : r ≡ checked (join_number pool ts q (length words)) (verdict_on pool ts q words count)
