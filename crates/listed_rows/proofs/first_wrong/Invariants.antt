-- `first_wrong` meets its contract: the rows before the one that it has come to are good.
use Prim.Native.Nat.{ℕ, ◌<◌}
use mathlib.Core.Path.{◌≡◌}
use mathlib.Core.Bool.{true}
use Rattle.listing_verdict.specs.Checked.{complete}
use Rattle.relation.specs.Rows.{cut}
use Rattle.join_query.specs.Query.{order_of}
use Rattle.listing_verdict.specs.Verdict.{good}
use Rattle.listed_rows.proofs.first_wrong.Given as goal

abbrev pub invariant-loop-i : goal.invariant-loop-i
invariant-loop-i l = (k : ℕ) → k < l.i → good (order_of l.asked.query.now) (complete l.asked.pool.now l.asked.tables.now l.asked.query.now) (cut l.rows l.asked.query.now.n l.listing) k ≡ true
