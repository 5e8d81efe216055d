use mathlib.Core.Path.{◌≡◌}
use lib.ListN.{drop}
use Rattle.join_query.specs.Query.{order_of}
use Rattle.relation.specs.Order.{before}
use Rattle.query.specs.Meaning.{part}
use Rattle.listed_rows.proofs.comes_before.Given as goal

abbrev pub invariant-loop-d : goal.invariant-loop-d
invariant-loop-d l = before (part (order_of l.q) l.a) (part (order_of l.q) l.b) ≡ before (part (drop l.d (order_of l.q)) l.a) (part (drop l.d (order_of l.q)) l.b)
