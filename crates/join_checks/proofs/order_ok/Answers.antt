-- The goals of `order_ok` that the check leaves.
use mathlib.Core.Path.{◌≡◌, ◌∙◌}
use native.Mathlib.Omega.{arith}
use borrow.Author.Tests.{lt-leb}
use lib.ListN.{length}
use borrow.Author.Rules.{rules}
use Rattle.join_query.specs.Query.{max_variables}
use Rattle.join_query.proofs.Lists.{too_many, order_asked}
use Rattle.join_checks.proofs.order_ok.Goals as goal
use Rattle.join_checks.proofs.order_ok.Goals.{Start}

-- what the parameter's type says
long : (s : Start) → length s.args.q.now.order ≡ max_variables
long s = search rules

pub returns-then-q-le-MAX_VARIABLES : goal.returns-then-q-le-MAX_VARIABLES
returns-then-q-le-MAX_VARIABLES c = c.permutes.ensures ∙ order_asked c.args.q.now (long (goal.at.returns-then-q-le-MAX_VARIABLES c).Start) c.if-q-le-MAX_VARIABLES.true

pub returns-else-q-le-MAX_VARIABLES : goal.returns-else-q-le-MAX_VARIABLES
returns-else-q-le-MAX_VARIABLES c = lt-leb c.args.q.now.n 8 (omega arith) ∙ too_many c.args.q.now (omega arith)
