-- What `plan_depth` asks of the query that it is lent: the parameter's type says it.
use mathlib.Core.Path.{◌≡◌}
use lib.ListN.{length}
use Rattle.query.specs.Limits.{max_atoms}
use Rattle.join_query.proofs.Whole.{length_mapped}
use borrow.Author.Rules.{rules}
use Rattle.join_plan.proofs.make_plan.Goals as goal
use Rattle.join_plan.proofs.make_plan.Goals.{Start}

whole : (s : Start) → length s.args.q.atoms ≡ max_atoms
whole s = search (length_mapped, rules)

pub plan_depth-requires-clause-whole : goal.plan_depth-requires-clause-whole
plan_depth-requires-clause-whole c = whole (goal.at.plan_depth-requires-clause-whole c).Start
