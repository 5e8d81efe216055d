-- The goals of `answers` that the check leaves.
use Prim.Native.Nat.{◌≤◌}
use native.Mathlib.Omega.{arith}
use mathlib.Core.Path.{◌≡◌, sym, ◌∙◌}
use lib.ListN.{length}
use Rattle.join_query.specs.Query.{max_variables}
use borrow.Author.Count.{below_more}
use Rattle.join_query.proofs.Accepted.{sized, passes}
use Rattle.listed_rows.proofs.Tested.{all_pass, one_fails}
use borrow.Author.Rules.{rules}
use Rattle.listed_rows.proofs.answers.Goals as goal
use Rattle.listed_rows.proofs.answers.Goals.{Start}

few : (s : Start) → s.args.asked.query.now.n ≤ max_variables
few s = (sized s.args.asked.passed.accepted).few

-- what the parameter's type says
long : (s : Start) → length s.args.row ≡ max_variables
long s = search rules

pub all_hold-requires : goal.all_hold-requires
all_hold-requires c = omega (arith, few (goal.at.all_hold-requires c).Start, c.loop-v-test.true)

pub returns-then-not-all_hold : goal.returns-then-not-all_hold
returns-then-not-all_hold c =
    one_fails (passes c.args.asked.passed.accepted) c.args.row c.loop-v.v c.loop-v-test.true (sym c.all_hold.ensures ∙ c.if-not-all_hold.true)

pub loop-v-preserved : goal.loop-v-preserved
loop-v-preserved c =
    below_more _ c.loop-v.v c.loop-v.invariant (sym c.all_hold.ensures ∙ c.if-not-all_hold.false)

pub returns : goal.returns
returns c =
    all_pass (passes c.args.asked.passed.accepted) c.args.row (omega (arith, few (goal.at.returns c).Start, long (goal.at.returns c).Start)) (λ v h. c.loop-v.invariant v (omega (arith, c.loop-v-test.false)))
