-- The goals of `first_wrong` that the check leaves.
use Prim.Native.Nat.{◌+◌}
use native.Mathlib.Omega.{arith}
use mathlib.Core.Path.{◌≡◌, sym, ◌∙◌}
use lib.ListN.{length}
use Rattle.listing_verdict.specs.Checked.{complete}
use mathlib.Core.Bool.{Bool}
use borrow.Author.Count.{below_more}
use Rattle.relation.specs.Rows.{cut}
use Rattle.join_query.specs.Query.{order_of}
use Rattle.listing_verdict.specs.Verdict.{good}
use Rattle.listing_verdict.proofs.Fails.{fail_is}
use Rattle.listed_rows.proofs.Reading.{good_any, row_inside}
use Rattle.listed_rows.proofs.first_wrong.Goals as goal
use Rattle.listed_rows.proofs.first_wrong.Goals.{In-loop-i}

-- what the test says of the row, among all of them
tested : (t : In-loop-i) → let a = t.args in (b : Bool) → b ≡ good (order_of a.asked.query.now) (complete a.asked.pool.now a.asked.tables.now a.asked.query.now) (cut (t.loop-i.i + 1) a.asked.query.now.n a.listing.now) t.loop-i.i → good (order_of a.asked.query.now) (complete a.asked.pool.now a.asked.tables.now a.asked.query.now) (cut a.rows a.asked.query.now.n a.listing.now) t.loop-i.i ≡ b
tested t b e =
    let a = t.args in
    good_any (order_of a.asked.query.now) (complete a.asked.pool.now a.asked.tables.now a.asked.query.now) a.asked.query.now.n a.listing.now a.rows (t.loop-i.i + 1) t.loop-i.i t.loop-i-test.true (omega arith) ∙ sym e

pub loop-i-init : goal.loop-i-init
loop-i-init c = λ k h. c.requires.2 k (omega (arith, h))

pub good-requires : goal.good-requires
good-requires c = row_inside c.loop-i.i c.args.rows c.args.asked.query.now.n (length c.args.listing.now) c.loop-i-test.true c.requires.0

pub returns-then-not-good-clause-number : goal.returns-then-not-good-clause-number
returns-then-not-good-clause-number c =
    let a = c.args in
    sym (fail_is a.rows (good (order_of a.asked.query.now) (complete a.asked.pool.now a.asked.tables.now a.asked.query.now) (cut a.rows a.asked.query.now.n a.listing.now)) c.loop-i.i (omega (arith, c.requires.1)) c.loop-i.invariant (λ h. tested (goal.at.returns-then-not-good-clause-number c).In-loop-i c.good.result c.good.ensures ∙ c.if-not-good.true))

pub loop-i-preserved : goal.loop-i-preserved
loop-i-preserved c =
    below_more _ c.loop-i.i c.loop-i.invariant (tested (goal.at.loop-i-preserved c).In-loop-i c.good.result c.good.ensures ∙ c.if-not-good.false)

pub returns-clause-number : goal.returns-clause-number
returns-clause-number c =
    let a = c.args in
    let e : c.loop-i.i ≡ a.rows = omega (arith, c.requires.1) in
    sym e ∙ sym (fail_is a.rows (good (order_of a.asked.query.now) (complete a.asked.pool.now a.asked.tables.now a.asked.query.now) (cut a.rows a.asked.query.now.n a.listing.now)) c.loop-i.i (omega (arith, e)) c.loop-i.invariant (λ h. absurd (omega arith)))
