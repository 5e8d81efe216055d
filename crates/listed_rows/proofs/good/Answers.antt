-- The goals of `good` that the check leaves.
use Prim.Native.Nat.{◌≤◌}
use mathlib.Core.Path.{sym, ◌∙◌}
use lib.ListN.{length}
use Rattle.join_query.specs.Query.{max_variables, order_of}
use Rattle.join_query.proofs.Accepted.{sized}
use Rattle.listing_verdict.specs.Checked.{complete}
use Rattle.listed_rows.proofs.Reading.{good_none, good_start, good_behind, row_prior}
use Rattle.listed_rows.proofs.good.Goals as goal
use Rattle.listed_rows.proofs.good.Goals.{Start}

few : (s : Start) → s.args.asked.query.now.n ≤ max_variables
few s = (sized s.args.asked.passed.accepted).few

pub row_at-row-requires : goal.row_at-row-requires
row_at-row-requires c = (few (goal.at.row_at-row-requires c).Start, c.requires)

pub returns-then-not-answers : goal.returns-then-not-answers
returns-then-not-answers c =
    let a = c.args in
    let r = c.row_at-row in
    good_none (order_of a.asked.query.now) (complete a.asked.pool.now a.asked.tables.now a.asked.query.now) a.asked.query.now.n a.listing.now a.i r.result r.ensures c.requires (sym c.answers.ensures ∙ c.if-not-answers.true)

pub returns-then-i-eq0 : goal.returns-then-i-eq0
returns-then-i-eq0 c =
    let a = c.args in
    let r = c.row_at-row in
    good_start (order_of a.asked.query.now) (complete a.asked.pool.now a.asked.tables.now a.asked.query.now) a.asked.query.now.n a.listing.now a.i r.result r.ensures c.requires (sym c.answers.ensures ∙ c.if-not-answers.false) c.if-i-eq0.true

pub row_at-last-requires : goal.row_at-last-requires
row_at-last-requires c = (few (goal.at.row_at-last-requires c).Start, row_prior c.args.i c.args.asked.query.now.n (length c.args.listing.now) c.if-i-eq0.false c.requires)

pub comes_before-requires : goal.comes_before-requires
comes_before-requires c = sized c.args.asked.passed.accepted

pub returns : goal.returns
returns c =
    let a = c.args in
    let r = c.row_at-row in
    let z = sized c.args.asked.passed.accepted in
    good_behind (order_of a.asked.query.now) (complete a.asked.pool.now a.asked.tables.now a.asked.query.now) a.asked.query.now.n a.listing.now a.i r.result r.ensures c.requires (sym c.answers.ensures ∙ c.if-not-answers.false) c.if-i-eq0.false
    c.row_at-last.result c.row_at-last.ensures (row_prior a.i a.asked.query.now.n (length a.listing.now) c.if-i-eq0.false c.requires) z.permutation.below c.comes_before.result c.comes_before.ensures
