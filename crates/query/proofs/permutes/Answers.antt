-- The goals of `permutes` that the check leaves.
use native.Mathlib.Omega.{arith}
use mathlib.Core.Path.{sym, ◌∙◌}
use lib.ListN.{get_or, take}
use borrow.Author.Rules.{rules}
use Rattle.query.proofs.Permuting.{has_is, permuting_start, permuting_next, permuted, too_large, twice}
use Rattle.query.proofs.permutes.Goals as goal
use Rattle.query.proofs.permutes.Goals.{then-list-v-via-then-list-v, then-list-v-via-else-list-v+then-contains}

pub loop-i-init : goal.loop-i-init
loop-i-init c = permuting_start c.args.list.now

pub returns-then-list-v : goal.returns-then-list-v
returns-then-list-v c =
    let l = c.args.list.now in
    let i = c.loop-i.i in
    elim c.then-list-v.branch [
      | then-list-v-via-then-list-v w ↦ too_large l i c.loop-i-test.true w.if-list-v.true
      | then-list-v-via-else-list-v+then-contains w ↦ twice l i c.loop-i-test.true (sym (has_is (take i l) (get_or l i 0) w.contains.result (search rules) (search rules)) ∙ w.if-contains.true)
    ]

pub loop-i-preserved : goal.loop-i-preserved
loop-i-preserved c =
    let l = c.args.list.now in
    let i = c.loop-i.i in
    permuting_next c.loop-i.invariant c.loop-i-test.true (omega arith) (sym (has_is (take i l) (get_or l i 0) c.contains.result (search rules) (search rules)) ∙ c.if-contains.false)

pub returns : goal.returns
returns c = permuted c.loop-i.invariant (omega arith)
