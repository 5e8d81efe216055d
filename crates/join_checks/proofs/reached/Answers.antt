-- The goals of `reached` that the check leaves.
use native.Mathlib.Omega.{arith}
use mathlib.Core.Path.{refl, sym, ap, ◌∙◌}
use mathlib.Core.List.{List}
use Prim.Native.Nat.{ℕ}
use lib.Seq.{take_all}
use Rattle.join_query.specs.Checking.{reached}
use Rattle.join_query.proofs.Lists.{reached_in, reached_out}
use Rattle.join_checks.proofs.reached.Goals as goal
use Rattle.join_checks.proofs.reached.Goals.{else-heads, then-heads}

pub loop-v-init : goal.loop-v-init
unfolding reached
loop-v-init c = (omega arith, refl)

pub loop-v-preserved : goal.loop-v-preserved
loop-v-preserved c =
    let a = c.args in
    let l = c.loop-v in
    let e = sym c.heads.ensures in
    elim c.if-heads.branch [
      | then-heads u ↦ (omega (arith, u.j-is), u.j-is ∙ reached_in a.first.now a.list.now l.v-index c.loop-v-test.true l.invariant.1 (e ∙ u.if-heads.true))
      | else-heads u ↦ (omega (arith, u.j-is), u.j-is ∙ reached_out a.first.now a.list.now l.v-index c.loop-v-test.true l.invariant.1 (e ∙ u.if-heads.false))
    ]

pub returns : goal.returns
returns c = c.loop-v.invariant.1 ∙ ap (λ (l : List ℕ). reached l c.args.list.now) (take_all c.loop-v.v-index c.args.first.now (omega arith))
