-- The goals of `columns_ok` that the check leaves.
use Prim.Native.Nat.{ℕ}
use native.Mathlib.Omega.{arith}
use mathlib.Core.Path.{◌≡◌, sym, subst}
use mathlib.Core.Bool.{true}
use Rattle.relation.specs.Tests.{every}
use Rattle.relation.proofs.Tests.{every_none, every_more, every_fails}
use Rattle.join_query.specs.Query.{column_ok}
use Rattle.join_query.proofs.Lists.{column_fails, column_same, column_other}
use Rattle.join_checks.proofs.columns_ok.Goals as goal
use Rattle.join_checks.proofs.columns_ok.Goals.{else-a-j-via-then-a-j+else-t-j, else-a-j-via-else-a-j}

pub loop-j-init : goal.loop-j-init
loop-j-init c = (omega arith, every_none _)

pub returns-then-t-j : goal.returns-then-t-j
returns-then-t-j c =
    let a = c.args in
    let j = c.loop-j.j in
    sym (every_fails (column_ok a.t.now a.a.now a.v a.grade) a.a.now.len j (omega arith) (column_fails a.t.now a.a.now a.v a.grade j c.if-a-j.true c.if-t-j.true))

pub loop-j-preserved : goal.loop-j-preserved
loop-j-preserved c =
    let a = c.args in
    let l = c.loop-j in (
      omega arith,
      every_more (column_ok a.t.now a.a.now a.v a.grade) l.j l.invariant.1 (elim c.else-a-j.branch [
        | else-a-j-via-then-a-j+else-t-j w ↦ column_same a.t.now a.a.now a.v a.grade l.j w.if-t-j.false
        | else-a-j-via-else-a-j w ↦ column_other a.t.now a.a.now a.v a.grade l.j w.if-a-j.false
      ]),
    )

pub returns : goal.returns
returns c =
    let a = c.args in
    let l = c.loop-j in
    let e : l.j ≡ a.a.now.len = omega arith in
    sym (subst (λ (n : ℕ). every n (column_ok a.t.now a.a.now a.v a.grade) ≡ true) e l.invariant.1)
