-- The goals of `lengths_within` that the check leaves.
use Prim.Native.Nat.{ℕ}
use mathlib.Core.Path.{◌≡◌, sym, subst}
use mathlib.Core.Bool.{true}
use mathlib.Core.Logic.{inl, inr}
use native.Mathlib.Omega.{arith}
use Rattle.relation.specs.Tests.{every}
use Rattle.relation.proofs.Tests.{every_none, every_more, every_fails}
use Rattle.column_trie.specs.Limits.{max_arity}
use Rattle.column_trie.specs.Table.{within_at}
use Rattle.column_trie.proofs.Header.{within_told, within_not}
use Rattle.column_trie.proofs.lengths_within.Goals as goal
use Rattle.column_trie.proofs.lengths_within.Goals.{then-t-d-via-then-t-d, then-t-d-via-else-t-d+then-t-d-2}

pub loop-d-init : goal.loop-d-init
loop-d-init c = every_none _

pub returns-then-t-d : goal.returns-then-t-d
returns-then-t-d c =
    let d = c.loop-d.d in
    let t = c.args.t in
    sym (every_fails (within_at t) max_arity d (omega arith) (within_not t d (elim c.then-t-d.branch [ then-t-d-via-then-t-d w ↦ inl w.if-t-d.true | then-t-d-via-else-t-d+then-t-d-2 w ↦ inr w.if-t-d-2.true ])))

pub loop-d-preserved : goal.loop-d-preserved
loop-d-preserved c = every_more (within_at c.args.t) c.loop-d.d c.loop-d.invariant (within_told c.args.t c.loop-d.d c.if-t-d.false c.if-t-d-2.false)

pub returns : goal.returns
returns c =
    let e : c.loop-d.d ≡ max_arity = omega (arith, c.loop-d.auto.d-end) in
    sym (subst (λ (n : ℕ). every n (within_at c.args.t) ≡ true) e c.loop-d.invariant)
