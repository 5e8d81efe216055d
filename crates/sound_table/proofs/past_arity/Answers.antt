-- The goals of `past_arity` that the check leaves.
use mathlib.Core.Path.{sym}
use mathlib.Core.Logic.{inl, inr}
use native.Mathlib.Omega.{arith}
use Rattle.relation.proofs.Tests.{every_all, every_more, every_fails, every_fewer}
use Rattle.column_trie.specs.Limits.{max_arity}
use Rattle.column_trie.specs.Table.{past_at}
use Rattle.column_trie.proofs.Header.{past_told, past_not}
use Rattle.sound_table.proofs.past_arity.Goals as goal

pub loop-d-init : goal.loop-d-init
loop-d-init c =
    let t = c.args.t in
    every_all (past_at t) t.arity (λ d h. past_told t d (inl h))

pub returns-then-t-d-ne0 : goal.returns-then-t-d-ne0
returns-then-t-d-ne0 c =
    let d = c.loop-d.d in
    let t = c.args.t in
    sym (every_fails (past_at t) max_arity d (omega arith) (past_not t d c.loop-d.auto.d (grind arith)))

pub loop-d-preserved : goal.loop-d-preserved
loop-d-preserved c =
    let d = c.loop-d.d in
    let t = c.args.t in
    every_more (past_at t) d c.loop-d.invariant (past_told t d (inr (omega arith, omega arith, (cc))))

pub returns : goal.returns
returns c = sym (every_fewer (past_at c.args.t) max_arity c.loop-d.d (omega arith) c.loop-d.invariant)
