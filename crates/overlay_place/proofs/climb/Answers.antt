-- The goals of `climb` that the check leaves.
use Prim.Native.Nat.{◌+◌, ◌-◌}
use mathlib.Core.Path.{sym, ap, ◌∙◌}
use native.Mathlib.Omega.{arith}
use Rattle.column_trie_iter.specs.declared.UpAnswer.{UpAnswer}
use Rattle.overlay_place.specs.Pairs.{ups}
use Rattle.overlay_place.proofs.Tests.{ups_turn, ups_none, climbed_is}
use Rattle.overlay_place.proofs.climb.Goals as goal

pub loop-preserved : goal.loop-preserved
loop-preserved c =
    let a = c.args in
    let left = a.iter.depth - c.loop.counter in
    ap (λ (u : UpAnswer). ups (a.iter.depth - (c.loop.counter + 1)) a.pool.now a.table u.iter) c.up.ensures ∙
    ups_turn a.pool.now a.table c.loop.it left (a.iter.depth - (c.loop.counter + 1)) (omega arith) ∙ c.loop.invariant

pub returns : goal.returns
returns c =
    let a = c.args in
    ups_none a.pool.now a.table c.loop.it (a.iter.depth - c.loop.counter) (omega arith) ∙ c.loop.invariant ∙ sym (climbed_is a.pool.now a.table a.iter)
