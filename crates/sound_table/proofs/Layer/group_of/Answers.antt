-- `sound_table::Layer::group_of` meets its contract: the group's two ends are those of its interval and the next, and each way out is one of the definition's
-- tests (Groups.antt).
use mathlib.Core.Path.{◌≡◌}
use native.Mathlib.Omega.{arith}
use Rattle.column_trie.specs.Groups.{group_from, group_to}
use Rattle.sound_table.specs.Layers.{seen}
use Rattle.sound_table.proofs.Groups.{unlisted, starts_group, ends_group, falling, over, lying}
use Rattle.sound_table.proofs.Layer.group_of.Goals as goal
use Rattle.sound_table.proofs.Layer.group_of.Goals.{After-begins-to, then-to-from-via-then-to-from, then-to-from-via-else-to-from+then-self-to}

starts : (q : After-begins-to) → q.begins-from.result ≡ group_from (seen q.args.self.now) q.args.i
starts q = starts_group (seen q.args.self.now) q.args.i (omega (arith, q.if-self-i.false)) q.begins-from.ensures

ends : (q : After-begins-to) → q.begins-to.result ≡ group_to (seen q.args.self.now) q.args.i
ends q = ends_group (seen q.args.self.now) q.args.i q.begins-to.ensures

pub returns-then-self-i : goal.returns-then-self-i
returns-then-self-i c = unlisted (seen c.args.self.now) c.args.i c.if-self-i.true

pub returns-then-to-from : goal.returns-then-to-from
returns-then-to-from c =
    let l = seen c.args.self.now in
    let q = (goal.at.returns-then-to-from c).After-begins-to in
    elim c.then-to-from.branch [
      | then-to-from-via-then-to-from w ↦ falling l c.args.i (omega (arith, c.if-self-i.false)) (starts q) (ends q) w.if-to-from.true
      | then-to-from-via-else-to-from+then-self-to w ↦ over l c.args.i (omega (arith, c.if-self-i.false)) (starts q) (ends q) (omega (arith, w.if-to-from.false)) (omega (arith, w.if-self-to.true))
    ]

pub returns : goal.returns
returns c =
    let q = (goal.at.returns c).After-begins-to in
    lying (seen c.args.self.now) c.args.i (omega (arith, c.if-self-i.false)) (starts q) (ends q) (omega (arith, c.if-to-from.false)) (omega (arith, c.if-self-to.false))
