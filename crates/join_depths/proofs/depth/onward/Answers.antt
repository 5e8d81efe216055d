-- `depth::onward` meets its contract: either ring is searched from a place where all agree.
use mathlib.Core.Path.{◌≡◌}
use mathlib.Core.Logic.{inl, inr}
use Rattle.relation.specs.Order.{pick}
use Rattle.join_depths.proofs.Stepping.{turn_agreed, turn_onward, start_is}
use Rattle.join_depths.proofs.depth.onward.Goals as goal
use Rattle.join_depths.proofs.depth.onward.Goals.{Joined-last, else-last, then-last}

begins : (j : Joined-last) → let a = j.args in j.if-last.start ≡ pick a.last a.p 0
begins j = let a = j.args in start_is a.last (elim j.if-last.branch [ then-last w ↦ inl (w.if-last.true, w.start-is) | else-last w ↦ inr (w.if-last.false, w.start-is) ])

pub whole_next-requires : goal.whole_next-requires
whole_next-requires c =
    turn_agreed c.requires.whole_agreed c.requires.same_atoms c.args.last c.chosen-turn.ensures (begins (goal.at.whole_next-requires c).Joined-last)

pub returns : goal.returns
returns c =
    turn_onward c.requires.whole_agreed c.requires.same_atoms c.args.last c.chosen-turn.ensures (begins (goal.at.returns c).Joined-last) c.args.seeks c.since.ensures c.whole_next.ensures
