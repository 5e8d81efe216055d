-- The measure of `descend`, how many variables are left, and its loop: the keys left at this depth lead to its end (Walking.antt).
use Prim.Native.Nat.{◌-◌}
use Rattle.join_window.specs.Window.{Open, Kept}
use Rattle.join_openings.specs.Openings.{count_at}
use Rattle.descent.proofs.Walking.{Walk, keys_left}
use Rattle.descent.proofs.Counting.{Counting}
use Rattle.descent.proofs.+descend.Given as goal

abbrev pub decreases-descend : goal.decreases-descend
decreases-descend l = l.join.now.n - l.depth

abbrev pub invariant-loop-landed : goal.invariant-loop-landed
invariant-loop-landed l =
    Walk l.join.leap.pool.now l.join.plan.now l.join.leap.ends.now l.join.n l.depth l.initial.state l.ring l.by_atom l.initial.landed l.initial.row l.initial.window.words.now l.initial.window.rows l.window.words.now l.state l.landed l.row l.window.rows
    × Counting l.join.leap.pool.now l.join.plan.now l.join.leap.ends.now l.join.n l.depth l.initial.state l.ring l.by_atom l.initial.landed l.initial.row l.initial.window.words.now l.initial.window.rows l.before l.initial.seeks l.window.words.now l.state l.landed l.window.rows l.seeks
    × Kept l.initial.window l.window
    × Open l.join.n l.window

abbrev pub decreases-loop-landed : goal.decreases-loop-landed
decreases-loop-landed l = keys_left l.join.leap.pool.now l.state l.join.leap.ends.now l.by_atom (count_at l.join.plan.now l.depth) l.landed
