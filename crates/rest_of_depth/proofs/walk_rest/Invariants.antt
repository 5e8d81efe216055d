-- `walk_rest` meets its contract: each key left is passed by one call, until none is left or the window is full.
use Rattle.join_window.specs.Window.{Open, Kept}
use Rattle.join_openings.specs.Openings.{count_at}
use Rattle.descent.proofs.Walking.{keys_left}
use Rattle.rest_of_depth.proofs.Resting.{Walking}
use Rattle.rest_of_depth.proofs.walk_rest.Given as goal

abbrev pub invariant-loop-landed : goal.invariant-loop-landed
invariant-loop-landed l =
    Walking l.join.leap.pool.now l.join.plan.now l.join.leap.ends.now l.join.n l.depth l.initial.state l.ring l.by_atom l.initial.landed l.found l.initial.window.words.now l.initial.window.rows l.window.words.now l.state l.landed l.window.rows
    × Kept l.initial.window l.window
    × Open l.join.n l.window

abbrev pub decreases-loop-landed : goal.decreases-loop-landed
decreases-loop-landed l = keys_left l.join.leap.pool.now l.state l.join.leap.ends.now l.by_atom (count_at l.join.plan.now l.depth) l.landed
