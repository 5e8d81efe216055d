-- The goals of `walk_rest` that the check leaves.
use native.Mathlib.Omega.{arith}
use Rattle.join_window.proofs.Windows.{still_open, kept_none, kept_on}
use Rattle.descent.proofs.Walking.{steps_less}
use Rattle.rest_of_depth.proofs.Resting.{walk_start, few_variables, variable_small, walk_below, walk_agreed, walk_same, walk_full, walk_next, walk_none}
use Rattle.rest_of_depth.proofs.walk_rest.Goals as goal

pub offset_bounds-join-depth : goal.offset_bounds-join-depth
offset_bounds-join-depth c = omega (arith, few_variables c.requires.underway, c.requires.underway.below)

pub bounds-join-depth : goal.bounds-join-depth
bounds-join-depth c = omega (arith, few_variables c.requires.underway, c.requires.underway.below)

pub offset_bounds-join-depth-2 : goal.offset_bounds-join-depth-2
offset_bounds-join-depth-2 c = omega (arith, few_variables c.requires.underway, c.requires.underway.below)

pub bounds-join-depth-2 : goal.bounds-join-depth-2
bounds-join-depth-2 c = omega (arith, few_variables c.requires.underway, c.requires.underway.below)

pub loop-landed-init : goal.loop-landed-init
loop-landed-init c = (walk_start c.requires.underway, kept_none, c.requires.ready)

pub returns : goal.returns
returns c =
    let i = c.loop-landed.invariant in
    record { kept = i.1; walks = walk_none c.requires.underway c.in_default.is i.0 i.2.going }

pub offset_bounds-row-v : goal.offset_bounds-row-v
offset_bounds-row-v c = omega (arith, variable_small c.requires.underway, few_variables c.requires.underway, c.requires.underway.below)

pub bounds-row-v : goal.bounds-row-v
bounds-row-v c = omega (arith, variable_small c.requires.underway, few_variables c.requires.underway, c.requires.underway.below)

pub overflow_add-depth : goal.overflow_add-depth
overflow_add-depth c = omega (arith, few_variables c.requires.underway, c.requires.underway.below)

pub descend-requires : goal.descend-requires
descend-requires c =
    let i = c.loop-landed.invariant in
    record { standing = walk_below c.requires.underway c.in-Key.is i.0; ready = i.2 }

pub returns-then-window : goal.returns-then-window
returns-then-window c =
    let i = c.loop-landed.invariant in
    let r = c.descend.ensures in
    record { kept = kept_on i.1 r.kept; walks = walk_full c.requires.underway c.in-Key.is i.0 r.completes.descended c.if-window.true }

pub overflow_add-depth-in-Key : goal.overflow_add-depth-in-Key
overflow_add-depth-in-Key c = omega (arith, few_variables c.requires.underway, c.requires.underway.below)

pub onward-next-requires : goal.onward-next-requires
onward-next-requires c =
    let e = c.in-Key.is in
    let i = c.loop-landed.invariant.0 in
    record { whole_agreed = walk_agreed c.requires.underway e i; same_atoms = walk_same c.requires.underway e i }

pub loop-landed-smaller : goal.loop-landed-smaller
loop-landed-smaller c = steps_less c.in-Key.is c.onward-next.ensures.steps

pub loop-landed-preserved : goal.loop-landed-preserved
loop-landed-preserved c =
    let u = c.requires.underway in
    let i = c.loop-landed.invariant in
    let r = c.descend.ensures in
    let going = c.if-window.false in (
      walk_next u c.in-Key.is i.0 r.completes.descended going c.onward-next.ensures.steps,
      kept_on i.1 r.kept,
      still_open i.2 r.kept (omega (arith, u.below)) going,
    )
