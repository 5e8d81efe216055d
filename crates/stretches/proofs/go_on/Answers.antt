-- The goals of `go_on` that the check leaves.
use native.Mathlib.Omega.{arith}
use Rattle.stretches.proofs.Pieces.{halted_in, halted_gone}
use Rattle.stretches.proofs.Pausing.{here, looping_first, loop_key, loop_halted, loop_last, loop_none, loop_ready, loop_ordered, loop_less as falls, loop_again as again}
use Rattle.stretches.proofs.go_on.Goals as goal

pub loop-landed-init : goal.loop-landed-init
loop-landed-init c = looping_first c.requires

pub returns-in_default : goal.returns-in_default
returns-in_default c = loop_key c.loop-landed.invariant c.in_default.is

pub offset_bounds-ring-p : goal.offset_bounds-ring-p
offset_bounds-ring-p c = omega (arith, halted_in c.loop-landed.invariant.paused.held.pieces (loop_halted c.loop-landed.invariant c.in-Nothing.is), c.loop-landed.invariant.paused.held.pieces.few)

pub bounds-ring-p : goal.bounds-ring-p
bounds-ring-p c = omega (arith, halted_in c.loop-landed.invariant.paused.held.pieces (loop_halted c.loop-landed.invariant c.in-Nothing.is), c.loop-landed.invariant.paused.held.pieces.few)

pub offset_bounds-state-a : goal.offset_bounds-state-a
offset_bounds-state-a c = omega (arith, c.loop-landed.invariant.paused.held.pieces.atoms _ (here c.loop-landed.invariant.paused.held (loop_halted c.loop-landed.invariant c.in-Nothing.is)))

pub bounds-state-a : goal.bounds-state-a
bounds-state-a c = c.loop-landed.invariant.paused.held.pieces.atoms _ (here c.loop-landed.invariant.paused.held (loop_halted c.loop-landed.invariant c.in-Nothing.is))

pub returns-then-state-a-eq0 : goal.returns-then-state-a-eq0
returns-then-state-a-eq0 c =
    let i = c.loop-landed.invariant in
    let p = c.in-Nothing.is in
    loop_last i p c.if-state-a-eq0.true

pub goal-target-requires : goal.goal-target-requires
goal-target-requires c =
    let i = c.loop-landed.invariant in
    let p = c.in-Nothing.is in
    record { pieces = i.paused.held.pieces; halted = (loop_halted i p) }

pub refill-requires : goal.refill-requires
refill-requires c =
    let i = c.loop-landed.invariant in
    let z = loop_halted c.loop-landed.invariant c.in-Nothing.is in
    let b = here i.paused.held z in
    record { a_lt_max_atoms = (i.paused.held.pieces.atoms _ b, halted_gone i.paused.held.pieces z, i.paused.held.sized); fact = (c.if-state-a-eq0.false, (i.paused.held.tailed _ b).behind c.if-state-a-eq0.false) }

pub returns-then-not-refill : goal.returns-then-not-refill
returns-then-not-refill c =
    let i = c.loop-landed.invariant in
    let p = c.in-Nothing.is in
    let gone = c.if-state-a-eq0.false in
    let goal = c.goal-target.ensures in
    loop_none i p gone goal c.refill.ensures c.if-not-refill.true

pub after-requires : goal.after-requires
after-requires c =
    let i = c.loop-landed.invariant in
    let p = c.in-Nothing.is in
    halted_in i.paused.held.pieces (loop_halted i p)

pub leapfrog_search-t-requires : goal.leapfrog_search-t-requires
leapfrog_search-t-requires c =
    let i = c.loop-landed.invariant in
    let p = c.in-Nothing.is in
    let gone = c.if-state-a-eq0.false in
    let goal = c.goal-target.ensures in
    let filled = c.refill.ensures in
    let so = c.if-not-refill.false in
    record { ready = (loop_ready i p gone goal filled so).ready; ordered = loop_ordered i p gone goal filled so c.after.ensures; start_lt_k = c.after.ensures.to }

pub overflow_add-seeks : goal.overflow_add-seeks
overflow_add-seeks c =
    let i = c.loop-landed.invariant in
    let p = c.in-Nothing.is in
    let gone = c.if-state-a-eq0.false in
    let goal = c.goal-target.ensures in
    let filled = c.refill.ensures in
    let so = c.if-not-refill.false in
    omega (arith, (again i p gone goal filled so c.after.ensures c.leapfrog_search-t.ensures).paused.count, c.well_formed)

pub loop-landed-smaller : goal.loop-landed-smaller
loop-landed-smaller c =
    let i = c.loop-landed.invariant in
    let p = c.in-Nothing.is in
    let gone = c.if-state-a-eq0.false in
    let goal = c.goal-target.ensures in
    let filled = c.refill.ensures in
    let so = c.if-not-refill.false in
    falls i p gone goal filled so _

pub loop-landed-preserved : goal.loop-landed-preserved
loop-landed-preserved c =
    let i = c.loop-landed.invariant in
    let p = c.in-Nothing.is in
    let gone = c.if-state-a-eq0.false in
    let goal = c.goal-target.ensures in
    let filled = c.refill.ensures in
    let so = c.if-not-refill.false in
    again i p gone goal filled so c.after.ensures c.leapfrog_search-t.ensures
