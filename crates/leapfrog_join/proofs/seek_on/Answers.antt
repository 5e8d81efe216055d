-- `leapfrog_join::seek_on` meets its contract: from the target on the ring is ordered from the next place, and the search goes on there.
use Prim.Native.Nat.{◌+◌}
use native.Mathlib.Omega.{arith}
use lib.Arith.{lt_of_le-ne}
use lib.ListN.{get_or}
use Rattle.leapfrog.specs.Search.{run_at, seek_to}
use Rattle.leapfrog.proofs.Search.{from_end}
use Rattle.leapfrog_search.specs.Leapfrog.{runs_in, Reached}
use Rattle.leapfrog_search.proofs.Runs.{sought}
use Rattle.leapfrog_search.proofs.Defined.{ready_few}
use Rattle.leapfrog_join.proofs.Laws.{search_few}
use Rattle.leapfrog_join.proofs.Stepping.{stands, ran_on, ran_more, step_moved, step_ready, step_ordered, step_out, step_on, target_run, target_ascends, target_in}
use Rattle.leapfrog_join.proofs.seek_on.Goals as goal
use Rattle.leapfrog_join.proofs.seek_on.Goals.{After-seek_run}

-- where the seek ended
reached : (c : After-seek_run) → let a = c.args in let i = get_or a.ring.now a.p 0 in Reached a.pool.now (get_or a.at.now i 0) (get_or a.end.now i 0) a.target (get_or a.at.now i 0 + c.seek_run.result.offset)
reached c = sought (stands c.requires) c.args.strategy c.args.target c.seek_run.ensures

pub offset_bounds-at-a : goal.offset_bounds-at-a
offset_bounds-at-a c = omega (arith, stands c.requires)

pub bounds-at-a : goal.bounds-at-a
bounds-at-a c = (stands c.requires).atom

pub offset_bounds-end-a : goal.offset_bounds-end-a
offset_bounds-end-a c = omega (arith, stands c.requires)

pub bounds-end-a : goal.bounds-end-a
bounds-end-a c = (stands c.requires).atom

pub seek_run-requires : goal.seek_run-requires
seek_run-requires c = let o = stands c.requires in (omega (arith, o.inside), o.ends)

pub overflow_add-q : goal.overflow_add-q
overflow_add-q c = omega (arith, (reached (goal.at.overflow_add-q c).After-seek_run).within, (stands c.requires).ends)

pub offset_bounds-at-a-2 : goal.offset_bounds-at-a-2
offset_bounds-at-a-2 c = omega (arith, stands c.requires)

pub bounds-at-a-2 : goal.bounds-at-a-2
bounds-at-a-2 c = (stands c.requires).atom

pub returns-then-q-e : goal.returns-then-q-e
unfolding seek_to
returns-then-q-e c =
    let g = c.requires in
    let s = reached (goal.at.returns-then-q-e c).After-seek_run in
    let e = from_end c.args.target (run_at (runs_in c.args.pool.now c.args.at.now c.args.end.now c.args.ring.now c.args.k) c.args.p) in
    ran_more (step_out g _ s.forward s.within e.0 e.1 (target_run g s) c.if-q-e.true)

pub leapfrog_search-s-requires : goal.leapfrog_search-s-requires
leapfrog_search-s-requires c =
    let g = c.requires in
    let s = reached (goal.at.leapfrog_search-s-requires c).After-seek_run in
    let i = lt_of_le-ne s.within c.if-q-e.false in
    record { ready = step_ready g _ s.forward s.within i (target_ascends g s) (target_in g s); ordered = step_ordered g _ s.forward s.within i (target_ascends g s) (target_in g s) c.after.result c.after.ensures; start_lt_k = c.after.ensures.to }

pub overflow_add-result : goal.overflow_add-result
overflow_add-result c =
    let g = c.requires in
    let s = reached (goal.at.overflow_add-result c).After-seek_run in
    let i = lt_of_le-ne s.within c.if-q-e.false in
    let r = step_ready g _ s.forward s.within i (target_ascends g s) (target_in g s) in
    omega (arith, ready_few r, search_few r (step_ordered g _ s.forward s.within i (target_ascends g s) (target_in g s) c.after.result c.after.ensures) c.after.ensures.to c.leapfrog_search-s.ensures)

pub returns : goal.returns
unfolding seek_to
returns c =
    let g = c.requires in
    let s = reached (goal.at.returns c).After-seek_run in
    let i = lt_of_le-ne s.within c.if-q-e.false in
    let e = from_end c.args.target (run_at (runs_in c.args.pool.now c.args.at.now c.args.end.now c.args.ring.now c.args.k) c.args.p) in
    ran_more (ran_on (step_moved g _ s.forward s.within) (step_on g _ s.forward s.within e.0 e.1 (target_run g s) i c.after.ensures) c.leapfrog_search-s.ensures)
