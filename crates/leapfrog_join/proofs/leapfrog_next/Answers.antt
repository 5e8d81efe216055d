-- `leapfrog_join::leapfrog_next` meets its contract: past the common key the ring is ordered from the next place, and the search goes on there.
use mathlib.Core.Path.{refl}
use native.Mathlib.Omega.{arith}
use lib.Arith.{lt_of_le-ne}
use Rattle.leapfrog.specs.Search.{next_of}
use Rattle.leapfrog_join.proofs.Stepping.{stands, ran_on, step_moved, step_ready, step_ordered, step_out, step_on, past_run, past_forward, past_within, past_ascends, past_in}
use Rattle.leapfrog_join.proofs.leapfrog_next.Goals as goal

pub offset_bounds-at-a : goal.offset_bounds-at-a
offset_bounds-at-a c = omega (arith, stands c.requires)

pub bounds-at-a : goal.bounds-at-a
bounds-at-a c = (stands c.requires).atom

pub overflow_add-q : goal.overflow_add-q
overflow_add-q c = omega (arith, stands c.requires)

pub offset_bounds-at-a-2 : goal.offset_bounds-at-a-2
offset_bounds-at-a-2 c = omega (arith, stands c.requires)

pub bounds-at-a-2 : goal.bounds-at-a-2
bounds-at-a-2 c = (stands c.requires).atom

pub offset_bounds-end-a : goal.offset_bounds-end-a
offset_bounds-end-a c = omega (arith, stands c.requires)

pub bounds-end-a : goal.bounds-end-a
bounds-end-a c = (stands c.requires).atom

pub returns-then-q-end : goal.returns-then-q-end
unfolding next_of
returns-then-q-end c =
    let g = c.requires in
    step_out g _ (past_forward g) (past_within g) 1 refl (past_run g) c.if-q-end.true

pub leapfrog_search-requires : goal.leapfrog_search-requires
leapfrog_search-requires c =
    let g = c.requires in
    let i = lt_of_le-ne (past_within g) c.if-q-end.false in
    record { ready = step_ready g _ (past_forward g) (past_within g) i (past_ascends g) (past_in g); ordered = step_ordered g _ (past_forward g) (past_within g) i (past_ascends g) (past_in g) c.after.result c.after.ensures; start_lt_k = c.after.ensures.to }

pub returns : goal.returns
unfolding next_of
returns c =
    let g = c.requires in
    let i = lt_of_le-ne (past_within g) c.if-q-end.false in
    ran_on (step_moved g _ (past_forward g) (past_within g)) (step_on g _ (past_forward g) (past_within g) 1 refl (past_run g) i c.after.ensures) c.leapfrog_search.ensures
