-- The goals of `leapfrog_search` that the check leaves.
use Prim.Native.Nat.{◌+◌}
use native.Mathlib.Omega.{arith}
use lib.Arith.{lt_of_le-ne}
use lib.ListN.{get_or}
use Rattle.leapfrog_search.specs.Leapfrog.{Reached}
use Rattle.leapfrog_search.proofs.Runs.{stands_at, sought}
use Rattle.leapfrog_search.proofs.Going.{Going}
use Rattle.leapfrog_search.proofs.Going as going
use Rattle.leapfrog_search.proofs.leapfrog_search.Goals as goal
use Rattle.leapfrog_search.proofs.leapfrog_search.Goals.{After-seek_run}

-- where the seek ended
reached : (c : After-seek_run) → let a = c.args in let l = c.loop-most in let i = get_or a.ring.now l.p 0 in Reached a.pool.now (get_or l.at i 0) (get_or a.end.now i 0) l.most (get_or l.at i 0 + c.seek_run.result.offset)
reached c = sought (going.stands c.loop-most.invariant) c.args.strategy c.loop-most.most c.seek_run.ensures

pub offset_bounds-ring-before : goal.offset_bounds-ring-before
offset_bounds-ring-before c = omega (arith, c.requires.ready.few)

pub bounds-ring-before : goal.bounds-ring-before
bounds-ring-before c = omega (arith, c.requires.ready.few)

pub offset_bounds-at-z : goal.offset_bounds-at-z
offset_bounds-at-z c = omega (arith, stands_at c.requires.ready c.before-2.result c.before-2.ensures.from)

pub bounds-at-z : goal.bounds-at-z
bounds-at-z c = (stands_at c.requires.ready c.before-2.result c.before-2.ensures.from).atom

pub offset_bounds-pool-y : goal.offset_bounds-pool-y
offset_bounds-pool-y c = omega (arith, stands_at c.requires.ready c.before-2.result c.before-2.ensures.from)

pub bounds-pool-y : goal.bounds-pool-y
bounds-pool-y c = omega (arith, stands_at c.requires.ready c.before-2.result c.before-2.ensures.from)

pub loop-most-init : goal.loop-most-init
loop-most-init c = going.begin c.before-2.result c.requires.ready c.requires.ordered c.before-2.ensures

pub offset_bounds-ring-p : goal.offset_bounds-ring-p
offset_bounds-ring-p c = omega (arith, c.loop-most.invariant.ready.few, going.here c.loop-most.invariant)

pub bounds-ring-p : goal.bounds-ring-p
bounds-ring-p c = omega (arith, c.loop-most.invariant.ready.few, going.here c.loop-most.invariant)

pub offset_bounds-at-a : goal.offset_bounds-at-a
offset_bounds-at-a c = omega (arith, going.stands c.loop-most.invariant)

pub bounds-at-a : goal.bounds-at-a
bounds-at-a c = (going.stands c.loop-most.invariant).atom

pub offset_bounds-pool-x : goal.offset_bounds-pool-x
offset_bounds-pool-x c = omega (arith, going.stands c.loop-most.invariant)

pub bounds-pool-x : goal.bounds-pool-x
bounds-pool-x c = omega (arith, going.stands c.loop-most.invariant)

pub offset_bounds-end-a : goal.offset_bounds-end-a
offset_bounds-end-a c = omega (arith, going.stands c.loop-most.invariant)

pub bounds-end-a : goal.bounds-end-a
bounds-end-a c = (going.stands c.loop-most.invariant).atom

pub seek_run-requires : goal.seek_run-requires
seek_run-requires c = let o = going.stands c.loop-most.invariant in (omega (arith, o.inside), o.ends)

pub overflow_add-q : goal.overflow_add-q
overflow_add-q c = omega (arith, (reached (goal.at.overflow_add-q c).After-seek_run).within, (going.stands c.loop-most.invariant).ends)

pub overflow_add-seeks : goal.overflow_add-seeks
overflow_add-seeks c = omega (arith, going.room c.loop-most.invariant (reached (goal.at.overflow_add-seeks c).After-seek_run) c.if-pool-x.false)

pub offset_bounds-at-a-in-loop-most : goal.offset_bounds-at-a-in-loop-most
offset_bounds-at-a-in-loop-most c = omega (arith, going.stands c.loop-most.invariant)

pub bounds-at-a-in-loop-most : goal.bounds-at-a-in-loop-most
bounds-at-a-in-loop-most c = (going.stands c.loop-most.invariant).atom

pub offset_bounds-pool-q : goal.offset_bounds-pool-q
offset_bounds-pool-q c = omega (arith, going.stands c.loop-most.invariant, (reached (goal.at.offset_bounds-pool-q c).After-seek_run).within)

pub bounds-pool-q : goal.bounds-pool-q
bounds-pool-q c = omega (arith, going.stands c.loop-most.invariant, lt_of_le-ne (reached (goal.at.bounds-pool-q c).After-seek_run).within c.if-q-e.false)

pub after-p-requires : goal.after-p-requires
after-p-requires c = going.here c.loop-most.invariant

pub loop-most-smaller : goal.loop-most-smaller
loop-most-smaller c = going.falls c.loop-most.invariant (reached (goal.at.loop-most-smaller c).After-seek_run) c.if-pool-x.false

pub loop-most-preserved : goal.loop-most-preserved
loop-most-preserved c = going.on_going c.loop-most.invariant (reached (goal.at.loop-most-preserved c).After-seek_run) c.if-pool-x.false c.if-q-e.false c.after-p.result c.after-p.ensures

pub returns-then-pool-x : goal.returns-then-pool-x
returns-then-pool-x c = record { same = going.found c.loop-most.invariant c.if-pool-x.true; moved = c.loop-most.invariant.moved }

pub returns-then-q-e : goal.returns-then-q-e
returns-then-q-e c =
    let g = c.loop-most.invariant in
    let n = c.if-pool-x.false in
    record { same = going.gone g (reached (goal.at.returns-then-q-e c).After-seek_run) n c.if-q-e.true; moved = going.moved' g (reached (goal.at.returns-then-q-e c).After-seek_run) n }
