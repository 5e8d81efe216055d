-- `depth::open` meets its contract: one without keys refuses, or the leapfrog begins on the keys under the atoms' words.
use native.Mathlib.Omega.{arith}
use Rattle.stretches.specs.declared.State.{State}
use Rattle.join_openings.specs.Openings.{Openable}
use Rattle.join_openings.proofs.Openings.{all_true, all_false}
use Rattle.join_depths.proofs.Depths.{openable}
use Rattle.join_depths.proofs.Beginnings.{begin_ready, begin_ascends, opening_refused, opening_opened}
use borrow.Author.Rules.{rules}
use Rattle.join_depths.proofs.depth.open.Goals as goal
use Rattle.join_depths.proofs.depth.open.Goals.{Start}

-- the arrays as they were
abbrev arrays : Start → State
arrays s = s.args.state.now

can : (s : Start) → Openable s.args.join.now.leap.pool.now s.args.join.now.plan.now s.args.join.now.leap.ends.now s.args.depth (arrays s)
can s = openable (arrays s) s.requires.standing.stands s.requires.depth_lt_n.0 s.requires.depth_lt_n.1.last

pub open_all-requires : goal.open_all-requires
open_all-requires c = record { openable = can (goal.at.open_all-requires c).Start; arrays = c.requires.depth_lt_n.1.arrays }

pub returns-then-not-open_all : goal.returns-then-not-open_all
returns-then-not-open_all c =
    opening_refused (arrays (goal.at.returns-then-not-open_all c).Start) c.requires.depth_lt_n.0 (search rules) (all_false c.open_all.ensures c.if-not-open_all.true)

pub offset_bounds-join-depth : goal.offset_bounds-join-depth
offset_bounds-join-depth c = omega (arith, can (goal.at.offset_bounds-join-depth c).Start)

pub bounds-join-depth : goal.bounds-join-depth
bounds-join-depth c = omega (arith, can (goal.at.bounds-join-depth c).Start)

pub whole_init-requires : goal.whole_init-requires
whole_init-requires c =
    let o = c.open_all in
    let p = all_true o.ensures c.if-not-open_all.false in
    record { whole_ready = begin_ready (arrays (goal.at.whole_init-requires c).Start) c.requires.depth_lt_n.0 c.requires.standing p; ascends = begin_ascends (arrays (goal.at.whole_init-requires c).Start) c.requires.depth_lt_n.0 c.requires.standing p }

pub returns : goal.returns
returns c =
    let o = c.open_all in
    let p = all_true o.ensures c.if-not-open_all.false in
    opening_opened (arrays (goal.at.returns c).Start) c.requires.depth_lt_n.0 c.requires.standing p c.args.seeks c.since.ensures c.whole_init.ensures
