-- `open_from` meets its contract: the depth has no key, or it is sought from its first one on.
use native.Mathlib.Omega.{arith}
use Rattle.bounded_depth.proofs.Reaching.{few_variables, from_none, from_agreed, from_found}
use Rattle.bounded_depth.proofs.open_from.Goals as goal

pub returns-in_default : goal.returns-in_default
returns-in_default c = from_none c.args.target c.open-first.ensures.begun c.in_default.is

pub offset_bounds-join-depth : goal.offset_bounds-join-depth
offset_bounds-join-depth c = omega (arith, few_variables c.requires.standing, c.requires.depth_lt_n.0)

pub bounds-join-depth : goal.bounds-join-depth
bounds-join-depth c = omega (arith, few_variables c.requires.standing, c.requires.depth_lt_n.0)

pub whole_seek-s-requires : goal.whole_seek-s-requires
whole_seek-s-requires c = from_agreed c.args.target c.open-first.ensures.begun c.in-Key.is

pub returns : goal.returns
returns c = from_found c.args.target c.open-first.ensures.begun c.in-Key.is c.whole_seek-s.ensures
