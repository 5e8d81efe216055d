-- `open_one` meets its contract: a piece is taken of both tables' first keys, or the group of the one is read.
use Rattle.join_openings.proofs.Openings.{take_opens, one_without, one_opens}
use Rattle.join_openings.proofs.open_one.Goals as goal

pub take_stretch-requires : goal.take_stretch-requires
take_stretch-requires c = record { a_lt_max_atoms = (c.requires.one_openable.atom, c.requires.sized); inside = c.requires.one_openable.both c.if-opening.true }

pub returns-then-opening : goal.returns-then-opening
returns-then-opening c = take_opens c.args.join.now.leap.pool.now c.args.opening.now c.requires.sized c.requires.one_openable.atom c.if-opening.true c.take_stretch.ensures

pub returns-then-layer-eq0 : goal.returns-then-layer-eq0
returns-then-layer-eq0 c = one_without c.args.join.now.leap.pool.now c.args.opening.now c.requires.sized c.requires.one_openable.atom c.if-opening.false c.table_of-layer.ensures c.if-layer-eq0.true

pub returns : goal.returns
returns c =
    let g = c.group_under-g.ensures in
    one_opens c.args.join.now.leap.pool.now c.args.opening.now c.requires.sized c.requires.one_openable.atom c.if-opening.false c.table_of-layer.ensures c.requires.one_openable.last c.if-layer-eq0.false g.0 g.1
