-- `stretches::take_stretch` meets its contract: the two runs are put in order, and the atom on the first stretch of the first.
use mathlib.Core.Path.{refl}
use lib.Arith.{lt_of_le-ne}
use Rattle.stretches.specs.Pause.{some, none}
use Rattle.stretches.proofs.Taking.{took_none, took}
use Rattle.stretches.proofs.take_stretch.Goals as goal

pub returns-then-s : goal.returns-then-s
returns-then-s c =
    none (took_none c.args.leap.now.ends.now c.args.a c.args.x c.args.y c.args.o c.requires.inside c.led-s.ensures c.if-s.true) refl

pub returns : goal.returns
returns c =
    let q = c.led-s.ensures in
    some (took c.args.leap.now.ends.now c.args.a c.args.x c.args.y c.args.o c.requires.inside q (lt_of_le-ne q.led.inside.low c.if-s.false) c.first_stretch-g.ensures c.requires.a_lt_max_atoms.1 c.requires.a_lt_max_atoms.0)
