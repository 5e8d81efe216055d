-- `row_words::path_place` meets its contract.
use native.Mathlib.Omega.{arith}
use Rattle.row_words.proofs.path_place.Goals as goal

pub offset_bounds-path-d : goal.offset_bounds-path-d
offset_bounds-path-d c = omega (arith, c.requires.1 c.args.k c.if-k-arity.true, c.requires.0)

pub bounds-path-d : goal.bounds-path-d
bounds-path-d c = omega (arith, c.requires.1 c.args.k c.if-k-arity.true, c.requires.0)
