-- `same_shape` meets its contract: another arity, or the kinds compared (Shape.antt).
use native.Mathlib.Omega.{arith}
use Rattle.laid_over.proofs.Shape.{arity_differs, kinds_compared}
use Rattle.laid_over.proofs.same_shape.Goals as goal

pub returns-then-s-m : goal.returns-then-s-m
returns-then-s-m c = kinds_compared c.args.s c.args.m c.if-s-m.true (omega arith) (omega arith) c.eq.ensures

pub returns-else-s-m : goal.returns-else-s-m
returns-else-s-m c = arity_differs c.args.s c.args.m c.if-s-m.false
