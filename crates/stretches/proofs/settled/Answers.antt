-- `stretches::settled` meets its contract: a key, or nothing left behind the piece that has ended.
use native.Mathlib.Omega.{arith}
use mathlib.Core.Path.{sym, subst}
use borrow.Author.Tests.{eqb-true}
use Rattle.stretches.specs.Pause.{Lookable, Settled}
use Rattle.stretches.proofs.settled.Goals as goal

pub returns-in_default : goal.returns-in_default
returns-in_default c h = subst (Settled c.args.left.now c.args.ring.now) (sym c.in_default.is) tt

pub offset_bounds-ring-p : goal.offset_bounds-ring-p
offset_bounds-ring-p c = omega (arith, (subst (Lookable c.args.ring.now) c.in-Nothing.is c.requires).0)

pub bounds-ring-p : goal.bounds-ring-p
bounds-ring-p c = (subst (Lookable c.args.ring.now) c.in-Nothing.is c.requires).0

pub offset_bounds-left-a : goal.offset_bounds-left-a
offset_bounds-left-a c = omega (arith, (subst (Lookable c.args.ring.now) c.in-Nothing.is c.requires).1)

pub bounds-left-a : goal.bounds-left-a
bounds-left-a c = (subst (Lookable c.args.ring.now) c.in-Nothing.is c.requires).1

pub returns : goal.returns
returns c h = subst (Settled c.args.left.now c.args.ring.now) (sym c.in-Nothing.is) (eqb-true _ 0 h)
