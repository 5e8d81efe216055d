-- `stretches::goal` meets its contract: the atom at the place before stands on a key, where there is another.
use native.Mathlib.Omega.{arith}
use Rattle.stretches.proofs.Pieces.{in_ring, halted_in, before_key, goal_alone, goal_before}
use Rattle.stretches.proofs.goal.Goals as goal

pub returns-then-k-eq1 : goal.returns-then-k-eq1
returns-then-k-eq1 c = goal_alone c.requires.pieces c.requires.halted c.if-k-eq1.true

pub before-requires : goal.before-requires
before-requires c = halted_in c.requires.pieces c.requires.halted

pub offset_bounds-at-b : goal.offset_bounds-at-b
offset_bounds-at-b c = omega (arith, c.requires.pieces.atoms _ (in_ring c.requires.pieces c.before-2.result c.before-2.ensures.from))

pub bounds-at-b : goal.bounds-at-b
bounds-at-b c = c.requires.pieces.atoms _ (in_ring c.requires.pieces c.before-2.result c.before-2.ensures.from)

pub offset_bounds-pool-y : goal.offset_bounds-pool-y
offset_bounds-pool-y c = omega (arith, before_key c.requires.pieces c.requires.halted c.if-k-eq1.false c.before-2.ensures, c.requires.pieces.high _ (in_ring c.requires.pieces c.before-2.result c.before-2.ensures.from))

pub bounds-pool-y : goal.bounds-pool-y
bounds-pool-y c = omega (arith, before_key c.requires.pieces c.requires.halted c.if-k-eq1.false c.before-2.ensures, c.requires.pieces.high _ (in_ring c.requires.pieces c.before-2.result c.before-2.ensures.from))

pub returns : goal.returns
returns c = goal_before c.requires.pieces c.requires.halted c.if-k-eq1.false c.before-2.ensures
