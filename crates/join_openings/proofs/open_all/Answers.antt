-- The goals of `open_all` that the check leaves.
use Prim.Native.Nat.{ℕ}
use native.Mathlib.Omega.{arith}
use mathlib.Core.Path.{◌≡◌, subst}
use Rattle.join_openings.specs.Openings.{count_at, Opens, all, refuses}
use Rattle.join_openings.proofs.Openings.{opens_true, opens_false, opens_start, opens_can, opens_refuses, opens_next}
use Rattle.join_openings.proofs.open_all.Goals as goal

pub loop-j-init : goal.loop-j-init
loop-j-init c = opens_start c.args.join.now.leap.pool.now c.args.join.now.plan.now c.args.depth c.requires.arrays

pub open_one-requires : goal.open_one-requires
open_one-requires c = let l = c.loop-j in record { sized = l.invariant.arrays.sized; one_openable = opens_can c.requires.openable l.invariant (omega arith) }

pub returns-then-not-open_one : goal.returns-then-not-open_one
returns-then-not-open_one c =
    let l = c.loop-j in
    refuses (opens_refuses c.requires.openable l.invariant (omega arith) (opens_false c.open_one.ensures c.if-not-open_one.true))

pub offset_bounds-ring-j : goal.offset_bounds-ring-j
offset_bounds-ring-j c = omega (arith, c.requires.openable.few)

pub bounds-ring-j : goal.bounds-ring-j
bounds-ring-j c = omega (arith, c.requires.openable.few)

pub offset_bounds-by_atom-j : goal.offset_bounds-by_atom-j
offset_bounds-by_atom-j c = omega (arith, c.requires.openable.few)

pub bounds-by_atom-j : goal.bounds-by_atom-j
bounds-by_atom-j c = omega (arith, c.requires.openable.few)

pub loop-j-preserved : goal.loop-j-preserved
loop-j-preserved c =
    opens_next c.requires.openable c.loop-j.invariant (omega arith) (opens_true c.open_one.ensures c.if-not-open_one.false)

pub returns : goal.returns
returns c =
    let l = c.loop-j in
    let e : l.j ≡ count_at c.args.join.now.plan.now c.args.depth = omega arith in
    all
    (subst (λ (m : ℕ). Opens c.args.join.now.leap.pool.now c.args.join.now.plan.now c.args.join.now.leap.ends.now c.args.depth m c.args.state.now l.state l.ring l.by_atom) e l.invariant)
