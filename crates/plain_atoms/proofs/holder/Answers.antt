-- The goals of `holder` that the check leaves.
use Prim.Native.Nat.{ℕ}
use native.Mathlib.Omega.{arith}
use borrow.Author.Count.{below_more}
use Rattle.join_query.specs.Query.{atom_at}
use Rattle.join_query.proofs.Accepted.{names, lists}
use Rattle.plain_atoms.proofs.Places.{column_some, column_none}
use Rattle.plain_atoms.proofs.First.{In, still, first_is}
use Rattle.plain_atoms.proofs.holder.Goals as goal

pub offset_bounds-query-i : goal.offset_bounds-query-i
offset_bounds-query-i c = omega (arith, (names c.requires.passed.accepted).few)

pub bounds-query-i : goal.bounds-query-i
bounds-query-i c = omega (arith, (names c.requires.passed.accepted).few)

pub column-requires : goal.column-requires
column-requires c = (lists c.requires.passed.accepted c.loop-i.i c.loop-i-test.true).short

pub loop-i-preserved : goal.loop-i-preserved
loop-i-preserved c = below_more (λ (j : ℕ). In (atom_at c.args.query.now j) c.args.v → ⊥) c.loop-i.i c.loop-i.invariant (λ m. omega (arith, column_none (atom_at c.args.query.now c.loop-i.i) c.args.v c.in_default.ensures.place, m))

pub returns-in-Some : goal.returns-in-Some
returns-in-Some c =
    let k = column_some (atom_at c.args.query.now c.loop-i.i) c.args.v c.in-Some.ensures.place in
    (first_is c.requires.passed.accepted c.args.v c.requires.below c.loop-i.i (omega arith) c.loop-i.invariant (omega (arith, k.0, k.1)), k.0)

pub unreachable-requires : goal.unreachable-requires
unreachable-requires c =
    let n = still c.requires.passed.accepted c.args.v c.requires.below c.loop-i.i (omega arith) c.loop-i.invariant in
    omega arith
