-- The goals of `falls` that the check leaves.
use Prim.Native.Nat.{◌-◌}
use native.Mathlib.Omega.{arith}
use Rattle.layer_sound.proofs.Counting.{falling, falling_on, falls_out, falls_last}
use Rattle.layer_sound.proofs.Counts.{fall, rise}
use Rattle.layer_sound.proofs.falls.Goals as goal
use Rattle.layer_sound.proofs.falls.Goals.{else-keys-j, else-keys-j-2, then-keys-j, then-keys-j-2}

pub loop-j-init : goal.loop-j-init
loop-j-init c = falling c.args.keys.now c.requires

pub loop-j-preserved : goal.loop-j-preserved
loop-j-preserved c =
    let keys = c.args.keys.now in
    let j = c.loop-j.j in
    falling_on c.loop-j.invariant c.if-keys-j.odd c.if-keys-j-2.even c.loop-j-test.true
    (elim c.if-keys-j.branch [ then-keys-j w ↦ omega (arith, fall keys {j = j - 2} {k = j - 1} (omega (arith, c.loop-j.invariant.from)) w.if-keys-j.true, w.odd-is) | else-keys-j w ↦ omega (arith, rise keys {j = j - 2} {k = j - 1} (omega (arith, c.loop-j.invariant.from)) w.if-keys-j.false, w.odd-is) ])
    (elim c.if-keys-j-2.branch [ then-keys-j-2 w ↦ omega (arith, fall keys {j = j - 1} {k = j} (omega (arith, c.loop-j.invariant.from)) w.if-keys-j-2.true, w.even-is) | else-keys-j-2 w ↦ omega (arith, rise keys {j = j - 1} {k = j} (omega (arith, c.loop-j.invariant.from)) w.if-keys-j-2.false, w.even-is) ])

pub returns-then-keys-j-3 : goal.returns-then-keys-j-3
returns-then-keys-j-3 c = falls_out c.loop-j.invariant c.if-keys-j-3.true

pub returns-then-keys-j-4 : goal.returns-then-keys-j-4
returns-then-keys-j-4 c =
    let j = c.loop-j.j in
    falls_last c.loop-j.invariant (omega arith) _ (omega (arith, fall c.args.keys.now {j = j - 2} {k = j - 1} (omega (arith, c.loop-j.invariant.from)) c.if-keys-j-4.true))

pub returns : goal.returns
returns c =
    let j = c.loop-j.j in
    falls_last c.loop-j.invariant (omega arith) _ (omega (arith, rise c.args.keys.now {j = j - 2} {k = j - 1} (omega (arith, c.loop-j.invariant.from)) c.if-keys-j-4.false))
