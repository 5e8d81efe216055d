-- The goals of `layer_sound` that the check leaves.
use Prim.Native.Nat.{suc, ◌+◌, ◌-◌}
use mathlib.Core.Path.{◌≡◌}
use native.Mathlib.Omega.{arith}
use Rattle.layer_sound.proofs.Counting.{bare, unstarted, outside, starting, falling_start, starting_before, late_start, all_counted}
use Rattle.layer_sound.proofs.Counts.{fall, rise}
use Rattle.layer_sound.proofs.layer_sound.Goals as goal

pub returns-then-data-eq0 : goal.returns-then-data-eq0
returns-then-data-eq0 c = bare c.args.interval.now c.args.«data».now c.if-data-eq0.true

pub returns-then-interval-eq0 : goal.returns-then-interval-eq0
returns-then-interval-eq0 c = unstarted c.args.interval.now c.args.«data».now c.if-data-eq0.false c.if-interval-eq0.true

pub returns-then-data-at : goal.returns-then-data-at
returns-then-data-at c = outside c.args.interval.now c.args.«data».now c.if-interval-eq0.false c.if-data-at.true

pub loop-i-init : goal.loop-i-init
loop-i-init c = starting c.args.interval.now c.args.«data».now c.if-interval-eq0.false c.if-data-at.false

pub returns-then-at-before : goal.returns-then-at-before
returns-then-at-before c = falling_start c.loop-i.invariant c.loop-i-test.true c.if-at-before.true

pub loop-i-preserved-then-data-at-2 : goal.loop-i-preserved-then-data-at-2
loop-i-preserved-then-data-at-2 c =
    let next : c.loop-i.at ≡ suc (c.loop-i.at - 1) = omega (arith, c.if-at-before.false) in
    starting_before c.loop-i.invariant c.loop-i-test.true (c.loop-i.starts + 1) c.if-at-before.false (omega (arith, fall c.args.«data».now next c.if-data-at-2.true))

pub loop-i-preserved : goal.loop-i-preserved
loop-i-preserved c =
    let next : c.loop-i.at ≡ suc (c.loop-i.at - 1) = omega (arith, c.if-at-before.false) in
    starting_before c.loop-i.invariant c.loop-i-test.true c.loop-i.starts c.if-at-before.false (omega (arith, rise c.args.«data».now next c.if-data-at-2.false))

pub returns-then-at-ne0 : goal.returns-then-at-ne0
returns-then-at-ne0 c = late_start c.loop-i.invariant c.loop-i-test.false c.if-at-ne0.true

pub returns : goal.returns
returns c = all_counted c.loop-i.invariant c.loop-i-test.false c.if-at-ne0.false c.falls.result c.falls.ensures
