-- The goals of `linear` that the check leaves.
use Prim.Native.Nat.{ℕ}
use mathlib.Core.Path.{◌≡◌, sym, ap, ◌∙◌}
use native.Mathlib.Omega.{arith}
use lib.ListN.{length}
use Rattle.seek.specs.declared.Probed.{Probed}
use Rattle.seek.proofs.Scans.{scans_below, scans_stop, scans_end}
use Rattle.seek.proofs.linear.Goals as goal

pub returns-then-target-run : goal.returns-then-target-run
returns-then-target-run c = sym (scans_stop _ _ c.loop-i.i c.loop-i-test.true (omega (arith, c.if-target-run.true))) ∙ c.loop-i.invariant

pub loop-i-preserved : goal.loop-i-preserved
loop-i-preserved c = sym (scans_below _ _ c.loop-i.i c.loop-i-test.true c.if-target-run.false) ∙ c.loop-i.invariant

pub returns : goal.returns
returns c =
    let e : length c.args.run.now ≡ c.loop-i.i = omega (arith, c.loop-i.auto.i-end, c.loop-i-test.false) in
    ap {B = Probed} (λ (n : ℕ). record { offset = n; probes = n }) e ∙ sym (scans_end _ _ c.loop-i.i c.loop-i-test.false) ∙ c.loop-i.invariant
