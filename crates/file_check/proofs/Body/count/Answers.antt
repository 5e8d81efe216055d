-- The goals of `count_rows` that the check leaves.
use Prim.Native.Nat.{◌+◌, ◌*◌, ◌≤◌, ◌<◌}
use mathlib.Core.Path.{sym, ◌∙◌}
use native.Mathlib.Omega.{arith}
use lib.ListN.{length}
use Rattle.file_check.proofs.Same.{ends_at}
use Rattle.file_check.proofs.Counts.{counts_none, counts_end, counts_bad, counts_fits, counts_more}
use Rattle.file_check.proofs.Body.count.Goals as goal
use Rattle.file_check.proofs.Body.count.Goals.{In_ok-k}

-- a turn stays inside the bytes
module _ (c : In_ok-k) where
  fits : (c.loop-p.p + (3 + 8 * (c.in_ok-k.k * c.args.self.now.arity)) ≤ length c.args.self.now.bytes.now) × (c.in_ok-k.k ≤ c.in_ok-k.k * c.args.self.now.arity) × (length c.args.self.now.bytes.now < 18446744073709551616)
  fits = let v = counts_fits c.args.self.now.some c.args.self.now.each c.loop-p.invariant c.in_ok-k.ensures in (v.0, v.1, omega arith)

pub loop-p-init : goal.loop-p-init
loop-p-init c = counts_none c.args.self.now.arity c.args.self.now.bytes.now c.args.self.now.at c.args.self.now.inside

pub returns-in_err-k : goal.returns-in_err-k
returns-in_err-k c = c.from_residual.ensures ∙ sym (counts_bad c.args.self.now.some c.args.self.now.each c.loop-p.invariant (ends_at c.args.self.now.bytes.now c.loop-p.p c.ends.ensures ∙ c.loop-p-test.true) c.in_err-k.ensures)

pub overflow_mul-p : goal.overflow_mul-p
overflow_mul-p c = omega (arith, fits (goal.at.overflow_mul-p c).In_ok-k)

pub overflow_mul-p-in-loop-p : goal.overflow_mul-p-in-loop-p
overflow_mul-p-in-loop-p c = omega (arith, fits (goal.at.overflow_mul-p-in-loop-p c).In_ok-k)

pub overflow_add-p : goal.overflow_add-p
overflow_add-p c = omega (arith, fits (goal.at.overflow_add-p c).In_ok-k)

pub overflow_add-p-in-loop-p : goal.overflow_add-p-in-loop-p
overflow_add-p-in-loop-p c = omega (arith, fits (goal.at.overflow_add-p-in-loop-p c).In_ok-k)

pub overflow_add-n : goal.overflow_add-n
overflow_add-n c = omega (arith, fits (goal.at.overflow_add-n c).In_ok-k, c.loop-p.invariant.few)

pub loop-p-smaller : goal.loop-p-smaller
loop-p-smaller c = omega (arith, fits (goal.at.loop-p-smaller c).In_ok-k)

pub loop-p-preserved : goal.loop-p-preserved
loop-p-preserved c = counts_more c.args.self.now.some c.args.self.now.each c.loop-p.invariant c.in_ok-k.ensures (ends_at c.args.self.now.bytes.now c.loop-p.p c.ends.ensures ∙ c.loop-p-test.true)

pub returns : goal.returns
returns c = sym (counts_end c.args.self.now.some c.args.self.now.each c.loop-p.invariant (ends_at c.args.self.now.bytes.now c.loop-p.p c.ends.ensures ∙ c.loop-p-test.false))
