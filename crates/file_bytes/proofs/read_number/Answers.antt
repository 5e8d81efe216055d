-- The goals of `read_number` that the check leaves. The number of eight bytes or fewer fits a word.
use mathlib.Core.Path.{sym}
use native.Mathlib.Omega.{arith}
use lib.ListN.{drop}
use Rattle.file_bytes.proofs.Steps.{number_none, number_more, number_fits}
use Rattle.file_bytes.proofs.read_number.Goals as goal

pub loop-i-init : goal.loop-i-init
loop-i-init c = sym (number_none (drop c.args.at c.args.bytes.now))

pub overflow_mul-w : goal.overflow_mul-w
overflow_mul-w c = omega (arith, number_fits c.args.at c.loop-i.i c.args.bytes.now (λ k. omega (arith, c.type_inv.bytes k)) (omega arith), c.loop-i.invariant)

pub overflow_add-w : goal.overflow_add-w
overflow_add-w c =
    omega (arith, number_fits c.args.at c.loop-i.i c.args.bytes.now (λ k. omega (arith, c.type_inv.bytes k)) (omega arith), c.loop-i.invariant, c.from.ensures, c.from.type_inv)

pub loop-i-preserved : goal.loop-i-preserved
loop-i-preserved c = omega (arith, c.from.ensures, c.loop-i.invariant, number_more c.args.at c.loop-i.i c.args.bytes.now)
