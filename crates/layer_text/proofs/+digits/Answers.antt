-- The goals of `digits` that the check leaves: a digit more than the number without its last.
use mathlib.Core.Path.{ap}
use native.Mathlib.Omega.{arith}
use lib.ListN.{length}
use Rattle.layer_text.proofs.Texts.{decimal_one, more_long, word_digits}
use Rattle.layer_text.proofs.+digits.Goals as goal

pub returns-then-n-lt10 : goal.returns-then-n-lt10
returns-then-n-lt10 t c = let e = ap length (decimal_one c.args.n c.if-n-lt10.true) in (omega arith, omega arith)

pub overflow_add-result : goal.overflow_add-result
overflow_add-result t c = omega (arith, c.digits.ensures)

pub returns : goal.returns
returns t c =
    let n = c.args.n in
    let m = more_long n c.if-n-lt10.false in
    (omega (arith, c.digits.ensures, m), omega (arith, c.digits.ensures, m, word_digits n c.ranges.n.fits))
