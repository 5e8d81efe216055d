-- `layer_text::put_number` meets its contract: the digits, where they fit.
use native.Mathlib.Omega.{arith}
use Rattle.layer_text.proofs.Texts.{word_digits, written_whole, unwritten}
use Rattle.layer_text.proofs.put_number.Goals as goal
use Rattle.layer_text.proofs.put_number.Goals.{else-text-at, then-text-at+else-text-end}

pub returns-then-text-end : goal.returns-then-text-end
returns-then-text-end c =
    let counted = c.digits.ensures in
    (unwritten (omega (arith, counted)) c.if-text-end.true, omega (arith, counted))

pub write_number-requires : goal.write_number-requires
write_number-requires c =
    let few = word_digits c.args.n c.ranges.n.fits in
    elim c.if-text-at.branch [ then-text-at+else-text-end w ↦ omega (arith, w.digits.ensures, w.if-text-end.false) | else-text-at w ↦ omega (arith, few, w.if-text-at.false) ]

pub returns : goal.returns
returns c =
    let w = c.write_number.ensures in
    (written_whole w.0 w.1, omega (arith, w.0, word_digits c.args.n c.ranges.n.fits))
