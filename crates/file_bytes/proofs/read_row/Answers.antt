-- The goals of `read_row` that the check leaves.
use mathlib.Core.Path.{refl, ◌∙◌}
use mathlib.Core.List.{[]}
use native.Mathlib.Omega.{arith}
use lib.ListN.{length-set}
use Rattle.file_bytes.proofs.Steps.{none_read, word_read}
use Rattle.file_bytes.proofs.read_row.Goals as goal

pub loop-k-init : goal.loop-k-init
loop-k-init c = (refl, none_read [] c.args.bytes.now)

pub loop-k-preserved : goal.loop-k-preserved
loop-k-preserved c =
    let l = c.loop-k in
    let w = c.read_number.result in
    (length-set l.row l.k w ∙ l.invariant.0, word_read l.row w c.args.bytes.now l.k (omega (arith, c.requires.0, l.invariant.0)) l.invariant.1 c.read_number.ensures)
