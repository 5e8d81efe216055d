-- `layer_text::put` meets its contract: the bytes are put back as one part, where they fit.
use mathlib.Core.Path.{refl}
use native.Mathlib.Omega.{arith}
use Rattle.layer_text.proofs.Texts.{laid_back, written_whole, unwritten}
use Rattle.layer_text.proofs.put.Goals as goal

pub returns-then-text-end : goal.returns-then-text-end
returns-then-text-end c = unwritten refl c.if-text-end.true

pub returns : goal.returns
returns c =
    let a = c.args in
    written_whole refl (laid_back a.text.now a.at _ c.copy_from_slice.new.self a.bytes.now c.copy_from_slice.ensures.after (omega arith) c.if-text-end.false)
