-- `layer_text::Writer::head` meets its contract: three pieces.
use native.Mathlib.Omega.{arith}
use Rattle.layer_text.proofs.Texts.{wrote_more}
use Rattle.layer_text.proofs.Writer.head.Goals as goal

pub returns : goal.returns
returns c =
    (wrote_more c.put.ensures (wrote_more c.number.ensures.0 c.put-2.ensures), omega (arith, c.put.ensures.piece.ends, c.number.ensures.1, c.put-2.ensures.piece.ends))
