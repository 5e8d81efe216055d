-- `layer_text::Writer::layer` meets its contract: the head, the data, and the intervals behind their word.
use mathlib.Core.Path.{sym}
use native.Mathlib.Omega.{arith}
use Rattle.layer_text.proofs.Texts.{layer_is, wrote_more, wrote_as}
use Rattle.layer_text.proofs.Writer.layer.Goals as goal

pub returns : goal.returns
returns c =
    let a = c.args in
    let data_lines = wrote_more c.head.ensures.0 c.list.ensures.0 in
    let interval_line = wrote_more c.put.ensures c.list-2.ensures.0 in
    (wrote_as (sym (layer_is a.d a.«data».now a.interval.now)) (wrote_more data_lines interval_line), omega (arith, c.requires, c.head.ensures.1, c.list.ensures.1, c.put.ensures.piece.ends, c.list-2.ensures.1))
