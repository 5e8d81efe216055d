-- `layer_text::Writer::put` meets its contract: where the bytes end is where the writer goes on.
use mathlib.Core.Path.{refl}
use Rattle.layer_text.proofs.Writer.put.Goals as goal

pub returns : goal.returns
returns c = record { same = refl; piece = c.put-self.ensures }
