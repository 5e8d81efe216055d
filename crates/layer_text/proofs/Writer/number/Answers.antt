-- `layer_text::Writer::number` meets its contract: where the digits end is where the writer goes on.
use mathlib.Core.Path.{refl}
use Rattle.layer_text.proofs.Writer.number.Goals as goal

pub returns : goal.returns
returns c = (record { same = refl; piece = c.put_number-self.ensures.0 }, c.put_number-self.ensures.1)
