-- `file_bytes::read_len` meets its contract.
use mathlib.Core.Path.{◌∙◌}
use Rattle.file_bytes.proofs.Steps.{word_2}
use Rattle.file_bytes.proofs.read_len.Goals as goal

pub returns : goal.returns
returns c = c.from.ensures ∙ c.from_be_bytes.ensures ∙ word_2 c.args.bytes.now
