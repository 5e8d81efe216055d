-- `file_bytes::put_word` meets its contract: the word's eight bytes, laid.
use mathlib.Core.Path.{◌∙◌}
use native.Mathlib.Omega.{arith}
use Rattle.table_file.proofs.Numbers.{length_bytes_of}
use Rattle.file_bytes.proofs.Steps.{word_bytes, written}
use Rattle.file_bytes.proofs.put_word.Goals as goal

pub returns : goal.returns
returns c =
    let long = length_bytes_of 8 c.args.word in
    written c.args.text.now c.args.at _ _ _ (c.copy_from_slice.ensures.after ∙ c.to_be_bytes.ensures ∙ word_bytes c.args.word) (omega (arith, long)) (omega (arith, long, c.requires))
