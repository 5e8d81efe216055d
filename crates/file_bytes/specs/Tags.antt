-- Internal: the byte of each tag, as a file has it.
use Rattle.std.specs.Prelude.{ℕ}
use Rattle.file_bytes.specs.declared.Tag.{Tag}
use Rattle.file_bytes.specs.declared.Tag.TheVariants.{Arity, Rows, End, Kinds}

abbrev pub byte_of : Tag → ℕ
byte_of Arity = 1
byte_of Rows = 2
byte_of End = 3
byte_of Kinds = 4
