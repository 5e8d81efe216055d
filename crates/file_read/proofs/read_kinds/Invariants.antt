-- `file_read::read_kinds` meets its contract. The loop's invariant: the kinds of the first d columns are set.
use mathlib.Core.Path.{◌≡◌}
use Rattle.from_sorted.specs.Answer.{kept_kinds}
use Rattle.table_file.specs.File.{kinds_read}
use Rattle.file_read.proofs.read_kinds.Given as goal

abbrev pub invariant-loop-d : goal.invariant-loop-d
invariant-loop-d l = l.grade ≡ kept_kinds l.d (kinds_read l.arity l.bytes)
