-- `file_bytes::read_number` meets its contract. The loop's invariant: w is the number of the bytes passed.
use mathlib.Core.Path.{◌≡◌}
use lib.ListN.{drop}
use Rattle.table_file.specs.Bytes.{number}
use Rattle.file_bytes.proofs.read_number.Given as goal

abbrev pub invariant-loop-i : goal.invariant-loop-i
invariant-loop-i l = l.w ≡ number l.i (drop l.at l.bytes)
