-- `file_bytes::read_row` meets its contract. The loop's invariant: the first k words are read.
use mathlib.Core.Path.{◌≡◌}
use lib.ListN.{length, take}
use Rattle.table_file.specs.Bytes.{decode}
use Rattle.file_bytes.proofs.read_row.Given as goal

abbrev pub invariant-loop-k : goal.invariant-loop-k
invariant-loop-k l = (length l.row ≡ 8) × (take l.k l.row ≡ decode l.k l.bytes)
