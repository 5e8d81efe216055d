-- `file_read::load` meets its contract. The loop's invariant: the table holds the first i rows, and the last of them is kept.
use Prim.Native.Nat.{◌-◌}
use mathlib.Core.Path.{◌≡◌}
use mathlib.Core.List.{[]}
use lib.ListN.{length, take, get_or}
use Rattle.column_trie.specs.Limits.{max_arity}
use Rattle.from_sorted.specs.Push.{Filled}
use Rattle.table_file.specs.File.{parse}
use Rattle.file_read.specs.Load.{rows_found}
use Rattle.file_read.proofs.load.Given as goal

abbrev pub invariant-loop-i : goal.invariant-loop-i
invariant-loop-i l = Filled l.t (rows_found (parse l.bytes)) l.initial.pool l.pool l.lengths.data l.lengths.intervals l.i × (length l.last ≡ max_arity) × (take l.t.arity l.last ≡ get_or (rows_found (parse l.bytes)) (l.i - 1) [])
