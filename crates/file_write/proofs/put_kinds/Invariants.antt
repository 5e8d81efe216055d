-- `file_write::put_kinds` meets its contract: byte after byte is laid.
use mathlib.Core.Path.{◌≡◌}
use mathlib.Core.List.{map}
use lib.ListN.{take}
use Rattle.column_trie.specs.Pool.{lay}
use Rattle.table_file.specs.File.{kind_byte}
use Rattle.file_write.proofs.put_kinds.Given as goal

abbrev pub invariant-loop-d : goal.invariant-loop-d
invariant-loop-d l = l.bytes ≡ lay l.initial.bytes l.at (map kind_byte (take l.d l.kinds))
