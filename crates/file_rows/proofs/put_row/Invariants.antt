-- `file_rows::put_row` meets its contract: word after word is laid, each the key on the path.
use mathlib.Core.Path.{◌≡◌}
use mathlib.Core.List.{[]}
use lib.ListN.{take, get_or}
use Rattle.column_trie.specs.Pool.{lay}
use Rattle.column_trie.specs.Table.{rows_in}
use Rattle.table_file.specs.Bytes.{encode}
use Rattle.file_rows.proofs.put_row.Given as goal

abbrev pub invariant-loop-d : goal.invariant-loop-d
invariant-loop-d l = l.bytes ≡ lay l.initial.bytes l.at (encode (take l.d (get_or (rows_in l.rows.sound.pool.now l.rows.sound.table.now) l.i [])))
