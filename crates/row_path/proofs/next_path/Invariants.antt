-- `row_path::next_path` meets its contract: from the last layer up, each place becomes that of the row (Moves.antt).
use Prim.Native.Nat.{◌-◌}
use Rattle.column_trie.specs.Table.{layers_in}
use Rattle.row_path.proofs.Moves.{Moved}
use Rattle.row_path.proofs.next_path.Given as goal

abbrev pub invariant-loop-d : goal.invariant-loop-d
invariant-loop-d l = Moved (layers_in l.rows.sound.pool.now l.rows.sound.table.now) l.i l.path (l.d - 1)
