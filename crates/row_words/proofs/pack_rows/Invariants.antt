-- `row_words::pack_rows` meets its contract. The loop's invariant: the first k words are made, and the path is that of the row before.
use Prim.Native.Nat.{◌-◌}
use Rattle.column_trie.specs.Table.{layers_in}
use Rattle.row_path.specs.Path.{OnPath}
use Rattle.row_words.proofs.Walk.{Packing}
use Rattle.row_words.proofs.pack_rows.Given as goal

abbrev pub invariant-loop-k : goal.invariant-loop-k
invariant-loop-k l = OnPath (layers_in l.rows.pool.now l.rows.table) (l.k - 1) l.path × Packing l.rows l.words l.k
