-- `column_trie_path::find_path` meets its contract: each turn goes down one stored key (Walks.antt).
use Rattle.column_trie.specs.Table.{rows_in}
use Rattle.column_trie_path.proofs.Walks.{Descending}
use Rattle.column_trie_path.proofs.find_path.Given as goal

abbrev pub invariant-loop-d : goal.invariant-loop-d
invariant-loop-d l = Descending l.rows.sound.table.now.arity (rows_in l.rows.sound.pool.now l.rows.sound.table.now) l.tuple l.d l.i l.fork
