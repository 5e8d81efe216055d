-- `column_trie_insert::add_row` meets its contract: each turn gives one layer its key (Rows.antt).
use Rattle.column_trie.specs.Table.{rows_in}
use Rattle.column_trie_insert.proofs.Rows.{At}
use Rattle.column_trie_insert.proofs.add_row.Given as goal

abbrev pub invariant-loop-d : goal.invariant-loop-d
invariant-loop-d l = At l.initial.pool l.t (rows_in l.initial.pool l.t) l.tuple l.pool l.out l.d l.i l.known
