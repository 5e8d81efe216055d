-- `column_trie_remove::cut_row` meets its contract: each turn takes the key out of one layer (Cuts.antt).
use Rattle.relation.specs.Order.{Row}
use Rattle.column_trie.specs.Table.{rows_in}
use Rattle.column_trie_remove.specs.Remove.{without}
use Rattle.column_trie_remove.specs.Shrink.{Forked}
use Rattle.column_trie_remove.proofs.Cuts.{At}
use Rattle.column_trie_remove.proofs.cut_row.Given as goal

-- the loop keeps this for every row whose fork it is
abbrev pub invariant-loop-d : goal.invariant-loop-d
invariant-loop-d l = (tuple : Row) → Forked l.initial.pool l.t tuple l.fn.fork → At l.initial.pool l.t (without tuple (rows_in l.initial.pool l.t)) tuple l.pool l.out l.d l.i l.known
