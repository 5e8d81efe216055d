-- `file_rows::put_each` meets its contract: row after row (Tables.antt).
use Rattle.file_rows.proofs.Tables.{RowsLaid}
use Rattle.file_rows.proofs.put_each.Given as goal

abbrev pub invariant-loop-k : goal.invariant-loop-k
invariant-loop-k l = RowsLaid l.rows.sound.pool.now l.rows.sound.table.now l.initial.bytes l.at l.i l.n l.bytes l.path l.p l.k
