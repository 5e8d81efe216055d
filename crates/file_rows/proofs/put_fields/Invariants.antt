-- `file_rows::put_fields` meets its contract: field after field (Fields.antt).
use Prim.Native.Nat.{◌-◌}
use Rattle.file_rows.proofs.Fields.{FieldsLaid}
use Rattle.file_rows.proofs.put_fields.Given as goal

abbrev pub invariant-loop-i : goal.invariant-loop-i
invariant-loop-i l = FieldsLaid l.rows.sound.pool.now l.rows.sound.table.now l.initial.bytes l.at l.bytes l.path l.p l.i

abbrev pub decreases-loop-i : goal.decreases-loop-i
decreases-loop-i l = l.rows.sound.table.now.tuple_count - l.i
