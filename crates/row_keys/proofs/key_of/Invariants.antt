-- `row_keys::key_of` meets its contract. The loop's invariant: the place is that of row i in the layer above e.
use Prim.Native.Nat.{◌-◌}
use Rattle.row_keys.proofs.Parents.{Climbing}
use Rattle.row_keys.proofs.key_of.Given as goal

abbrev pub invariant-loop-e : goal.invariant-loop-e
invariant-loop-e l = Climbing l.rows.sound.pool.now l.rows.sound.table.now l.i l.d (l.e - 1) l.place
