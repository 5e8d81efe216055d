-- `file_check::count_rows` meets its contract. The loop's invariant: the fields passed held n rows.
use Prim.Native.Nat.{◌-◌}
use lib.ListN.{length}
use Rattle.file_check.proofs.Counts.{Counts}
use Rattle.file_check.proofs.Body.count.Given as goal

abbrev pub invariant-loop-p : goal.invariant-loop-p
invariant-loop-p l = Counts l.self.arity l.self.bytes.now l.self.at l.p l.n

abbrev pub decreases-loop-p : goal.decreases-loop-p
decreases-loop-p l = length l.self.bytes.now - l.p
