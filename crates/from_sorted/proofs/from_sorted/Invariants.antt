-- `from_sorted::from_sorted` meets its contract. The loop's invariant: the table holds the first i rows.
use Rattle.from_sorted.specs.Given.{rows_given}
use Rattle.from_sorted.specs.Push.{Filled}
use Rattle.from_sorted.proofs.from_sorted.Given as goal

abbrev pub invariant-loop-i : goal.invariant-loop-i
invariant-loop-i l = Filled l.t (rows_given l.t.arity l.rows) l.initial.pool l.pool l.lengths.data l.lengths.intervals l.i
