-- `stretches::go_on` meets its contract. The loop keeps that the definition over the whole runs comes to the same from here; the measure is the number of keys behind the pieces, which falls with each piece taken.
use Rattle.query.specs.Meet.{total}
use Rattle.stretches.proofs.Pausing.{tails_in, Looping}
use Rattle.stretches.proofs.go_on.Given as goal

abbrev pub invariant-loop-landed : goal.invariant-loop-landed
invariant-loop-landed l = Looping l.leap.pool.now l.initial.state l.state l.leap.ends.now l.ring l.k l.initial.landed l.initial.seeks l.landed l.seeks

abbrev pub decreases-loop-landed : goal.decreases-loop-landed
decreases-loop-landed l = total (tails_in l.leap.pool.now l.state l.leap.ends.now l.ring l.k)
