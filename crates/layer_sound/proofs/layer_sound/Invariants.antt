-- `layer_sound::layer_sound` meets its contract: the loop goes down the intervals (Counting.antt), and what it counted is held against all falls.
use Rattle.layer_sound.proofs.Counting.{Starting}
use Rattle.layer_sound.proofs.layer_sound.Given as goal

abbrev pub invariant-loop-i : goal.invariant-loop-i
invariant-loop-i l = Starting l.interval l.data l.i l.at l.starts
