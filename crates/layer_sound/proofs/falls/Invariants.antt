-- `layer_sound::falls` meets its contract: a turn counts the falls at two places (Counting.antt), and the way out the one that is left.
use Prim.Native.Nat.{◌+◌, ◌-◌}
use lib.ListN.{length}
use Rattle.layer_sound.proofs.Counting.{Falling}
use Rattle.layer_sound.proofs.falls.Given as goal

abbrev pub invariant-loop-j : goal.invariant-loop-j
invariant-loop-j l = Falling l.keys l.odd l.even l.j

abbrev pub decreases-loop-j : goal.decreases-loop-j
decreases-loop-j l = length l.keys + 1 - l.j
