-- `next_in` meets its contract: interval i of layer d stands for the first d words (Descent.antt); the last column gives the key, and a word that is not found before it ends the search
-- (Found.antt).
use Prim.Native.Nat.{◌≤◌}
use lib.ListN.{length, take}
use Rattle.plain_keys.specs.Keys.{words}
use Rattle.plain_keys.proofs.Descent.{At}
use Rattle.plain_keys.proofs.next_in.Given as goal

abbrev pub invariant-loop-d : goal.invariant-loop-d
invariant-loop-d l = At l.pool l.fn.t l.d l.i (take l.d (words l.a l.row)) × (l.i ≤ length l.pool)
