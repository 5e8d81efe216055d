-- `overlay_place::climb` meets its contract: as many ups are left as turns.
use Prim.Native.Nat.{◌-◌}
use mathlib.Core.Path.{◌≡◌}
use Rattle.overlay_place.specs.Pairs.{ups}
use Rattle.overlay_place.proofs.climb.Given as goal

abbrev pub invariant-loop : goal.invariant-loop
invariant-loop l = ups (l.fn.iter.depth - l.counter) l.pool l.table l.it ≡ ups (l.fn.iter.depth - 1) l.pool l.table l.fn.iter
