-- Whoever refuses has a number: none is 0, which stands for no refusal.
use Prim.Native.Nat.{◌<◌}
use mathlib.Core.Path.{◌≡◌}
use native.Mathlib.Omega.{arith}
use Rattle.refusal.specs.Number.{number_of}
use Rattle.refusal.specs.declared.Refusal.{Refusal}
use Rattle.refusal.specs.declared.Refusal.TheVariants.{BadArity, BadCapacity, OutsidePool, BadLength, NoRoom, Damaged, BadCursor, BadOrder, BadAtoms, BadList, FreeVariable, Full, NotAFile, LongText, MixedKinds, PartRows, OtherShape}

pub above_zero : (r : Refusal) → 0 < number_of r
above_zero BadArity = omega arith
above_zero BadCapacity = omega arith
above_zero OutsidePool = omega arith
above_zero BadLength = omega arith
above_zero NoRoom = omega arith
above_zero Damaged = omega arith
above_zero BadCursor = omega arith
above_zero BadOrder = omega arith
above_zero BadAtoms = omega arith
above_zero BadList = omega arith
above_zero FreeVariable = omega arith
above_zero Full = omega arith
above_zero NotAFile = omega arith
above_zero LongText = omega arith
above_zero MixedKinds = omega arith
above_zero PartRows = omega arith
above_zero OtherShape = omega arith

pub not_zero : (r : Refusal) → number_of r ≡ 0 → ⊥
not_zero r e = omega (arith, above_zero r)
