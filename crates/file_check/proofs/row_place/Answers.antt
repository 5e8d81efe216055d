-- `file_check::row_place` meets its contract.
use native.Mathlib.Omega.{arith}
use mathlib.Core.Path.{ap}
use Prim.Native.Nat.{ℕ, ◌/◌}
use Rattle.file_check.proofs.row_place.Goals as goal

pub returns : goal.returns
returns c = omega (arith, ap (λ (m : ℕ). c.args.i / m) c.per_field.ensures.0)
