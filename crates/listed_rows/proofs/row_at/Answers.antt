-- What `row_at` asks of the function that reads a row anywhere: its row lies where it is asked for.
use native.Mathlib.Omega.{arith}
use Rattle.listed_rows.proofs.row_at.Goals as goal

pub row_at-requires : goal.row_at-requires
row_at-requires c = (c.requires.0, omega (arith, c.requires.1))
