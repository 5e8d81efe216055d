-- `two_runs::led` meets its contract, by the test.
use mathlib.Core.Path.{refl, subst}
use mathlib.Core.Logic.{inl, inr}
use Rattle.two_runs.specs.Runs.{Turns}
use Rattle.two_runs.proofs.led.Goals as goal

pub returns-then-turns : goal.returns-then-turns
returns-then-turns c = record { led = rw c.turned.ensures (subst (Turns _ _) c.if-turns.true c.turns.ensures); same = inr c.turned.ensures }

pub returns : goal.returns
returns c = record { led = subst (Turns _ _) c.if-turns.false c.turns.ensures; same = inl refl }
