-- `two_runs::past` meets its contract: a run that ascends stands on k, or on none up to it.
use native.Mathlib.Omega.{arith}
use Rattle.two_runs.proofs.Two.{reached_here, reached_next}
use Rattle.two_runs.proofs.past.Goals as goal

pub returns-then-y-f : goal.returns-then-y-f
returns-then-y-f c = reached_here c.args.pool.now _ _ _ c.requires.y_le_f.1 c.requires.y_le_f.0 (λ h. absurd (omega (arith, c.if-y-f.true)))

pub returns-then-pool-y : goal.returns-then-pool-y
returns-then-pool-y c = reached_next c.args.pool.now _ _ _ c.requires.y_le_f.1 (omega (arith, c.if-y-f.false, c.requires.y_le_f.0)) c.requires.ascends (omega (arith, c.if-pool-y.true)) (omega arith)

pub returns : goal.returns
returns c = reached_here c.args.pool.now _ _ _ c.requires.y_le_f.1 c.requires.y_le_f.0 (λ h. omega (arith, c.if-pool-y.false, c.requires.y_le_f.2 h))
