-- `two_runs::seek_run` meets its contract: the strategy stops where the keys below the target end.
use mathlib.Core.Path.{ap}
use native.Mathlib.Omega.{arith}
use Rattle.seek.specs.declared.Probed.{Probed}
use Rattle.leapfrog_search.proofs.Parts.{seek_within, seek_reached}
use Rattle.two_runs.proofs.seek_run.Goals as goal

pub overflow_add-result : goal.overflow_add-result
overflow_add-result c = omega (arith, ap (λ (s : Probed). s.offset) c.seek_run.ensures, c.requires.x_le_e, seek_within c.args.pool.now c.args.x c.args.e c.requires.x_le_e.0 c.requires.x_le_e.1 c.requires.ascends c.args.strategy c.args.target)

pub returns : goal.returns
returns c =
    rw c.seek_run.ensures
    (seek_reached c.args.pool.now c.args.x c.args.e c.requires.x_le_e.0 c.requires.x_le_e.1 c.requires.ascends c.args.strategy c.args.target)
