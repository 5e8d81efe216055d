-- `two_runs::first_stretch` meets its contract: the stretch is all that is left of the first run, or ends at the second's next key.
use Rattle.two_runs.proofs.Stretches.{stretch_all, stretch_part}
use Rattle.two_runs.proofs.first_stretch.Goals as goal

pub returns-then-y-s : goal.returns-then-y-s
returns-then-y-s c = stretch_all c.requires.0 c.requires.1 _ c.past-y.ensures c.if-y-s.true

pub returns : goal.returns
returns c = stretch_part c.requires.0 c.requires.1 _ _ c.past-y.ensures c.if-y-s.false c.seek_run-m.ensures
