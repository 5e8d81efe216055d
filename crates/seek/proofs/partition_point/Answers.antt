-- `seek::partition_point` meets its contract: the comparison says whether the strategy's end is a hit.
use mathlib.Core.Path.{◌∙◌, ap}
use Rattle.seek.specs.Seek.{sought_at}
use Rattle.seek.proofs.Hits.{hit_inside, hit_outside}
use Rattle.seek.proofs.partition_point.Goals as goal

pub returns-then-offset-remaining : goal.returns-then-offset-remaining
returns-then-offset-remaining c =
    let args = c.args in
    hit_inside args.remaining.now args.target c.probe-p.result c.if-offset-remaining.true ∙ ap (sought_at args.remaining.now args.target) c.probe-p.ensures

pub returns-else-offset-remaining : goal.returns-else-offset-remaining
returns-else-offset-remaining c =
    let args = c.args in
    hit_outside args.remaining.now args.target c.probe-p.result c.if-offset-remaining.false ∙ ap (sought_at args.remaining.now args.target) c.probe-p.ensures
