-- `above_of` meets its contract.
use mathlib.Core.Path.{◌∙◌}
use Rattle.join_plan.proofs.Plans.{above_below}
use Rattle.join_plan.proofs.above_of.Goals as goal

pub returns : goal.returns
returns c = let a = c.args in c.layer_at.ensures ∙ above_below a.t a.layer c.if-layer-eq0.false
