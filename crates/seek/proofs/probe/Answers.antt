-- `seek::probe` meets its contract: each arm is its callee's answer.

use Rattle.seek.proofs.probe.Goals as goal

pub returns-in-Linear : goal.returns-in-Linear
returns-in-Linear c = cc

pub returns-in-Binary : goal.returns-in-Binary
returns-in-Binary c = cc

pub returns-in-Galloping : goal.returns-in-Galloping
returns-in-Galloping c = cc
