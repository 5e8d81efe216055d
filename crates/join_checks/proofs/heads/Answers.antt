-- `heads` meets its contract: inside the list the variable at place j heads what is left of it, and past its end nothing does.
use native.Mathlib.Omega.{arith}
use mathlib.Core.Path.{sym, ◌∙◌}
use borrow.Author.Tests.{le-ltb}
use Rattle.join_query.proofs.Lists.{headed_at, headed_past}
use Rattle.join_checks.proofs.heads.Goals as goal

pub returns-then-j-list : goal.returns-then-j-list
returns-then-j-list c = sym (headed_at c.args.list.now c.args.v c.args.j (omega arith))

pub returns-else-j-list : goal.returns-else-j-list
returns-else-j-list c = le-ltb c.args.j _ (omega arith) ∙ sym (headed_past c.args.list.now c.args.v c.args.j (omega arith))
