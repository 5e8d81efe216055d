-- `rows_ok` meets its contract: the length is divided only where n is not 0.
use Prim.Native.Nat.{◌%◌}
use lib.Dec.{eqb}
use borrow.Author.Tests.{eq-eqb, ne_eqb}
use Rattle.join_query.proofs.Lists.{or_first, or_second}
use Rattle.join_checks.proofs.rows_ok.Goals as goal

pub returns-then-n-eq0 : goal.returns-then-n-eq0
returns-then-n-eq0 c = let a = c.args in or_first (eqb a.n 0) (eqb (a.len % a.n) 0) (eq-eqb a.n 0 c.if-n-eq0.true)

pub returns-else-n-eq0 : goal.returns-else-n-eq0
returns-else-n-eq0 c = let a = c.args in or_second (eqb a.n 0) (eqb (a.len % a.n) 0) (ne_eqb a.n 0 c.if-n-eq0.false)
