-- `names` meets its contract: the maker's number is looked at only where the atom is laid over.
use mathlib.Core.Path.{refl, ◌∙◌}
use mathlib.Core.Bool.{◌&&◌}
use lib.Dec.{eqb}
use borrow.Author.Tests.{eq-eqb, ne_eqb}
use Rattle.relation.proofs.Tests.{gate_shut, gate_open}
use Rattle.join_query.proofs.Lists.{or_first, or_second}
use Rattle.join_checks.proofs.names.Goals as goal

pub returns-then-a-t : goal.returns-then-a-t
returns-then-a-t c =
    let r = c.args in
    let a = r.a.now in
    or_first (eqb a.table r.t) (a.laid_over && eqb a.maker r.t) (eq-eqb a.table r.t c.if-a-t.true)

pub returns-then-a : goal.returns-then-a
returns-then-a c =
    let r = c.args in
    let a = r.a.now in
    gate_open a.laid_over (eqb a.maker r.t) (eqb a.maker r.t) c.if-a.true refl
    ∙ or_second (eqb a.table r.t) (a.laid_over && eqb a.maker r.t) (ne_eqb a.table r.t c.if-a-t.false)

pub returns-else-a : goal.returns-else-a
returns-else-a c =
    let r = c.args in
    let a = r.a.now in
    c.if-a.false
    ∙ gate_shut a.laid_over (eqb a.maker r.t) c.if-a.false
    ∙ or_second (eqb a.table r.t) (a.laid_over && eqb a.maker r.t) (ne_eqb a.table r.t c.if-a-t.false)
