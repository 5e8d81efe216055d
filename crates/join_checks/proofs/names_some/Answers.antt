-- `names_some` meets its contract: the maker's number is looked at only where the atom is laid over.
use mathlib.Core.Path.{ap, ◌∙◌}
use mathlib.Core.Bool.{not, ◌||◌}
use lib.Dec.{ltb}
use borrow.Author.Tests.{lt-ltb, le-ltb}
use Rattle.relation.proofs.Tests.{gate_shut, gate_open}
use Rattle.join_query.proofs.Lists.{or_first, or_second}
use Rattle.join_checks.proofs.names_some.Goals as goal

pub returns-then-not-a : goal.returns-then-not-a
returns-then-not-a c =
    let r = c.args in
    let a = r.a.now in
    gate_open (ltb a.table r.count) (not a.laid_over || ltb a.maker r.count) (not a.laid_over) (lt-ltb a.table r.count c.if-a-count.true)
    (or_first (not a.laid_over) (ltb a.maker r.count) (ap not c.if-not-a.true))

pub returns-else-not-a : goal.returns-else-not-a
returns-else-not-a c =
    let r = c.args in
    let a = r.a.now in
    gate_open (ltb a.table r.count) (not a.laid_over || ltb a.maker r.count) (ltb a.maker r.count) (lt-ltb a.table r.count c.if-a-count.true)
    (or_second (not a.laid_over) (ltb a.maker r.count) (ap not c.if-not-a.false))

pub returns-else-a-count : goal.returns-else-a-count
returns-else-a-count c =
    let r = c.args in
    let a = r.a.now in
    let e = le-ltb a.table r.count c.if-a-count.false in
    e ∙ gate_shut (ltb a.table r.count) (not a.laid_over || ltb a.maker r.count) e
