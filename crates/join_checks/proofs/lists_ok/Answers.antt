-- The goals of `lists_ok` that the check leaves.
use native.Mathlib.Omega.{arith}
use mathlib.Core.Path.{◌≡◌, sym, ap, ◌∙◌}
use mathlib.Core.Bool.{not}
use Rattle.relation.proofs.Tests.{every_none, every_more, every_fails, passed, failed}
use Rattle.join_query.specs.Query.{table_at, listed_at, list_ok}
use Rattle.join_query.specs.declared.Atom.{Atom}
use Rattle.join_query.proofs.Lists.{named_told}
use Rattle.join_checks.proofs.Every.{atom_in, atom_there, table_there}
use Rattle.join_checks.proofs.lists_ok.Goals as goal
use Rattle.join_checks.proofs.lists_ok.Goals.{After-list_ok}

pub atoms-a-items-requires : goal.atoms-a-items-requires
atoms-a-items-requires c = (named_told c.args.ts.now.count c.args.q.now c.requires.1).few

pub loop-a-init : goal.loop-a-init
loop-a-init c = every_none _

pub offset_bounds-ts-a : goal.offset_bounds-ts-a
offset_bounds-ts-a c =
    let a = c.args in
    let e = c.atoms-a-items.ensures in
    omega (arith, table_there a.q.now e.listed e.many c.loop-a.a-index c.loop-a-test.true a.ts.now.count c.requires.1)

pub bounds-ts-a : goal.bounds-ts-a
bounds-ts-a c =
    let a = c.args in
    let e = c.atoms-a-items.ensures in
    table_there a.q.now e.listed e.many c.loop-a.a-index c.loop-a-test.true a.ts.now.count c.requires.1

pub list_ok-requires : goal.list_ok-requires
list_ok-requires c = c.requires.0

answered : (c : After-list_ok) → let a = c.args in c.list_ok.result ≡ list_ok a.ts.now a.q.now c.loop-a.a-index
answered c =
    let a = c.args in
    let e = c.atoms-a-items.ensures in
    c.list_ok.ensures ∙ ap (λ (x : Atom). listed_at a.q.now x (table_at a.ts.now x.table).arity) (atom_there a.q.now e.listed e.many c.loop-a.a-index c.loop-a-test.true)

pub returns-then-not-list_ok : goal.returns-then-not-list_ok
returns-then-not-list_ok c =
    let a = c.args in
    let e = c.atoms-a-items.ensures in
    let i = c.loop-a.a-index in
    sym (every_fails (list_ok a.ts.now a.q.now) a.q.now.atom_count i (atom_in a.q.now e.listed e.many i c.loop-a-test.true) (failed (answered (goal.at.returns-then-not-list_ok c).After-list_ok) (ap not c.if-not-list_ok.true)))

pub loop-a-preserved : goal.loop-a-preserved
loop-a-preserved c =
    let a = c.args in
    every_more (list_ok a.ts.now a.q.now) c.loop-a.a-index c.loop-a.invariant (passed (answered (goal.at.loop-a-preserved c).After-list_ok) (ap not c.if-not-list_ok.false))
