-- The goals of `Formed::binds_only` that the check leaves.
use native.Mathlib.Omega.{arith}
use mathlib.Core.Path.{◌≡◌, sym, ap, ◌∙◌}
use mathlib.Core.Bool.{not}
use Rattle.relation.specs.Tests.{every}
use Rattle.relation.proofs.Tests.{every_none, every_more, every_fails, passed, failed}
use Rattle.join_query.specs.Query.{table_at, column_ok, columns_ok}
use Rattle.join_query.specs.declared.Atom.{Atom}
use Rattle.join_query.proofs.Lists.{named_told, lists_told}
use Rattle.join_checks.proofs.Every.{atom_in, atom_there, table_there}
use Rattle.join_checks.proofs.Formed.binds_only.Goals as goal
use Rattle.join_checks.proofs.Formed.binds_only.Goals.{After-columns_ok}

pub atoms-a-items-requires : goal.atoms-a-items-requires
atoms-a-items-requires c = let f = c.args.self.now in (named_told f.ts.now.count f.q.now f.named).few

pub loop-a-init : goal.loop-a-init
loop-a-init c = every_none _

pub offset_bounds-self-a : goal.offset_bounds-self-a
offset_bounds-self-a c =
    let f = c.args.self.now in
    let e = c.atoms-a-items.ensures in
    omega (arith, table_there f.q.now e.listed e.many c.loop-a.a-index c.loop-a-test.true f.ts.now.count f.named)

pub bounds-self-a : goal.bounds-self-a
bounds-self-a c =
    let f = c.args.self.now in
    let e = c.atoms-a-items.ensures in
    table_there f.q.now e.listed e.many c.loop-a.a-index c.loop-a-test.true f.ts.now.count f.named

pub columns_ok-requires : goal.columns_ok-requires
columns_ok-requires c =
    let f = c.args.self.now in
    let e = c.atoms-a-items.ensures in
    let i = c.loop-a.a-index in
    let h = c.loop-a-test.true in
    omega (arith, (lists_told f.ts.now f.q.now f.named f.listed).short i (atom_in f.q.now e.listed e.many i h), ap (λ (x : Atom). x.len) (atom_there f.q.now e.listed e.many i h))

answered : (c : After-columns_ok) → let a = c.args in c.columns_ok.result ≡ columns_ok a.self.now.ts.now a.self.now.q.now a.v a.grade c.loop-a.a-index
answered c =
    let a = c.args in
    let f = a.self.now in
    let e = c.atoms-a-items.ensures in
    c.columns_ok.ensures ∙ ap (λ (x : Atom). every x.len (column_ok (table_at f.ts.now x.table) x a.v a.grade)) (atom_there f.q.now e.listed e.many c.loop-a.a-index c.loop-a-test.true)

pub returns-then-not-columns_ok : goal.returns-then-not-columns_ok
returns-then-not-columns_ok c =
    let a = c.args in
    let f = a.self.now in
    let e = c.atoms-a-items.ensures in
    let i = c.loop-a.a-index in
    sym (every_fails (columns_ok f.ts.now f.q.now a.v a.grade) f.q.now.atom_count i (atom_in f.q.now e.listed e.many i c.loop-a-test.true) (failed (answered (goal.at.returns-then-not-columns_ok c).After-columns_ok) (ap not c.if-not-columns_ok.true)))

pub loop-a-preserved : goal.loop-a-preserved
loop-a-preserved c =
    let a = c.args in
    every_more (columns_ok a.self.now.ts.now a.self.now.q.now a.v a.grade) c.loop-a.a-index c.loop-a.invariant (passed (answered (goal.at.loop-a-preserved c).After-columns_ok) (ap not c.if-not-columns_ok.false))
