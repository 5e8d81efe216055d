-- The goals of `Formed::shapes_ok` that the check leaves.
use Prim.Native.Nat.{◌≤◌}
use mathlib.Core.Path.{◌≡◌, sym, ap, subst, ◌∙◌}
use mathlib.Core.Bool.{not}
use Rattle.column_trie.specs.Limits.{max_arity}
use Rattle.relation.proofs.Tests.{every_none, every_more, every_fails, passed, failed}
use Rattle.join_query.specs.Query.{names_some, table_at, shapes_agree, shape_ok}
use Rattle.join_query.specs.declared.Atom.{Atom}
use Rattle.join_query.proofs.Lists.{named_told, names_told, arity_short}
use Rattle.join_checks.proofs.Every.{atom_in, atom_there}
use Rattle.join_checks.proofs.Formed.shapes_ok.Goals as goal
use Rattle.join_checks.proofs.Formed.shapes_ok.Goals.{After-shape_ok}

pub atoms-a-items-requires : goal.atoms-a-items-requires
atoms-a-items-requires c = let f = c.args.self.now in (named_told f.ts.now.count f.q.now f.named).few

pub loop-a-init : goal.loop-a-init
loop-a-init c = every_none _

pub shape_ok-requires : goal.shape_ok-requires
shape_ok-requires c =
    let f = c.args.self.now in
    let ts = f.ts.now in
    let q = f.q.now in
    let e = c.atoms-a-items.ensures in
    let i = c.loop-a.a-index in
    let h = atom_in q e.listed e.many i c.loop-a-test.true in
    let t = atom_there q e.listed e.many i c.loop-a-test.true in (
      (named_told ts.count q f.named).bounded,
      ap (names_some ts.count) t ∙ names_told ts.count q f.named i h,
      subst (λ (x : Atom). (table_at ts x.table).arity ≤ max_arity) (sym t) (arity_short ts q f.listed i h),
    )

answered : (c : After-shape_ok) → let f = c.args.self.now in c.shape_ok.result ≡ shape_ok f.ts.now f.q.now c.loop-a.a-index
answered c =
    let f = c.args.self.now in
    let e = c.atoms-a-items.ensures in
    c.shape_ok.ensures ∙ ap (λ (x : Atom). shapes_agree f.ts.now x) (atom_there f.q.now e.listed e.many c.loop-a.a-index c.loop-a-test.true)

pub returns-then-not-shape_ok : goal.returns-then-not-shape_ok
returns-then-not-shape_ok c =
    let f = c.args.self.now in
    let e = c.atoms-a-items.ensures in
    let i = c.loop-a.a-index in
    sym (every_fails (shape_ok f.ts.now f.q.now) f.q.now.atom_count i (atom_in f.q.now e.listed e.many i c.loop-a-test.true) (failed (answered (goal.at.returns-then-not-shape_ok c).After-shape_ok) (ap not c.if-not-shape_ok.true)))

pub loop-a-preserved : goal.loop-a-preserved
loop-a-preserved c =
    let f = c.args.self.now in
    every_more (shape_ok f.ts.now f.q.now) c.loop-a.a-index c.loop-a.invariant (passed (answered (goal.at.loop-a-preserved c).After-shape_ok) (ap not c.if-not-shape_ok.false))
