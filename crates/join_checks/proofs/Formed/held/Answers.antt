-- The goals of `Formed::held` that the check leaves.
use native.Mathlib.Omega.{arith}
use mathlib.Core.Path.{◌≡◌, sym, ap, ◌∙◌}
use borrow.Author.Count.{below_more}
use lib.ListN.{get_or}
use Rattle.query.specs.Meet.{has}
use Rattle.join_query.specs.Query.{no_atom, vars_of, atom_at}
use Rattle.join_query.specs.Checking.{Listed}
use Rattle.join_query.specs.declared.Atom.{Atom}
use Rattle.join_query.proofs.Lists.{lists_told, held_at, held_nowhere}
use Rattle.query.proofs.Permuting.{has_is}
use Rattle.join_checks.proofs.Every.{atom_in, atom_there}
use borrow.Author.Rules.{rules}
use Rattle.join_checks.proofs.Formed.held.Goals as goal
use Rattle.join_checks.proofs.Formed.held.Goals.{After-contains, Start}

told : (s : Start) → Listed s.args.self.now.q.now
told s = let f = s.args.self.now in lists_told f.ts.now f.q.now f.named f.listed

pub atoms-a-items-requires : goal.atoms-a-items-requires
atoms-a-items-requires c = (told (goal.at.atoms-a-items-requires c).Start).few

pub shared_ref_as_front-contains : goal.shared_ref_as_front-contains
shared_ref_as_front-contains c =
    let q = c.args.self.now.q.now in
    let e = c.atoms-a-items.ensures in
    let i = c.loop-a.a-index in
    let h = c.loop-a-test.true in
    omega (arith, (told (goal.at.shared_ref_as_front-contains c).Start).short i (atom_in q e.listed e.many i h), ap (λ (x : Atom). x.len) (atom_there q e.listed e.many i h))

answered : (c : After-contains) → let a = c.args in c.contains.result ≡ has (vars_of (atom_at a.self.now.q.now c.loop-a.a-index)) a.v
answered c =
    let a = c.args in
    let e = c.atoms-a-items.ensures in
    let i = c.loop-a.a-index in
    has_is (vars_of (get_or c.atoms-a-items.result.now i no_atom)) a.v c.contains.result (search rules) (search rules)
    ∙ ap (λ (x : Atom). has (vars_of x) a.v) (atom_there a.self.now.q.now e.listed e.many i c.loop-a-test.true)

pub returns-then-contains : goal.returns-then-contains
returns-then-contains c =
    let q = c.args.self.now.q.now in
    let e = c.atoms-a-items.ensures in
    let i = c.loop-a.a-index in
    let s = (goal.at.returns-then-contains c).Start in
    sym (held_at q c.args.self.now.full (told s).few c.args.v i (atom_in q e.listed e.many i c.loop-a-test.true)
    (sym (answered (goal.at.returns-then-contains c).After-contains) ∙ c.if-contains.true))

pub loop-a-preserved : goal.loop-a-preserved
loop-a-preserved c = below_more _ c.loop-a.a-index c.loop-a.invariant (sym (answered (goal.at.loop-a-preserved c).After-contains) ∙ c.if-contains.false)

pub returns : goal.returns
returns c =
    let q = c.args.self.now.q.now in
    let s = (goal.at.returns c).Start in
    sym (held_nowhere q c.args.self.now.full (told s).few c.args.v (λ i h. c.loop-a.invariant i (let f = c.loop-a-test.false in omega (arith, h, f, c.atoms-a-items.ensures.many))))
