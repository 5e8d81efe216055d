-- The goals of `plan_depth` that the check leaves.
use Prim.Native.Nat.{ℕ, ◌+◌, ◌≤◌, ◌<◌}
use native.Mathlib.Omega.{arith}
use mathlib.Core.Path.{◌≡◌, sym, subst, subst₂, ◌∙◌}
use lib.ListN.{length, get_or, length-take}
use Rattle.query.specs.Limits.{max_atoms}
use Rattle.join_query.specs.Query.{atom_at, table_at, vars_of}
use Rattle.join_query.proofs.Whole.{length_mapped}
use Rattle.join_query.proofs.Lists.{headed_inside}
use Rattle.join_plan.specs.Plan.{Low}
use Rattle.join_plan.specs.declared.DepthPlan.{DepthPlan}
use Rattle.join_plan.proofs.Plans.{Filling, second_made, filling_start, filling_out, filling_in}
use borrow.Author.Rules.{rules}
use Rattle.join_plan.proofs.plan_depth.Goals as goal
use Rattle.join_plan.proofs.plan_depth.Goals.{Start, else-heads, then-heads}

-- what the parameter's type says
long : (s : Start) → length s.args.depth.now.openings ≡ max_atoms
long s = search (length_mapped, rules)

pub loop-i-init : goal.loop-i-init
loop-i-init c = let s = (goal.at.loop-i-init c).Start in filling_start c.args.ts.now c.args.q.now c.args.d c.requires.whole _ (long s)

pub plan_atom-requires : goal.plan_atom-requires
plan_atom-requires c =
    let l = c.loop-i in
    let a = atom_at c.args.q.now l.i in
    let h : l.i < c.args.q.now.atom_count = omega (arith, c.loop-i-test.true) in
    let e = headed_inside (get_or c.args.q.now.order c.args.d 0) c.reached-layer.result (vars_of a) (sym c.heads.ensures ∙ c.if-heads.true) in
    let p = c.requires.plannable.0 in
    (p.low l.i h, subst (λ (x : ℕ). Low (table_at c.args.ts.now x)) (sym c.second_of.ensures) (p.low₂ l.i h), omega (arith, e, length-take a.len a.variables, p.short l.i h))

pub loop-i-preserved : goal.loop-i-preserved
loop-i-preserved c =
    let l = c.loop-i in
    let b : l.i < max_atoms = omega (arith, c.requires.plannable.0.few) in
    let deep : c.args.d ≤ c.args.q.now.n = omega (arith, c.requires.plannable.1) in
    let e = c.reached-layer.ensures in
    let u = sym c.heads.ensures in
    let F : DepthPlan → ℕ → Type 0 = λ p k. Filling c.args.ts.now c.args.q.now c.args.d p.openings k (l.i + 1) in
    elim c.if-heads.branch [
      | then-heads w ↦ subst₂ F (sym w.depth-is) (sym w.k-is) (filling_in c.args.ts.now c.args.q.now c.args.d c.requires.whole l.invariant (omega arith) b deep e (u ∙ w.if-heads.true) (second_made c.args.ts.now w.second_of.ensures w.plan_atom.ensures))
      | else-heads w ↦ subst₂ F (sym w.depth-is) (sym w.k-is) (filling_out c.args.ts.now c.args.q.now c.args.d c.requires.whole l.invariant (omega arith) b deep e (u ∙ w.if-heads.false))
    ]
