-- `join` meets its contract: refused by the checks, or the listing in the window.
use native.Mathlib.Omega.{arith}
use mathlib.Core.Path.{◌≡◌, refl, sym, ap, ◌∙◌}
use mathlib.Core.Bool.{Bool}
use lib.ListN.{length}
use Rattle.relation.specs.Order.{pick}
use Rattle.query.specs.Limits.{max_atoms}
use Rattle.join_query.specs.Query.{Accepted}
use Rattle.join_query.proofs.Whole.{length_mapped}
use Rattle.refusal.proofs.Numbers.{not_zero}
use Rattle.join_query.proofs.Accepted.{sized}
use Rattle.join_window.proofs.Windows.{begun_open, lent_back}
use Rattle.descent.proofs.Root.{plannable, standing_root, joined, begun_completes}
use Rattle.leapfrog_triejoin.proofs.Joining.{joined_seeks, joins_refused, joins_listed}
use borrow.Author.Rules.{rules}
use Rattle.leapfrog_triejoin.proofs.join.Goals as goal
use Rattle.leapfrog_triejoin.proofs.join.Goals.{In_default, Start, then-written, else-written}

-- what the parameter's type says
whole : (s : Start) → length s.args.query.atoms ≡ max_atoms
whole s = search (length_mapped, rules)

-- where nothing refuses, the query is accepted
accepted : (c : In_default) → let a = c.args in Accepted a.pool.now a.tables a.query (length a.window.now)
accepted c = record { passed = sym c.in_default.ensures; whole = whole c.before.before.before.before.before }

pub returns-in-Err : goal.returns-in-Err
returns-in-Err c =
    let a = c.args in
    joins_refused a.pool.now a.tables a.query a.window.now c.number.result (c.number.ensures ∙ c.in-Err.ensures) (λ e. not_zero c.in-Err.refused (sym c.number.ensures ∙ e))

pub make_plan-requires : goal.make_plan-requires
make_plan-requires c = plannable (accepted (goal.at.make_plan-requires c).In_default) (omega (arith, c.well_formed))

pub make_ends-requires : goal.make_ends-requires
make_ends-requires c = record { plannable = plannable (accepted (goal.at.make_ends-requires c).In_default) (omega (arith, c.well_formed)); ends_len = refl }

pub new-written-requires : goal.new-written-requires
new-written-requires c = (sized (accepted (goal.at.new-written-requires c).In_default)).few

pub descend-seeks-requires : goal.descend-seeks-requires
descend-seeks-requires c =
    record { standing = standing_root (accepted (goal.at.descend-seeks-requires c).In_default) c.make_plan.ensures c.make_ends.ensures; ready = begun_open c.new-written.ensures.begun }

pub returns : goal.returns
returns c =
    let a = c.args in
    let y = accepted (goal.at.returns c).In_default in
    let m = c.make_plan.ensures in
    let e = c.make_ends.ensures in
    let b = c.new-written.ensures in
    let d = c.descend-seeks.ensures in
    let w = c.descend-seeks.new.window in
    let all = begun_completes b.begun b.same_words.1 d.completes in
    let number : c.if-written.result ≡ pick w.full 12 0 =
    elim c.if-written.branch [
      | then-written t ↦ t.result-is ∙ t.number-then-written.ensures ∙ ap (λ (f : Bool). pick f 12 0) (sym t.if-written.true)
      | else-written t ↦ t.result-is ∙ ap (λ (f : Bool). pick f 12 0) (sym t.if-written.false)
    ] in
    joins_listed a.pool.now a.tables a.query a.window.now (sym y.passed) (lent_back w (search (rules, b.same_words.0, d.kept.same)) (joined y m e all.descended)) number (joined_seeks y m e all)
