-- `list_ok` meets its contract: where the order is a permutation, a list of the right length that the order reaches whole holds no number from n up.
use mathlib.Core.Path.{◌≡◌, sym, ◌∙◌}
use mathlib.Core.Bool.{false≢true}
use lib.ListN.{length}
use Rattle.column_trie.specs.Limits.{max_arity}
use Rattle.join_query.proofs.Lists.{order_told, list_long, list_other, list_reached}
use borrow.Author.Rules.{rules}
use borrow.Author.Tests.{lt-leb, eq-eqb, eqb-true}
use Rattle.join_checks.proofs.list_ok.Goals as goal
use Rattle.join_checks.proofs.list_ok.Goals.{Start, then-a-le-MAX_ARITY, else-a-le-MAX_ARITY}

-- what the parameter's type says
whole : (s : Start) → length s.args.a.now.variables ≡ max_arity
whole s = search rules

pub returns-then-a-arity : goal.returns-then-a-arity
returns-then-a-arity c =
    let a = c.args in
    let w = whole (goal.at.returns-then-a-arity c).Start in
    elim c.if-a-le-MAX_ARITY.branch [
      | then-a-le-MAX_ARITY u ↦ list_reached a.q.now c.requires a.a.now a.arity w u.if-a-le-MAX_ARITY.true (eqb-true a.a.now.len a.arity (sym u.value-is ∙ c.if-a-arity.true)) c.reached.ensures
      | else-a-le-MAX_ARITY u ↦ absurd (false≢true (sym (lt-leb a.a.now.len 8 u.if-a-le-MAX_ARITY.false) ∙ sym u.value-is ∙ c.if-a-arity.true))
    ]

pub returns-else-a-arity : goal.returns-else-a-arity
returns-else-a-arity c =
    let a = c.args in
    let w = whole (goal.at.returns-else-a-arity c).Start in
    elim c.if-a-le-MAX_ARITY.branch [
      | then-a-le-MAX_ARITY u ↦
          let f : a.a.now.len ≡ a.arity → ⊥ = λ e. false≢true (sym c.if-a-arity.false ∙ u.value-is ∙ eq-eqb a.a.now.len a.arity e) in
          c.if-a-arity.false ∙ list_other a.q.now c.requires a.a.now a.arity w u.if-a-le-MAX_ARITY.true f
      | else-a-le-MAX_ARITY u ↦ c.if-a-arity.false ∙ list_long a.q.now c.requires a.a.now a.arity w u.if-a-le-MAX_ARITY.false
    ]

pub shared_ref_as_front-reached : goal.shared_ref_as_front-reached
shared_ref_as_front-reached c = (order_told c.args.q.now c.requires).few
