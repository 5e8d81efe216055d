-- `plain_join` meets its contract: refused by the checks, or the listing in the window.
use mathlib.Core.Path.{◌≡◌, sym, ap, ◌∙◌}
use mathlib.Core.Bool.{Bool}
use mathlib.Core.List.{List}
use Prim.Native.Nat.{ℕ}
use lib.ListN.{length}
use Rattle.relation.specs.Order.{pick}
use Rattle.query.specs.Limits.{max_atoms}
use Rattle.join_query.specs.Query.{join_number, Accepted}
use Rattle.join_query.proofs.Whole.{length_mapped}
use Rattle.join_query.specs.Outcome.{listed}
use Rattle.join_query.proofs.Accepted.{sized}
use Rattle.plain_join.specs.Outcome.{PlainJoins}
use Rattle.join_window.proofs.Windows.{begun_open, lent_back}
use Rattle.refusal.proofs.Numbers.{not_zero}
use Rattle.plain_atoms.proofs.Windows.{any_window}
use Rattle.plain_join.proofs.Joining.{joined, joins_refused, joins_listed}
use borrow.Author.Rules.{rules}
use Rattle.plain_join.proofs.plain_join.Goals as goal
use Rattle.plain_join.proofs.plain_join.Goals.{Start, After-search}

-- what the parameter's type says
whole : (s : Start) → length s.args.query.atoms ≡ max_atoms
whole s = search (length_mapped, rules)

-- where nothing is refused, the query is accepted
accepted : (s : Start) → join_number s.args.pool.now s.args.tables s.args.query (length s.args.window.now) ≡ 0 → let a = s.args in Accepted a.pool.now a.tables a.query (length a.window.now)
accepted s e = record { passed = e; whole = whole s }

pub returns-in-Err : goal.returns-in-Err
returns-in-Err c =
    let a = c.args in
    joins_refused a.pool.now a.tables a.query a.window.now c.number-number.result (c.number-number.ensures ∙ c.in-Err.ensures) (λ e. not_zero c.in-Err.refused (sym c.number-number.ensures ∙ e))

pub new-out-requires : goal.new-out-requires
new-out-requires c = (sized (accepted (goal.at.new-out-requires c).Start (sym c.in_default.ensures))).few

pub search-requires-clause-ready : goal.search-requires-clause-ready
search-requires-clause-ready c = begun_open c.new-out.ensures.begun

pub invariant_of-asked : goal.invariant_of-asked
invariant_of-asked c = record { passed = any_window (accepted (goal.at.invariant_of-asked c).Start (sym c.in_default.ensures)) }

-- the rows found, in the words that were lent
answered : (c : After-search) (y : let a = c.args in Accepted a.pool.now a.tables a.query (length a.window.now)) {words : List ℕ} → words ≡ c.search.new.window.words.now → {number : ℕ} → number ≡ pick c.search.new.window.full 12 0 → let a = c.args in PlainJoins a.pool.now a.tables a.query a.window.now (record { number = number; rows = c.search.new.window.rows }) words
answered c y e n =
    let a = c.args in
    let b = c.new-out.ensures in
    joins_listed a.pool.now a.tables a.query a.window.now c.in_default.ensures (lent_back c.search.new.window e (joined y b.begun c.search.ensures.stands ∙ ap (listed a.pool.now a.tables a.query) b.same_words.1)) n

pub returns-then-out : goal.returns-then-out
returns-then-out c =
    let y = accepted (goal.at.returns-then-out c).Start (sym c.in_default.ensures) in
    answered (goal.at.returns-then-out c).After-search y (search (rules, c.new-out.ensures.same_words.0, c.search.ensures.kept.same)) (c.number-number-then-out.ensures ∙ ap (λ (f : Bool). pick f 12 0) (sym c.if-out.true))

pub returns-else-out : goal.returns-else-out
returns-else-out c =
    let y = accepted (goal.at.returns-else-out c).Start (sym c.in_default.ensures) in
    answered (goal.at.returns-else-out c).After-search y (search (rules, c.new-out.ensures.same_words.0, c.search.ensures.kept.same)) (ap (λ (f : Bool). pick f 12 0) (sym c.if-out.false))
