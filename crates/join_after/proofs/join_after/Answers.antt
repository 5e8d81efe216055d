-- `join_after` meets its contract: refused by the checks, or the rows that it lists in the window, and the last of them handed back.
use Prim.Native.Nat.{ℕ, ◌*◌, ◌≤◌}
use mathlib.Core.Path.{◌≡◌, sym, subst, ap, ◌∙◌}
use mathlib.Core.Bool.{Bool}
use mathlib.Core.List.{List}
use lib.ListN.{length}
use Rattle.std.specs.Prelude.{Option}
use Rattle.relation.specs.Order.{pick}
use Rattle.query.specs.Limits.{max_atoms}
use Rattle.join_query.specs.Query.{Accepted}
use Rattle.join_query.proofs.Accepted.{sized}
use Rattle.join_query.proofs.Whole.{length_mapped}
use Rattle.refusal.proofs.Numbers.{not_zero}
use Rattle.join_window.specs.Window.{written}
use Rattle.join_window.proofs.Windows.{lent_back}
use Rattle.rows_after.specs.After.{padded, JoinsAfter}
use Rattle.last_row.specs.Last.{last_read}
use Rattle.join_after.specs.From.{given_row, listed_from}
use Rattle.join_after.proofs.Answer.{answers, refuses}
use borrow.Author.Rules.{rules}
use Rattle.join_after.proofs.join_after.Goals as goal
use Rattle.join_after.proofs.join_after.Goals.{In_default, After-list_after, Start, then-goes_on, else-goes_on, then-listed, else-listed}

-- what the parameter's type says
whole : (s : Start) → length s.args.query.atoms ≡ max_atoms
whole s = search (length_mapped, rules)

-- where nothing refuses, the query is accepted
accepted : (c : In_default) → let a = c.args in Accepted a.pool.now a.tables a.query (length a.window.now)
accepted c = record { passed = sym c.in_default.ensures; whole = whole c.before.before.before.before.before }

-- the row is given where the call goes on
given : (c : After-list_after) → c.if-goes_on.given ≡ given_row c.args.goes_on c.args.after
given c =
    let from = λ (b : Bool). given_row b c.args.after in
    elim c.if-goes_on.branch [ then-goes_on w ↦ w.given-is ∙ ap from (sym w.if-goes_on.true) | else-goes_on w ↦ w.given-is ∙ ap from (sym w.if-goes_on.false) ]

listed : (c : After-list_after) {words : List ℕ} → let w = c.list_after.new.window in let a = c.args in words ≡ w.words.now → written words w.rows w.full ≡ listed_from a.pool.now a.tables a.query (given_row a.goes_on a.after) a.window.now
listed c e =
    let a = c.args in
    lent_back c.list_after.new.window e
    (c.list_after.ensures.listed
    ∙ ap (listed_from a.pool.now a.tables a.query c.if-goes_on.given) c.new-listed.ensures.same_words.1
    ∙ ap (λ (o : Option (List ℕ)). listed_from a.pool.now a.tables a.query o a.window.now) (given c))

pub returns-in-Err : goal.returns-in-Err
returns-in-Err c =
    let a = c.args in
    refuses a.pool.now a.tables a.query a.goes_on a.after a.window.now c.number.result (c.number.ensures ∙ c.in-Err.ensures) (λ e. not_zero c.in-Err.refused (sym c.number.ensures ∙ e))

pub new-listed-requires : goal.new-listed-requires
new-listed-requires c = (sized (accepted (goal.at.new-listed-requires c).In_default)).few

pub list_after-requires : goal.list_after-requires
list_after-requires c =
    let a = c.args in
    let b = c.new-listed.ensures in
    record { accepted = subst (Accepted a.pool.now a.tables a.query) (ap length (sym b.same_words.1)) (accepted (goal.at.list_after-requires c).In_default); begun = b.begun }

-- the rows that it listed lie in the words that were lent, and the call answers them
module _ (c : After-list_after) {words : List ℕ} (e : words ≡ c.list_after.new.window.words.now) where
  inside : c.list_after.new.window.rows * c.args.query.n ≤ length words
  inside =
      let w = c.list_after.new.window in
      let n : w.n ≡ c.args.query.n = c.list_after.ensures.kept.rows_of ∙ c.new-listed.ensures.begun.rows_of in
      subst (λ (l : List ℕ). w.rows * c.args.query.n ≤ length l) (sym e) (subst (λ (m : ℕ). w.rows * m ≤ length w.words.now) n w.inside)

  answered : (y : let a = c.args in Accepted a.pool.now a.tables a.query (length a.window.now)) {number : ℕ} → number ≡ pick c.list_after.new.window.full 12 0 → {last : List ℕ} → last ≡ padded (last_read words c.args.query.n c.list_after.new.window.rows c.if-goes_on.given) → let a = c.args in JoinsAfter a.pool.now a.tables a.query a.goes_on a.after a.window.now (record { number = number; rows = c.list_after.new.window.rows; last = last }) words
  answered y n l =
      let a = c.args in
      answers a.window.now y a.after a.goes_on (listed c e) n (l ∙ ap (λ (o : Option (List ℕ)). padded (last_read words a.query.n c.list_after.new.window.rows o)) (given c))

pub last_row-requires : goal.last_row-requires
last_row-requires c =
    let y = accepted (goal.at.last_row-requires c).In_default in
    ((sized y).few, inside (goal.at.last_row-requires c).After-list_after (search (rules, c.new-listed.ensures.same_words.0, c.list_after.ensures.kept.same)))

pub returns : goal.returns
returns c =
    let number : c.if-listed.result ≡ pick c.list_after.new.window.full 12 0 =
    elim c.if-listed.branch [
      | then-listed w ↦ w.result-is ∙ w.number-then-listed.ensures ∙ ap (λ (f : Bool). pick f 12 0) (sym w.if-listed.true)
      | else-listed w ↦ w.result-is ∙ ap (λ (f : Bool). pick f 12 0) (sym w.if-listed.false)
    ] in
    answered (goal.at.returns c).After-list_after (search (rules, c.new-listed.ensures.same_words.0, c.list_after.ensures.kept.same)) (accepted (goal.at.returns c).In_default) number c.last_row.ensures
