-- `check_listing` meets its contract: refused by the checks, or the verdict on the rows that there are.
use mathlib.Core.Path.{◌≡◌, sym, ◌∙◌}
use lib.ListN.{length}
use Rattle.query.specs.Limits.{max_atoms}
use Rattle.join_query.specs.Query.{join_number, Accepted}
use Rattle.join_query.proofs.Whole.{length_mapped}
use Rattle.plain_atoms.proofs.Windows.{any_window}
use Rattle.refusal.proofs.Numbers.{not_zero}
use Rattle.listing_check.proofs.Meeting.{many_inside}
use Rattle.listing_check.proofs.Checking.{checks_refused, checks_says}
use borrow.Author.Rules.{rules}
use Rattle.listing_check.proofs.check_listing.Goals as goal
use Rattle.listing_check.proofs.check_listing.Goals.{Start}

-- what the parameter's type says
whole : (s : Start) → length s.args.query.atoms ≡ max_atoms
whole s = search (length_mapped, rules)

-- where nothing is refused, the query is accepted
accepted : (s : Start) → join_number s.args.pool.now s.args.tables s.args.query (length s.args.listing.now) ≡ 0 → let a = s.args in Accepted a.pool.now a.tables a.query (length a.listing.now)
accepted s e = record { passed = e; whole = whole s }

pub returns-in-Err : goal.returns-in-Err
returns-in-Err c = let a = c.args in checks_refused a.pool.now a.tables a.query a.listing.now a.count c.number.result (c.number.ensures ∙ c.in-Err.ensures) (λ e. not_zero c.in-Err.refused (sym c.number.ensures ∙ e))

pub invariant_of-asked : goal.invariant_of-asked
invariant_of-asked c = record { passed = any_window (accepted (goal.at.invariant_of-asked c).Start (sym c.in_default.ensures)) }

pub verdict-requires : goal.verdict-requires
verdict-requires c =
    let a = c.args in
    rw c.how_many-rows.ensures (many_inside a.query.n (length a.listing.now) a.count)

pub returns : goal.returns
returns c =
    let a = c.args in
    checks_says a.pool.now a.tables a.query a.listing.now a.count c.in_default.ensures c.how_many-rows.ensures c.verdict.ensures
