-- Of each exported call of this crate, any two outcomes that its contract allows on the same arguments are equal: what it answers, and every word lent to it to write.
-- `Post` is what the call's own `ensures` promises, of its arguments, its answer and its arguments as they are when it returns: no contract, no theorem.
use mathlib.Core.Path.{sym, ◌∙◌}
use contract.Lifetimes.{Lfts}
use Rattle.one_outcome.specs.Outcomes.{OneAnswer, OneOutcome}
use Rattle.leapfrog_triejoin.proofs.Determined as joins
use Rattle.plain_join.proofs.Determined as plain_joins
use Rattle.ducatbriar_joins.proofs.ducatbriar_join.Reads as join_reads
use Rattle.ducatbriar_joins.proofs.ducatbriar_plain_join.Reads as plain_join_reads
use Rattle.ducatbriar_joins.proofs.ducatbriar_check_listing.Reads as check_listing_reads

pub check_listing : (κs : Lfts 2) → OneAnswer (check_listing_reads.Post κs)
check_listing κs args r₁ r₂ e₁ e₂ p q = p.answer ∙ sym q.answer

-- the window
pub join : (κs : Lfts 2) → OneOutcome (join_reads.Post κs) (λ e. e.1.1.1.1.0.now)
join κs args r₁ r₂ e₁ e₂ p q = (joins.one_answer p q, joins.one_window p q)

pub plain_join : (κs : Lfts 2) → OneOutcome (plain_join_reads.Post κs) (λ e. e.1.1.1.0.now)
plain_join κs args r₁ r₂ e₁ e₂ p q = (plain_joins.one_answer p q, plain_joins.one_window p q)
