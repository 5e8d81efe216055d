-- Of the exported join a window at a time, any two outcomes that its contract allows on the same arguments are equal: what it answers, and every word lent to it to write.
-- `Post` is what the call's own `ensures` promises, of its arguments, its answer and its arguments as they are when it returns: no contract, no theorem.
use contract.Lifetimes.{Lfts}
use Rattle.one_outcome.specs.Outcomes.{OneOutcome}
use Rattle.rows_after.proofs.Determined as Joins-after
use Rattle.ducatbriar_windows.proofs.ducatbriar_join_after.Reads as join_after_reads

-- the window
pub join_after : (κs : Lfts 2) → OneOutcome (join_after_reads.Post κs) (λ e. e.1.1.1.1.1.1.0.now)
join_after κs args r₁ r₂ e₁ e₂ p q = (Joins-after.one_answer p q, Joins-after.one_window p q)
