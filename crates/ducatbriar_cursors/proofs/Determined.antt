-- Of each exported call of this crate, any two outcomes that its contract allows on the same arguments are equal: what it answers, and every word lent to it to write.
-- `Post` is what the call's own `ensures` promises, of its arguments, its answer and its arguments as they are when it returns: no contract, no theorem.
use mathlib.Core.Path.{sym, ◌∙◌}
use contract.Lifetimes.{Lfts}
use Rattle.one_outcome.specs.Outcomes.{OneAnswer}
use Rattle.ducatbriar_cursors.proofs.ducatbriar_key.Reads as key_reads
use Rattle.ducatbriar_cursors.proofs.ducatbriar_next.Reads as next_reads
use Rattle.ducatbriar_cursors.proofs.ducatbriar_seek.Reads as seek_reads
use Rattle.ducatbriar_cursors.proofs.ducatbriar_at_end.Reads as at_end_reads
use Rattle.ducatbriar_cursors.proofs.ducatbriar_open.Reads as open_reads
use Rattle.ducatbriar_cursors.proofs.ducatbriar_up.Reads as up_reads
use Rattle.ducatbriar_cursors.proofs.ducatbriar_lookup.Reads as lookup_reads
use Rattle.ducatbriar_cursors.proofs.ducatbriar_laid_key.Reads as laid_key_reads
use Rattle.ducatbriar_cursors.proofs.ducatbriar_laid_next.Reads as laid_next_reads
use Rattle.ducatbriar_cursors.proofs.ducatbriar_laid_seek.Reads as laid_seek_reads
use Rattle.ducatbriar_cursors.proofs.ducatbriar_laid_at_end.Reads as laid_at_end_reads
use Rattle.ducatbriar_cursors.proofs.ducatbriar_laid_open.Reads as laid_open_reads
use Rattle.ducatbriar_cursors.proofs.ducatbriar_laid_up.Reads as laid_up_reads

pub key : (κs : Lfts 1) → OneAnswer (key_reads.Post κs)
key κs args r₁ r₂ e₁ e₂ p q = p ∙ sym q

pub next : (κs : Lfts 1) → OneAnswer (next_reads.Post κs)
next κs args r₁ r₂ e₁ e₂ p q = p ∙ sym q

pub seek : (κs : Lfts 1) → OneAnswer (seek_reads.Post κs)
seek κs args r₁ r₂ e₁ e₂ p q = p ∙ sym q

pub at_end : (κs : Lfts 1) → OneAnswer (at_end_reads.Post κs)
at_end κs args r₁ r₂ e₁ e₂ p q = p ∙ sym q

pub opened : (κs : Lfts 1) → OneAnswer (open_reads.Post κs)
opened κs args r₁ r₂ e₁ e₂ p q = p ∙ sym q

pub up : (κs : Lfts 1) → OneAnswer (up_reads.Post κs)
up κs args r₁ r₂ e₁ e₂ p q = p ∙ sym q

pub lookup : (κs : Lfts 2) → OneAnswer (lookup_reads.Post κs)
lookup κs args r₁ r₂ e₁ e₂ p q = p ∙ sym q

pub laid_key : (κs : Lfts 2) → OneAnswer (laid_key_reads.Post κs)
laid_key κs args r₁ r₂ e₁ e₂ p q = p ∙ sym q

pub laid_next : (κs : Lfts 2) → OneAnswer (laid_next_reads.Post κs)
laid_next κs args r₁ r₂ e₁ e₂ p q = p ∙ sym q

pub laid_seek : (κs : Lfts 2) → OneAnswer (laid_seek_reads.Post κs)
laid_seek κs args r₁ r₂ e₁ e₂ p q = p ∙ sym q

pub laid_at_end : (κs : Lfts 2) → OneAnswer (laid_at_end_reads.Post κs)
laid_at_end κs args r₁ r₂ e₁ e₂ p q = p ∙ sym q

pub laid_open : (κs : Lfts 2) → OneAnswer (laid_open_reads.Post κs)
laid_open κs args r₁ r₂ e₁ e₂ p q = p ∙ sym q

pub laid_up : (κs : Lfts 2) → OneAnswer (laid_up_reads.Post κs)
laid_up κs args r₁ r₂ e₁ e₂ p q = p ∙ sym q
