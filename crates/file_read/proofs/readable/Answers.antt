-- The goal of `readable` that the check leaves.
use mathlib.Core.Path.{sym, ◌∙◌}
use native.Mathlib.Omega.{arith}
use Rattle.file_read.proofs.Outcomes.{arity_checked}
use Rattle.file_read.proofs.readable.Goals as goal

pub lies_in-requires : goal.lies_in-requires
lies_in-requires c = (arity_checked c.args.bytes.now (λ i. omega (arith, c.type_inv.bytes i)) c.in-Some.ensures, sym c.capacity_ok.ensures ∙ c.if-not-capacity_ok.false)
