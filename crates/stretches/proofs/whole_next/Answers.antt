-- `stretches::whole_next` meets its contract: the step over the pieces, and what goes on from it.
use Rattle.stretches.proofs.Calling.{next_paused, next_ran}
use Rattle.stretches.proofs.Pausing.{paused_lookable, settled_ran}
use Rattle.stretches.proofs.whole_next.Goals as goal

pub settled-requires : goal.settled-requires
settled-requires c = paused_lookable (next_paused c.requires c.leapfrog_next-s.ensures)

pub returns-then-settled : goal.returns-then-settled
returns-then-settled c =
    let n = c.leapfrog_next-s in
    next_ran c.requires n.ensures (settled_ran (next_paused c.requires n.ensures) (c.settled.ensures c.if-settled.true))

pub go_on-requires : goal.go_on-requires
go_on-requires c = next_paused c.requires c.leapfrog_next-s.ensures

pub returns : goal.returns
returns c = next_ran c.requires c.leapfrog_next-s.ensures c.go_on.ensures
