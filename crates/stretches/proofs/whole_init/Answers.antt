-- `stretches::whole_init` meets its contract: the beginning over the pieces, and what goes on from it.
use Rattle.stretches.proofs.Calling.{init_paused, init_begun}
use Rattle.stretches.proofs.Pausing.{paused_lookable, settled_ran}
use Rattle.stretches.proofs.whole_init.Goals as goal

pub settled-requires : goal.settled-requires
settled-requires c = paused_lookable (init_paused c.requires.whole_ready c.requires.ascends c.leapfrog_init-s.ensures)

pub returns-then-settled : goal.returns-then-settled
returns-then-settled c =
    let i = c.leapfrog_init-s in
    init_begun c.requires.whole_ready c.requires.ascends i.ensures (settled_ran (init_paused c.requires.whole_ready c.requires.ascends i.ensures) (c.settled.ensures c.if-settled.true))

pub go_on-requires : goal.go_on-requires
go_on-requires c = init_paused c.requires.whole_ready c.requires.ascends c.leapfrog_init-s.ensures

pub returns : goal.returns
returns c = init_begun c.requires.whole_ready c.requires.ascends c.leapfrog_init-s.ensures c.go_on.ensures
