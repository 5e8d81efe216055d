-- `stretches::whole_search` meets its contract: the search over the pieces, and what goes on from it.
use Rattle.stretches.proofs.Calling.{search_paused, search_ran}
use Rattle.stretches.proofs.whole_search.Goals as goal

pub go_on-requires : goal.go_on-requires
go_on-requires c = search_paused c.requires.whole_ready c.requires.ordered.0 c.requires.ordered.1 c.leapfrog_search-s.ensures

pub returns : goal.returns
returns c = search_ran c.requires.whole_ready c.requires.ordered.0 c.requires.ordered.1 c.leapfrog_search-s.ensures c.go_on.ensures
