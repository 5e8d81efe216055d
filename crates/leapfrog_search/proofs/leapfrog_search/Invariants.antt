-- `leapfrog_search` meets its contract. The loop keeps `Going`, that the definition from here comes to the same; the measure is the number of keys not yet passed, which falls at each seek.
use Rattle.query.specs.Meet.{total}
use Rattle.leapfrog_search.specs.Leapfrog.{runs_in}
use Rattle.leapfrog_search.proofs.Going.{Going}
use Rattle.leapfrog_search.proofs.leapfrog_search.Given as goal

abbrev pub invariant-loop-most : goal.invariant-loop-most
invariant-loop-most l = Going l.pool l.initial.at l.end l.ring l.k l.start l.at l.p l.most l.seeks

abbrev pub decreases-loop-most : goal.decreases-loop-most
decreases-loop-most l = total (runs_in l.pool l.at l.end l.ring l.k)
