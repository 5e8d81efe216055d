-- `calls::later` is safe: where the last call found a key all stand on it, so the next may be asked.
use Rattle.leapfrog_search.specs.Leapfrog.{Ended}
use Rattle.replay_leapfrogs.proofs.calls.later.Given as goal

abbrev pub invariant-loop : goal.invariant-loop
invariant-loop l = Ended l.runs.pool l.at l.runs.end l.ring l.runs.k l.landed
