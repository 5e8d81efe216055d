-- `open_all` meets its contract: the atoms passed are opened.
use Rattle.join_openings.specs.Openings.{Opens}
use Rattle.join_openings.proofs.open_all.Given as goal

abbrev pub invariant-loop-j : goal.invariant-loop-j
invariant-loop-j l = Opens l.join.leap.pool.now l.join.plan.now l.join.leap.ends.now l.depth l.j l.initial.state l.state l.ring l.by_atom
