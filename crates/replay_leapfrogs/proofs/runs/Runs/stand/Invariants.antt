-- `runs::Runs::stand` meets its contract: each turn tests one run more.
use Rattle.std.proofs.Common.{ℕ, ◌<◌, get_or}
use Rattle.replay_leapfrogs.specs.Runs.{Run}
use Rattle.replay_leapfrogs.proofs.runs.Runs.stand.Given as goal

abbrev pub invariant-loop-j : goal.invariant-loop-j
invariant-loop-j l = (a : ℕ) → a < l.j → Run l.self.pool (get_or l.self.start a 0) (get_or l.self.end a 0)
