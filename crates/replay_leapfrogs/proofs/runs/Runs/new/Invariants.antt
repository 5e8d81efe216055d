-- `runs::Runs::new` is safe: no run ends behind the pool.
use Rattle.std.proofs.Common.{◌≡◌, ◌≤◌, length}
use Rattle.replay_leapfrogs.proofs.runs.Runs.new.Given as goal

abbrev pub invariant-loop-j : goal.invariant-loop-j
invariant-loop-j l = (l.to ≤ length l.runs.pool) × (length l.runs.pool ≡ 64)
