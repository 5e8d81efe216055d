-- `from_sorted::common_prefix_len` meets its contract. The loop's invariant: the rows agree on their first k words.
use Rattle.from_sorted.proofs.Shared.{Sharing}
use Rattle.from_sorted.proofs.common_prefix_len.Given as goal

abbrev pub invariant-loop-k : goal.invariant-loop-k
invariant-loop-k l = Sharing l.arity l.x l.y l.k
