-- The measures of `search`, how many variables are left and how many keys, and what its loop keeps: the keys left lead to its end (Trying.antt).
use Prim.Native.Nat.{◌≤◌, ◌<◌}
use lib.ListN.{length}
use Rattle.join_query.specs.Query.{atoms_of}
use Rattle.plain.specs.Plain.{tried}
use Rattle.plain_join.proofs.Trying.{todo, Trying}
use Rattle.plain_join.proofs.+search.Given as goal

abbrev pub decreases-search : goal.decreases-search
decreases-search l = l.left

abbrev pub invariant-loop-next : goal.invariant-loop-next
invariant-loop-next l = (s : 0 < l.left) × (h : l.left ≤ l.asked.query.now.n) × Trying l.asked.passed.accepted l.left s h l.initial.found l.initial.window l.window l.found l.next

-- how many keys are left
abbrev pub decreases-loop-next : goal.decreases-loop-next
decreases-loop-next l = length (todo (tried l.v l.initial.found (atoms_of l.asked.pool.now l.asked.tables.now l.asked.query.now)) l.next)
