-- The measures of `search`, how many variables are left and how many keys, and what its loop keeps: the keys left lead to its end (Walking.antt).
use Prim.Native.Nat.{◌≤◌, ◌<◌}
use lib.ListN.{length}
use Rattle.relation.specs.Rows.{cut}
use Rattle.join_query.specs.Query.{atoms_of}
use Rattle.plain.specs.Plain.{tried}
use Rattle.plain_join.proofs.Trying.{todo}
use Rattle.listing_check.proofs.Walking.{Walking}
use Rattle.listing_check.proofs.+search.Given as goal

abbrev pub decreases-search : goal.decreases-search
decreases-search l = l.left

abbrev pub invariant-loop-next : goal.invariant-loop-next
invariant-loop-next l = (s : 0 < l.left) × (h : l.left ≤ l.asked.query.now.n) × Walking l.asked.passed.accepted l.left s h l.initial.row (cut l.rows l.asked.query.now.n l.listing) l.initial.met l.next l.row l.met

-- how many keys are left
abbrev pub decreases-loop-next : goal.decreases-loop-next
decreases-loop-next l = length (todo (tried l.v l.initial.row (atoms_of l.asked.pool.now l.asked.tables.now l.asked.query.now)) l.next)
