-- What one search is proved to do, said once more in the minutes' words, from the call's own contract.
use Prim.Native.Nat.{ℕ, ◌≤◌}
use mathlib.Core.List.{List}
use contract.Lifetimes.{Lfts}
use denote.Ref.{Bor}
use denote.MutBor.{MutBor}
use Rattle.query.specs.Meet.{total}
use Rattle.seek.specs.declared.SeekStrategy.{SeekStrategy}
use Rattle.leapfrog_search.specs.Leapfrog.{runs_in}
use Rattle.leapfrog_search.specs.declared.Searched.{Searched}
use Rattle.leapfrog_join.proofs.Laws.{search_few}
use Rattle.leapfrog_search.proofs.leapfrog_search.Reads.{Pre, Post}

-- "one search makes no more seeks than the keys not yet passed in its runs when it starts": of every call of `leapfrog_search` that meets what it asks,
-- whatever its contract promises. `Pre` is what it asks of the arguments, `Post` what it promises of them, the answer and the arguments when it returns
module _ (κs : Lfts 4) (pool : Bor (List ℕ)) (at : MutBor (List ℕ)) (end ring : Bor (List ℕ)) (k start : ℕ) (strategy : SeekStrategy) (r : Searched) (e : Bor (List ℕ) × (MutBor (List ℕ) × (Bor (List ℕ) × (Bor (List ℕ) × (ℕ × (ℕ × (SeekStrategy × Unit {0}))))))) where
  pub one_search_makes_no_more_seeks_than_keys_not_yet_passed : Pre κs (pool, (at, (end, (ring, (k, (start, (strategy, tt))))))) → Post κs (pool, (at, (end, (ring, (k, (start, (strategy, tt))))))) r e → r.seeks ≤ total (runs_in pool.now at.now end.now ring.now k)
  one_search_makes_no_more_seeks_than_keys_not_yet_passed a b = search_few a.0 a.1.0 a.1.1 b
