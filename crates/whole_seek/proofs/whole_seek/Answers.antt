-- `whole_seek::whole_seek` meets its contract: one atom is sought, and from the next place the ring is ordered.
use native.Mathlib.Omega.{arith}
use Rattle.leapfrog_search.proofs.Runs.{ring_in, stands_at}
use Rattle.whole_seek.proofs.Ring.{seek_none, seek_ready, seek_ordered, seek_few, seek_found}
use Rattle.whole_seek.proofs.whole_seek.Goals as goal

pub seek_one-requires : goal.seek_one-requires
seek_one-requires c = let g = c.requires in record { on_key = (stands_at g.agreed.ready _ g.agreed.place, g.sized); tailed = g.tailed _ (ring_in g.agreed.ready _ g.agreed.place) }

pub returns-then-not-seek_one : goal.returns-then-not-seek_one
returns-then-not-seek_one c = seek_none c.requires c.seek_one.ensures c.if-not-seek_one.true

pub whole_search-s-requires : goal.whole_search-s-requires
whole_search-s-requires c =
    let g = c.requires in
    let h = c.seek_one in
    let e = c.if-not-seek_one.false in
    record { whole_ready = seek_ready g h.ensures e; ordered = (seek_ordered g h.ensures e c.after.ensures, c.after.ensures.to) }

pub overflow_add-result : goal.overflow_add-result
overflow_add-result c =
    let h = c.seek_one in
    omega (arith, seek_few c.requires h.ensures c.if-not-seek_one.false c.after.ensures c.whole_search-s.ensures, c.well_formed)

pub returns : goal.returns
returns c = let h = c.seek_one in seek_found c.requires h.ensures c.if-not-seek_one.false c.after.ensures c.whole_search-s.ensures
