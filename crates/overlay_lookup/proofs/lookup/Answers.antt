-- The goals of `lookup` that the check leaves: where no number is given both tables are searched below their first column.
use mathlib.Core.Path.{sym}
use Rattle.overlay_lookup.proofs.Runs.{Deep, number_deep, school_searched, maker_searched}
use Rattle.overlay_lookup.proofs.lookup.Goals as goal
use Rattle.overlay_lookup.proofs.lookup.Goals.{In_default}

-- both are undamaged, and of more columns than one
deep : (q : In_default) → Deep q.args.school_pool.now q.args.school q.args.maker_pool.now q.args.maker
deep q = let a = q.args in number_deep a.school_pool.now a.school a.maker_pool.now a.maker (sym q.in_default.ensures)

pub invariant_of-schools-clause-sound : goal.invariant_of-schools-clause-sound
invariant_of-schools-clause-sound c =
    let a = c.args in
    (school_searched a.school_pool.now a.school a.maker_pool.now a.maker (deep (goal.at.invariant_of-schools-clause-sound c).In_default)).0

pub found_in-requires : goal.found_in-requires
found_in-requires c = (deep (goal.at.found_in-requires c).In_default).arity

pub invariant_of-makers-clause-sound : goal.invariant_of-makers-clause-sound
invariant_of-makers-clause-sound c =
    let a = c.args in
    (maker_searched a.school_pool.now a.school a.maker_pool.now a.maker (deep (goal.at.invariant_of-makers-clause-sound c).In_default)).0

pub found_in-requires-2 : goal.found_in-requires-2
found_in-requires-2 c =
    let a = c.args in
    (maker_searched a.school_pool.now a.school a.maker_pool.now a.maker (deep (goal.at.found_in-requires-2 c).In_default)).1
