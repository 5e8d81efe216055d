-- The goals of `append_row` that the check leaves.
use mathlib.Core.Path.{◌≡◌}
use mathlib.Core.List.{List, [], ◌∷◌, ◌++◌}
use native.Mathlib.Omega.{arith}
use lib.ListN.{length, take, get_or, length-take}
use lib.Seq.{get_or-take}
use Rattle.relation.specs.Order.{Row}
use Rattle.relation.specs.Layers.{layers_of}
use Rattle.from_sorted.specs.Push.{Pushing}
use Rattle.from_sorted.proofs.Columns.{Ready, layer_fits, turn_interval, ready_only, ready_under, turn_key, turn_done, held_start, held_end}
use Rattle.from_sorted.proofs.Turns.{setting}
use Rattle.from_sorted.proofs.Lengths.append_row.Goals as goal
use Rattle.from_sorted.proofs.Lengths.append_row.Goals.{Joined-opens-d, else-opens-d, then-opens-d}

-- past the branch the column's interval is open, if it is to be
module _ (j : Joined-opens-d) (old : List Row) (p : Pushing (length j.args.pool.now) j.args.t j.args.self.now.data j.args.self.now.intervals old (take j.args.t.arity j.args.row.now) j.args.from j.args.opens) where
  ready : Ready j.args.t j.args.pool.now (layers_of j.args.t.arity old) (layers_of j.args.t.arity (old ++ (take j.args.t.arity j.args.row.now ∷ []))) j.loop-d.d (get_or (take j.args.t.arity j.args.row.now) j.loop-d.d 0) j.if-opens-d.pool j.if-opens-d.self.data j.if-opens-d.self.intervals
  ready =
      let g = setting p in
      let v = j.loop-d.invariant in
      let h = j.loop-d-test.true in
      elim j.if-opens-d.branch [ then-opens-d x ↦ rw (x.pool-is, x.self-is) (ready_under g (v.2 old p) h (omega (arith, x.if-opens-d.true)) (rw (← j.layer_at-at.ensures) x.append.ensures)) | else-opens-d x ↦ rw (x.pool-is, x.self-is) (ready_only g (v.2 old p) h v.0 (omega (arith, x.if-opens-d.false))) ]

pub loop-d-init : goal.loop-d-init
loop-d-init c =
    (omega arith, omega (arith, c.requires.1.turn.inside), λ old p. held_start (setting p) p.keys p.intervals)

pub overflow_add-at : goal.overflow_add-at
overflow_add-at c =
    let l = c.loop-d in
    let h = c.loop-d-test.true in
    let v = l.invariant.2 c.requires.0 c.requires.1 in
    omega (arith, c.layer_at-at.ensures, layer_fits (setting c.requires.1) v h, v.long, c.well_formed)

pub append-requires : goal.append-requires
append-requires c =
    let l = c.loop-d in
    let g = setting c.requires.1 in
    let h = c.loop-d-test.true in
    let v = l.invariant.2 c.requires.0 c.requires.1 in
    (omega (arith, c.requires.1.few, h), omega (arith, c.layer_at-at.ensures, turn_interval g v h, layer_fits g v h))

pub bounds-row-d : goal.bounds-row-d
bounds-row-d c = omega (arith, c.requires.1.wide, length-take c.args.t.arity c.args.row.now, c.loop-d-test.true)

pub append-requires-in-loop-d : goal.append-requires-in-loop-d
append-requires-in-loop-d c =
    let g = setting c.requires.1 in
    let h = c.loop-d-test.true in
    let r = ready (goal.at.append-requires-in-loop-d c).Joined-opens-d c.requires.0 c.requires.1 in
    (omega (arith, c.requires.1.few, h), omega (arith, c.layer_at-at.ensures, turn_key g r h, layer_fits g r.held h))

pub loop-d-preserved : goal.loop-d-preserved
loop-d-preserved c =
    let h = c.loop-d-test.true in
    let d = c.loop-d.d in
    let x : get_or (take c.args.t.arity c.args.row.now) d 0 ≡ get_or c.args.row.now d 0 = get_or-take c.args.t.arity c.args.row.now d 0 h in
    (omega arith, omega arith, λ old p. turn_done (setting p) (ready (goal.at.loop-d-preserved c).Joined-opens-d old p) h (rw (x, ← c.layer_at-at.ensures) c.append-in-loop-d.ensures))

pub returns : goal.returns
returns c =
    λ old p.
    let l = c.loop-d in
    let e = held_end (setting p) l.d c.loop-d-test.false l.invariant.1 (l.invariant.2 old p) in
    record { keys = e.keys; intervals = e.intervals; words = e.words }
