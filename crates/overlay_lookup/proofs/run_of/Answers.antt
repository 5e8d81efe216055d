-- `overlay_lookup::run_of` meets its contract: the run lies in the pool that `lookup` names.
use Prim.Native.Nat.{ℕ, ◌+◌, ◌*◌, ◌≤◌, ◌<◌, ◌^◌}
use mathlib.Core.Path.{◌≡◌, sym, ap, ◌∙◌}
use mathlib.Core.Bool.{Bool}
use mathlib.Core.List.{List}
use native.Mathlib.Omega.{arith}
use denote.Bor.{Bor}
use lib.ListN.{length}
use Rattle.relation.specs.Order.{pick}
use Rattle.overlay_lookup.proofs.Runs.{run_is, run_inside}
use Rattle.overlay_lookup.proofs.run_of.Goals as goal
use Rattle.overlay_lookup.proofs.run_of.Goals.{Joined-r, then-r, else-r}

-- the pool is that of the table that owns the key; the run lies in it, and its bytes are no more than memory has
owners : (q : Joined-r) → let a = q.args in q.if-r.pool.now ≡ pick q.lookup-r.result.from_school a.school_pool.now a.maker_pool.now
owners q =
    let a = q.args in
    elim q.if-r.branch [
      | then-r w ↦ ap (λ (x : Bor (List ℕ)). x.now) w.pool-is ∙ sym (ap (λ (b : Bool). pick b a.school_pool.now a.maker_pool.now) w.if-r.true)
      | else-r w ↦ ap (λ (x : Bor (List ℕ)). x.now) w.pool-is ∙ sym (ap (λ (b : Bool). pick b a.school_pool.now a.maker_pool.now) w.if-r.false)
    ]

inside : (q : Joined-r) → q.lookup-r.result.from + q.lookup-r.result.len ≤ length q.if-r.pool.now
inside q = let a = q.args in run_inside a.school_pool.now a.school a.maker_pool.now a.maker a.key q.lookup-r.ensures (owners q)

fits : (q : Joined-r) → (q.lookup-r.result.from + q.lookup-r.result.len) * 8 < 2 ^ 64
fits q =
    elim q.if-r.branch [
      | then-r w ↦ omega (arith, inside q, ap (λ (x : Bor (List ℕ)). length x.now) w.pool-is, q.well_formed)
      | else-r w ↦ omega (arith, inside q, ap (λ (x : Bor (List ℕ)). length x.now) w.pool-is, q.well_formed)
    ]

pub overflow_add-end : goal.overflow_add-end
overflow_add-end c = omega (arith, fits (goal.at.overflow_add-end c).Joined-r)

pub offset_bounds-pool-r : goal.offset_bounds-pool-r
offset_bounds-pool-r c = omega (arith, fits (goal.at.offset_bounds-pool-r c).Joined-r)

pub slice_bounds-result-end : goal.slice_bounds-result-end
slice_bounds-result-end c = omega (arith, inside (goal.at.slice_bounds-result-end c).Joined-r)

pub returns : goal.returns
returns c =
    let a = c.args in
    run_is a.school_pool.now a.school a.maker_pool.now a.maker a.key c.lookup-r.ensures (owners (goal.at.returns c).Joined-r)
