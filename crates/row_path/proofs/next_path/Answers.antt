-- The goals of `next_path` that the check leaves.
use Prim.Native.Nat.{ℕ, ◌+◌, ◌-◌, ◌<◌}
use mathlib.Core.Path.{◌≡◌}
use native.Mathlib.Omega.{arith}
use lib.ListN.{length, get_or}
use Rattle.relation.specs.Layers.{Layer, layer}
use Rattle.column_trie.specs.Table.{layers_in, layer_in, Undamaged}
use Rattle.column_trie.proofs.Layers.{Whole}
use Rattle.sound_table.proofs.Told.{intact}
use Rattle.row_path.proofs.Moves.{Hangs, hangs, moved_last, moved_all, moved_on, moved_not, parent_listed, begins_is}
use Rattle.row_path.proofs.next_path.Goals as goal
use Rattle.row_path.proofs.next_path.Goals.{Start}

whole : (s : Start) → Whole s.args.rows.now.sound.table.now
whole s = s.args.rows.now.sound.whole

sound : (s : Start) → Undamaged s.args.rows.now.sound.pool.now s.args.rows.now.sound.table.now
sound s = intact s.args.rows.now

layers : (s : Start) → Hangs s.args.rows.now.sound.pool.now s.args.rows.now.sound.table.now
layers s = hangs (whole s) (sound s)

starts : (s : Start) (d : ℕ) → d < s.args.rows.now.sound.table.now.arity → (k : ℕ) {l : Layer} → l ≡ layer_in s.args.rows.now.sound.pool.now s.args.rows.now.sound.table.now d → {from : ℕ} → from ≡ get_or l.intervals k (length l.keys) →
    from ≡ get_or (layer (layers_in s.args.rows.now.sound.pool.now s.args.rows.now.sound.table.now) d).intervals k (length (layer (layers_in s.args.rows.now.sound.pool.now s.args.rows.now.sound.table.now) d).keys)
starts s d h k e f = begins_is s.args.rows.now.sound.pool.now (whole s) (sound s).arity.1 d k h e f

pub overflow_sub-path : goal.overflow_sub-path
overflow_sub-path c = omega (arith, (sound (goal.at.overflow_sub-path c).Start).arity.0)

pub bounds-path-arity : goal.bounds-path-arity
bounds-path-arity c = omega (arith, (sound (goal.at.bounds-path-arity c).Start).arity.1)

pub offset_bounds-path-arity : goal.offset_bounds-path-arity
offset_bounds-path-arity c = omega (arith, (sound (goal.at.offset_bounds-path-arity c).Start).arity.1)

pub loop-d-init : goal.loop-d-init
loop-d-init c =
    let u = sound (goal.at.loop-d-init c).Start in
    let h = layers (goal.at.loop-d-init c).Start in
    moved_last (layers_in c.args.rows.now.sound.pool.now c.args.rows.now.sound.table.now) c.args.i c.args.path.now (c.args.rows.now.sound.table.now.arity - 1) (omega (arith, u.arity.0, h.long)) (omega (arith, u.arity.1, h.long)) c.requires.1

pub overflow_add-next : goal.overflow_add-next
overflow_add-next c =
    let h = layers (goal.at.overflow_add-next c).Start in
    let p = parent_listed h.chain (omega (arith, c.requires.0, h.counted)) c.loop-d.invariant (omega (arith, c.loop-d-test.true)) in
    omega (arith, p, ((sound (goal.at.overflow_add-next c).Start).layers.room (c.loop-d.d - 1) (omega (arith, c.loop-d.invariant.depth, h.long))).1, (sound (goal.at.overflow_add-next c).Start).capacity.1)

pub layer-requires : goal.layer-requires
layer-requires c =
    omega (arith, c.loop-d.invariant.depth, (layers (goal.at.layer-requires c).Start).long)

pub loop-d-preserved-then-from-path : goal.loop-d-preserved-then-from-path
loop-d-preserved-then-from-path c =
    let h = layers (goal.at.loop-d-preserved-then-from-path c).Start in
    let f = starts (goal.at.loop-d-preserved-then-from-path c).Start (c.loop-d.d - 1) (omega (arith, c.loop-d.invariant.depth, h.long)) (get_or c.loop-d.path ((c.loop-d.d - 1) - 1) 0 + 1) c.layer.ensures c.begins-from.ensures in
    moved_on h.chain (omega (arith, c.requires.0, h.counted)) c.loop-d.invariant (omega (arith, c.loop-d-test.true)) f (omega (arith, c.if-from-path.true))

pub loop-d-preserved : goal.loop-d-preserved
loop-d-preserved c =
    let h = layers (goal.at.loop-d-preserved c).Start in
    let f = starts (goal.at.loop-d-preserved c).Start (c.loop-d.d - 1) (omega (arith, c.loop-d.invariant.depth, h.long)) (get_or c.loop-d.path ((c.loop-d.d - 1) - 1) 0 + 1) c.layer.ensures c.begins-from.ensures in
    moved_not h.chain (omega (arith, c.requires.0, h.counted)) c.loop-d.invariant (omega (arith, c.loop-d-test.true)) f (omega (arith, c.if-from-path.false))

pub returns : goal.returns
returns c = moved_all c.loop-d.invariant (omega (arith, c.loop-d-test.false))
