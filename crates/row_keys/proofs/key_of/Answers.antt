-- The goals of `key_of` that the check leaves.
use Prim.Native.Nat.{ℕ, ◌+◌, ◌-◌}
use mathlib.Core.Path.{◌≡◌, refl, ap, ◌∙◌}
use native.Mathlib.Omega.{arith}
use lib.ListN.{length, get_or}
use Rattle.column_trie.specs.Table.{Undamaged}
use Rattle.column_trie.proofs.Header.{LayerFits, layer_fits}
use Rattle.column_trie.proofs.Layers.{Whole}
use Rattle.sound_table.proofs.Told.{intact}
use Rattle.column_trie.proofs.Stored.{in_pool}
use Rattle.row_path.proofs.Keys.{KeyAt}
use Rattle.row_keys.proofs.Parents.{climbing_start, climbing_on, climbing_at}
use Rattle.row_keys.proofs.key_of.Goals as goal
use Rattle.row_keys.proofs.key_of.Goals.{After-loop-e, Start}

whole : (s : Start) → Whole s.args.rows.now.sound.table.now
whole s = s.args.rows.now.sound.whole

sound : (s : Start) → Undamaged s.args.rows.now.sound.pool.now s.args.rows.now.sound.table.now
sound s = intact s.args.rows.now

fits : (s : Start) → LayerFits (length s.args.rows.now.sound.pool.now) s.args.rows.now.sound.table.now s.args.d
fits s = layer_fits (in_pool (sound s)) s.requires.1

-- the key where the loop ends
found : (c : After-loop-e) → KeyAt c.args.rows.now.sound.pool.now c.args.rows.now.sound.table.now c.args.i c.args.d c.loop-e.place
found c =
    let l = c.loop-e in
    let e : l.e - 1 ≡ c.args.d = omega (arith, l.invariant.low, c.loop-e-test.false) in
    rw e at (climbing_at (whole c.before.before) (sound c.before.before) l.invariant c.requires.0)

pub loop-e-init : goal.loop-e-init
loop-e-init c = climbing_start (whole (goal.at.loop-e-init c).Start) (sound (goal.at.loop-e-init c).Start) c.args.i c.args.d (c.args.rows.now.sound.table.now.arity - 1) c.requires.1 refl

pub parent_of-place-requires : goal.parent_of-place-requires
parent_of-place-requires c =
    let l = c.loop-e in
    (l.invariant.high, (climbing_at (whole (goal.at.parent_of-place-requires c).Start) (sound (goal.at.parent_of-place-requires c).Start) l.invariant c.requires.0).inside)

pub loop-e-preserved : goal.loop-e-preserved
loop-e-preserved c =
    climbing_on (whole (goal.at.loop-e-preserved c).Start) (sound (goal.at.loop-e-preserved c).Start) c.loop-e.invariant (omega (arith, c.loop-e-test.true)) c.parent_of-place.ensures

pub layer_at-at-requires : goal.layer_at-at-requires
layer_at-at-requires c =
    let f = fits (goal.at.layer_at-at-requires c).Start in
    (omega (arith, f.low), f.small, f.depth)

pub overflow_add-result : goal.overflow_add-result
overflow_add-result c =
    omega (arith, c.layer_at-at.ensures, (found (goal.at.overflow_add-result c).After-loop-e).inside, (fits (goal.at.overflow_add-result c).Start).inside, (fits (goal.at.overflow_add-result c).Start).keys)

pub offset_bounds-rows-at : goal.offset_bounds-rows-at
offset_bounds-rows-at c =
    omega (arith, c.layer_at-at.ensures, (found (goal.at.offset_bounds-rows-at c).After-loop-e).inside, (fits (goal.at.offset_bounds-rows-at c).Start).inside, (fits (goal.at.offset_bounds-rows-at c).Start).keys)

pub bounds-rows-at : goal.bounds-rows-at
bounds-rows-at c =
    omega (arith, c.layer_at-at.ensures, (found (goal.at.bounds-rows-at c).After-loop-e).inside, (fits (goal.at.bounds-rows-at c).Start).inside, (fits (goal.at.bounds-rows-at c).Start).keys)

pub returns : goal.returns
returns c =
    let l = c.loop-e in
    ap (λ (n : ℕ). get_or c.args.rows.now.sound.pool.now (n + l.place) 0) c.layer_at-at.ensures ∙ (found (goal.at.returns c).After-loop-e).word
