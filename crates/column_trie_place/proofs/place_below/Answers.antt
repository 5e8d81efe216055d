-- `column_trie_place::place_below` meets its contract: the tests stand in the sequence of the definition's (Places.antt), and the header puts the
-- layer into the pool.
use Prim.Native.Nat.{◌-◌, ◌≤◌}
use mathlib.Core.Path.{sym, ap, ◌∙◌}
use native.Mathlib.Omega.{arith}
use lib.ListN.{length}
use Rattle.relation.specs.Layers.{Layer}
use Rattle.column_trie.specs.Groups.{group_of}
use Rattle.column_trie.proofs.Header.{LayerFits, layer_fits, header_told}
use Rattle.column_trie_place.specs.Checks.{layer_of}
use Rattle.column_trie.proofs.Groups.{keys_long}
use Rattle.column_trie_place.proofs.Groups.{Lying, group_out, group_in}
use Rattle.column_trie_place.proofs.Places.{too_deep, no_group, too_far, stands_there, misplaced, well_placed}
use Rattle.column_trie_place.proofs.place_below.Goals as goal
use Rattle.column_trie_place.proofs.place_below.Goals.{In-Some}

-- the cursor's layer lies in the pool, and its group there
lying : (q : In-Some) → Lying (layer_of q.args.sound.now.pool.now q.args.sound.now.table.now q.args.iter) q.args.iter.interval_i q.in-Some.g
lying q = group_in (layer_of q.args.sound.now.pool.now q.args.sound.now.table.now q.args.iter) q.args.iter.interval_i (sym q.in-Some.is ∙ q.group_of.ensures ∙ ap (λ (l : Layer). group_of l q.args.iter.interval_i) q.layer.ensures)

fits : (q : In-Some) → LayerFits (length q.args.sound.now.pool.now) q.args.sound.now.table.now (q.args.iter.depth - 1)
fits q = layer_fits (header_told (length q.args.sound.now.pool.now) q.args.sound.now.table.now q.args.sound.now.sound) (omega (arith, q.if-sound-iter.false, q.requires))

-- the group ends within the words that the header gives its layer
ends : (q : In-Some) → q.in-Some.g.to ≤ q.args.sound.now.table.now.capacity
ends q = omega (arith, (lying q).inside, keys_long q.args.sound.now.pool.now (fits q), (fits q).keys)

pub returns-then-sound-iter : goal.returns-then-sound-iter
returns-then-sound-iter c = misplaced c.args.sound.now.pool.now c.args.sound.now.table.now c.args.iter (too_deep c.args.sound.now.pool.now c.args.sound.now.table.now c.args.iter c.if-sound-iter.true)

pub returns-in_default : goal.returns-in_default
returns-in_default c =
    misplaced c.args.sound.now.pool.now c.args.sound.now.table.now c.args.iter
    (no_group c.args.sound.now.pool.now c.args.sound.now.table.now c.args.iter
    (group_out (layer_of c.args.sound.now.pool.now c.args.sound.now.table.now c.args.iter) c.args.iter.interval_i (sym c.in_default.is ∙ c.group_of.ensures ∙ ap (λ (l : Layer). group_of l c.args.iter.interval_i) c.layer.ensures)))

pub overflow_sub-g : goal.overflow_sub-g
overflow_sub-g c = (lying (goal.at.overflow_sub-g c).In-Some).ordered

pub returns-then-g-iter : goal.returns-then-g-iter
returns-then-g-iter c =
    misplaced c.args.sound.now.pool.now c.args.sound.now.table.now c.args.iter
    (too_far c.args.sound.now.pool.now c.args.sound.now.table.now c.args.iter (omega (arith, (lying (goal.at.returns-then-g-iter c).In-Some).long, c.if-g-iter.true)))

pub overflow_add-result : goal.overflow_add-result
overflow_add-result c = omega (arith, fits (goal.at.overflow_add-result c).In-Some, ends (goal.at.overflow_add-result c).In-Some, (lying (goal.at.overflow_add-result c).In-Some).ordered, c.if-g-iter.false, c.layer_at-layer.ensures)

pub overflow_add-result-2 : goal.overflow_add-result-2
overflow_add-result-2 c = omega (arith, fits (goal.at.overflow_add-result-2 c).In-Some, ends (goal.at.overflow_add-result-2 c).In-Some, c.layer_at-layer.ensures)

pub returns : goal.returns
returns c =
    let y = lying (goal.at.returns c).In-Some in
    well_placed c.args.sound.now.pool.now c.args.sound.now.table.now c.args.iter
    (stands_there c.args.sound.now.pool.now c.args.sound.now.table.now c.args.iter c.if-sound-iter.false y.lies (omega (arith, y.long, c.if-g-iter.false)))
    y
    c.layer_at-layer.ensures
