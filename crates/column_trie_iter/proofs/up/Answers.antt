-- `column_trie_iter::up` meets its contract: a refusal, at the root, to the root, or by the owner in the layer above (Rises.antt).
use Prim.Native.Nat.{◌-◌, ◌<◌}
use mathlib.Core.Path.{◌≡◌, sym, ap, ◌∙◌}
use native.Mathlib.Omega.{arith}
use Rattle.relation.specs.Layers.{Layer}
use Rattle.column_trie.specs.Limits.{max_capacity}
use Rattle.column_trie.specs.Table.{layer_in}
use Rattle.column_trie_place.specs.Checks.{refusal}
use Rattle.column_trie_place.specs.Inside.{owner_of}
use Rattle.column_trie_place.proofs.Places.{unrefused}
use Rattle.column_trie_place.proofs.Rests.{not_refused}
use Rattle.column_trie_iter.specs.Cursor.{unrisen}
use Rattle.column_trie_iter.proofs.Rises.{unowned_stays, owned_rises, up_refused, up_root, up_top, up_below, owner_needs}
use Rattle.column_trie_iter.proofs.up.Goals as goal
use Rattle.column_trie_iter.proofs.up.Goals.{In_default}

-- the cursor is not refused
clear : (q : In_default) → refusal q.args.pool.now q.args.table q.args.iter ≡ 0
clear q = (not_refused q.in_default.is q.place_of.ensures).0

needs : (q : In_default) → 1 < q.args.iter.depth → (q.args.iter.depth - 2 < q.args.table.arity) × (q.args.iter.interval_i < max_capacity)
needs q h = owner_needs q.args.pool.now q.args.table q.args.iter (clear q) h

pub returns-in-Err : goal.returns-in-Err
returns-in-Err c = c.unrisen.ensures ∙ ap (unrisen c.args.iter) c.number.ensures ∙ up_refused c.args.pool.now c.args.table c.args.iter c.in-Err.is c.place_of.ensures

pub returns-then-iter-eq0 : goal.returns-then-iter-eq0
returns-then-iter-eq0 c =
    c.unrisen-then-iter-eq0.ensures ∙ up_root c.args.pool.now c.args.table c.args.iter (clear (goal.at.returns-then-iter-eq0 c).In_default) c.if-iter-eq0.true

pub returns-then-iter-eq1 : goal.returns-then-iter-eq1
returns-then-iter-eq1 c = up_top c.args.pool.now c.args.table c.args.iter (clear (goal.at.returns-then-iter-eq1 c).In_default) c.if-iter-eq1.true c.new.ensures

pub invariant_of-sound-clause-sound : goal.invariant_of-sound-clause-sound
invariant_of-sound-clause-sound c = (unrefused c.args.pool.now c.args.table c.args.iter (clear (goal.at.invariant_of-sound-clause-sound c).In_default)).0

pub layer-requires : goal.layer-requires
layer-requires c = (needs (goal.at.layer-requires c).In_default (omega (arith, c.if-iter-eq0.false, c.if-iter-eq1.false))).0

pub owner_of-requires : goal.owner_of-requires
owner_of-requires c = (needs (goal.at.owner_of-requires c).In_default (omega (arith, c.if-iter-eq0.false, c.if-iter-eq1.false))).1

pub returns-in-None : goal.returns-in-None
returns-in-None c =
    c.unrisen-in-None.ensures ∙ ap (unrisen c.args.iter) c.number-in-None.ensures ∙
    unowned_stays (layer_in c.args.pool.now c.args.table (c.args.iter.depth - 2)) c.args.iter (sym c.in-None.is ∙ c.owner_of.ensures ∙ ap (λ (l : Layer). owner_of l c.args.iter.interval_i) c.layer.ensures) ∙
    up_below c.args.pool.now c.args.table c.args.iter (clear (goal.at.returns-in-None c).In_default) (omega (arith, c.if-iter-eq0.false, c.if-iter-eq1.false))

pub returns-in-Some : goal.returns-in-Some
returns-in-Some c =
    owned_rises (layer_in c.args.pool.now c.args.table (c.args.iter.depth - 2)) c.args.iter (sym c.in-Some.is ∙ c.owner_of.ensures ∙ ap (λ (l : Layer). owner_of l c.args.iter.interval_i) c.layer.ensures) ∙
    up_below c.args.pool.now c.args.table c.args.iter (clear (goal.at.returns-in-Some c).In_default) (omega (arith, c.if-iter-eq0.false, c.if-iter-eq1.false))
