-- The goals of `find_path` that the check leaves.
use Prim.Native.Nat.{◌<◌}
use mathlib.Core.Path.{◌≡◌, refl, sym, subst, ◌∙◌}
use mathlib.Core.Logic.{inl, inr}
use native.Mathlib.Omega.{arith}
use lib.ListN.{get_or}
use Rattle.relation.specs.Layers.{Layer}
use Rattle.relation.proofs.Layers.{ranked_at}
use Rattle.column_trie.specs.Table.{rows_in, layer_in, Undamaged}
use Rattle.column_trie.proofs.Layers.{Whole}
use Rattle.sound_table.proofs.Told.{intact}
use Rattle.column_trie.proofs.Stored.{in_pool}
use Rattle.column_trie.proofs.Tables.{Holds, holds}
use Rattle.column_trie.proofs.Words.{layer_is}
use Rattle.column_trie_path.specs.Place.{Grouped, KeyPlaceOf}
use Rattle.column_trie_path.proofs.Walks.{descending_start, walking_grouped, descending_next, walking_left, walking_end}
use Rattle.column_trie_path.proofs.find_path.Goals as goal
use Rattle.column_trie_path.proofs.find_path.Goals.{After-find_place-p, Start, else-p, then-p}

-- the table holds its rows
whole : (s : Start) → Whole s.args.rows.now.sound.table.now
whole s = s.args.rows.now.sound.whole

sound : (s : Start) → Undamaged s.args.rows.now.sound.pool.now s.args.rows.now.sound.table.now
sound s = intact s.args.rows.now

held : (s : Start) → Holds s.args.rows.now.sound.pool.now s.args.rows.now.sound.table.now (rows_in s.args.rows.now.sound.pool.now s.args.rows.now.sound.table.now)
held s = holds (whole s) (sound s)

-- the layer's words are the relation's
layer_words : (s : Start) (d : _) → d < s.args.rows.now.sound.table.now.arity → layer_in s.args.rows.now.sound.pool.now s.args.rows.now.sound.table.now d ≡ ranked_at d (rows_in s.args.rows.now.sound.pool.now s.args.rows.now.sound.table.now)
layer_words s d h = layer_is (whole s) (in_pool (sound s)) (held s) d h

-- what the search in a group found
place : (c : After-find_place-p) → layer_in c.args.rows.now.sound.pool.now c.args.rows.now.sound.table.now c.loop-d.d ≡ ranked_at c.loop-d.d (rows_in c.args.rows.now.sound.pool.now c.args.rows.now.sound.table.now)
    → KeyPlaceOf (ranked_at c.loop-d.d (rows_in c.args.rows.now.sound.pool.now c.args.rows.now.sound.table.now)) c.loop-d.i (get_or c.args.tuple.now c.loop-d.d 0) c.find_place-p.result
place c e = subst (λ (l : Layer). KeyPlaceOf l c.loop-d.i (get_or c.args.tuple.now c.loop-d.d 0) c.find_place-p.result) (c.layer.ensures ∙ e) c.find_place-p.ensures

pub loop-d-init : goal.loop-d-init
loop-d-init c = descending_start c.args.rows.now.sound.table.now.arity (rows_in c.args.rows.now.sound.pool.now c.args.rows.now.sound.table.now) c.args.tuple.now (omega (arith, (held (goal.at.loop-d-init c).Start).counted, c.requires.1))

pub bounds-tuple-d : goal.bounds-tuple-d
bounds-tuple-d c = omega (arith, c.requires.0)

pub find_place-p-requires : goal.find_place-p-requires
find_place-p-requires c =
    let d = c.loop-d.d in
    let h = c.loop-d-test.true in
    subst (λ (l : Layer). Grouped l c.loop-d.i) (sym (c.layer.ensures ∙ layer_words (goal.at.find_place-p-requires c).Start d h)) (walking_grouped (held (goal.at.find_place-p-requires c).Start).width c.requires.0 c.loop-d.invariant.walk h)

pub returns-in-Err : goal.returns-in-Err
returns-in-Err c =
    let v = c.loop-d.invariant in
    walking_left (held (goal.at.returns-in-Err c).Start).width c.requires.0 v.walk c.loop-d-test.true refl (place (goal.at.returns-in-Err c).After-find_place-p (layer_words (goal.at.returns-in-Err c).Start c.loop-d.d c.loop-d-test.true)) c.in-Err.is v.fork

pub loop-d-preserved : goal.loop-d-preserved
loop-d-preserved c =
    let v = c.loop-d.invariant in
    descending_next (held (goal.at.loop-d-preserved c).Start).width c.requires.0 v.walk c.loop-d-test.true refl (place (goal.at.loop-d-preserved c).After-find_place-p (layer_words (goal.at.loop-d-preserved c).Start c.loop-d.d c.loop-d-test.true)) c.in-Ok.is v.fork
    (elim c.if-p.branch [ then-p w ↦ inl (w.if-p.true, w.fork-is) | else-p w ↦ inr (w.if-p.false, w.fork-is) ])

pub returns : goal.returns
returns c = let v = c.loop-d.invariant in walking_end v.walk v.fork c.loop-d-test.false
