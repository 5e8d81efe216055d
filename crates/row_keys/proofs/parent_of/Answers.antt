-- `row_keys::parent_of` meets its contract: the part that is halved is the layer's list of intervals, which ascend.
use Prim.Native.Nat.{◌+◌}
use mathlib.Core.Path.{ap, ◌∙◌}
use native.Mathlib.Omega.{arith}
use lib.ListN.{length}
use Rattle.relation.specs.Layers.{Layer}
use Rattle.seek.specs.Seek.{halving}
use Rattle.seek.specs.declared.Probed.{Probed}
use Rattle.seek.proofs.Laws.{binary_leading}
use Rattle.column_trie.specs.Table.{layer_in, Undamaged}
use Rattle.column_trie.proofs.Layers.{Whole}
use Rattle.sound_table.proofs.Told.{intact}
use Rattle.row_path.proofs.Owners.{rises}
use Rattle.row_keys.proofs.Parents.{Parent, parent_is, layer_sound, keys_count}
use Rattle.row_keys.proofs.parent_of.Goals as goal
use Rattle.row_keys.proofs.parent_of.Goals.{After-halve, Start}

whole : (s : Start) → Whole s.args.rows.now.sound.table.now
whole s = s.args.rows.now.sound.whole

sound : (s : Start) → Undamaged s.args.rows.now.sound.pool.now s.args.rows.now.sound.table.now
sound s = intact s.args.rows.now

-- what the search counts
parent : (q : After-halve) → Parent (layer_in q.args.rows.now.sound.pool.now q.args.rows.now.sound.table.now q.args.d).intervals q.args.place q.halve.result.offset
parent q =
    let l = layer_in q.args.rows.now.sound.pool.now q.args.rows.now.sound.table.now q.args.d in
    let o = whole q.before.before.before in
    let u = sound q.before.before.before in
    let k = layer_sound o u q.args.d q.requires.0 in
    let e = ap (λ (x : Probed). x.offset) q.halve.ensures ∙ ap (λ (m : Layer). (halving m.intervals (q.args.place + 1) 0 (length m.intervals) 0).offset) q.layer.ensures in
    let p = parent_is k q.args.place (omega (arith, q.requires.1, keys_count o u q.args.d q.requires.0)) (halving l.intervals (q.args.place + 1) 0 (length l.intervals) 0).offset (binary_leading l.intervals (q.args.place + 1) (rises k)) in
    rw e p

pub overflow_add-place : goal.overflow_add-place
overflow_add-place c =
    let u = sound (goal.at.overflow_add-place c).Start in
    omega (arith, c.requires.1, (u.within c.args.d (omega (arith, c.requires.0, u.arity.1))).0, u.capacity.1)

pub overflow_sub-result : goal.overflow_sub-result
overflow_sub-result c = omega (arith, (parent (goal.at.overflow_sub-result c).After-halve).some)

pub returns : goal.returns
returns c = (parent (goal.at.returns c).After-halve).is
