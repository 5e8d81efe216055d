-- `overlay_lookup::found_in` meets its contract: the group is that of the place where the key is found among the first keys.
use Prim.Native.Nat.{ℕ}
use mathlib.Core.Path.{◌≡◌, sym, ap, ◌∙◌}
use mathlib.Core.List.{List}
use Rattle.std.specs.Prelude.{Option, Some}
use native.Mathlib.Omega.{arith}
use lib.ListN.{length}
use borrow.Author.Tests.{not-true, not-false}
use Rattle.seek.specs.Seek.{seek_of}
use Rattle.seek.specs.declared.SeekStrategy.TheVariants.{Binary}
use Rattle.seek.specs.declared.Sought.{Sought}
use Rattle.relation.specs.Layers.{Layer}
use Rattle.column_trie.specs.Groups.{group_of}
use Rattle.column_trie.specs.Table.{layer_in}
use Rattle.column_trie.proofs.Header.{LayerFits, layer_fits, header_told}
use Rattle.column_trie.proofs.Groups.{keys_long}
use Rattle.column_trie_place.proofs.Groups.{Lying, group_in, group_out}
use Rattle.overlay_lookup.proofs.Runs.{found_missed, found_outside, found_there}
use Rattle.overlay_lookup.proofs.found_in.Goals as goal
use Rattle.column_trie.specs.declared.ColumnTrie.{ColumnTrie}
use Rattle.column_trie.specs.declared.Group.{Group}
use Rattle.overlay_lookup.proofs.found_in.Goals.{After-partition_point-s, Start}

-- the first two layers lie in the pool
told : (s : Start) → LayerFits (length s.args.sound.now.pool.now) s.args.sound.now.table.now 0
told s = layer_fits (header_told (length s.args.sound.now.pool.now) s.args.sound.now.table.now s.args.sound.now.sound) (omega (arith, s.requires))

told_below : (s : Start) → LayerFits (length s.args.sound.now.pool.now) s.args.sound.now.table.now 1
told_below s = layer_fits (header_told (length s.args.sound.now.pool.now) s.args.sound.now.table.now s.args.sound.now.sound) s.requires

abbrev sought : List ℕ → ColumnTrie → ℕ → Sought
sought pool table key = seek_of Binary (layer_in pool table 0).keys key

-- the code's search is the definition's
searched : (q : After-partition_point-s) → q.partition_point-s.result ≡ sought q.args.sound.now.pool.now q.args.sound.now.table.now q.args.key
searched q =
    q.partition_point-s.ensures ∙ ap (λ (l : List ℕ). seek_of Binary l q.args.key) (ap (λ (l : Layer). l.keys) q.layer.ensures)

-- the group is that of the place where the key is found
grouped : (q : After-partition_point-s) {l : Layer} → l ≡ layer_in q.args.sound.now.pool.now q.args.sound.now.table.now 1 → {x : Option Group} → x ≡ group_of l q.partition_point-s.result.offset → x ≡ group_of (layer_in q.args.sound.now.pool.now q.args.sound.now.table.now 1) (sought q.args.sound.now.pool.now q.args.sound.now.table.now q.args.key).offset
grouped q f e = e ∙ ap (λ (l : Layer). group_of l q.partition_point-s.result.offset) f ∙ ap (λ (x : Sought). group_of (layer_in q.args.sound.now.pool.now q.args.sound.now.table.now 1) x.offset) (searched q)

lying : (q : After-partition_point-s) {l : Layer} → l ≡ layer_in q.args.sound.now.pool.now q.args.sound.now.table.now 1 → {g : Group} → Some g ≡ group_of l q.partition_point-s.result.offset → Lying (layer_in q.args.sound.now.pool.now q.args.sound.now.table.now 1) (sought q.args.sound.now.pool.now q.args.sound.now.table.now q.args.key).offset g
lying q f e = group_in (layer_in q.args.sound.now.pool.now q.args.sound.now.table.now 1) (sought q.args.sound.now.pool.now q.args.sound.now.table.now q.args.key).offset (grouped q f e)

pub returns-then-not-s : goal.returns-then-not-s
returns-then-not-s c =
    found_missed c.args.sound.now.pool.now c.args.sound.now.table.now c.args.key (sym (ap (λ (x : Sought). x.hit) (searched (goal.at.returns-then-not-s c).After-partition_point-s)) ∙ not-true _ c.if-not-s.true)

pub layer_at-requires : goal.layer_at-requires
layer_at-requires c =
    (omega (arith, told (goal.at.layer_at-requires c).Start, c.well_formed), (told (goal.at.layer_at-requires c).Start).small, (told_below (goal.at.layer_at-requires c).Start).depth)

pub returns-in_err-g : goal.returns-in_err-g
returns-in_err-g c =
    let a = c.args in
    c.from_residual.ensures ∙
    found_outside a.sound.now.pool.now a.sound.now.table.now a.key (group_out (layer_in a.sound.now.pool.now a.sound.now.table.now 1) (sought a.sound.now.pool.now a.sound.now.table.now a.key).offset (grouped (goal.at.returns-in_err-g c).After-partition_point-s c.layer-2.ensures c.in_err-g.ensures))

pub overflow_add-result : goal.overflow_add-result
overflow_add-result c =
    let a = c.args in
    omega (arith, told_below (goal.at.overflow_add-result c).Start, c.layer_at.ensures, lying (goal.at.overflow_add-result c).After-partition_point-s c.layer-2.ensures c.in_ok-g.ensures, keys_long a.sound.now.pool.now (told_below (goal.at.overflow_add-result c).Start))

pub overflow_sub-result : goal.overflow_sub-result
overflow_sub-result c = (lying (goal.at.overflow_sub-result c).After-partition_point-s c.layer-2.ensures c.in_ok-g.ensures).ordered

pub returns : goal.returns
returns c =
    let q = (goal.at.returns c).After-partition_point-s in
    let l = lying q c.layer-2.ensures c.in_ok-g.ensures in
    cc (c.layer_at.ensures, l.from, l.to, found_there c.args.sound.now.pool.now c.args.sound.now.table.now c.args.key (sym (ap (λ (x : Sought). x.hit) (searched q)) ∙ not-false _ c.if-not-s.false) l.lies)
