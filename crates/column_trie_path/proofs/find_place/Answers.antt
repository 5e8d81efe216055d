-- `column_trie_path::find_place` meets its contract: the seek's offset leads in the group's words (Places.antt), and halving looks at few of them.
use Prim.Native.Nat.{◌≤◌}
use mathlib.Core.Path.{◌≡◌, refl, sym, subst, ◌∙◌}
use mathlib.Core.Logic.{inl, inr}
use native.Mathlib.Omega.{arith}
use lib.ListN.{length}
use Rattle.seek.specs.Offset.{Leading}
use Rattle.seek.specs.Probes.{digits}
use Rattle.seek.specs.Seek.{hit_at}
use Rattle.seek.specs.declared.Sought.{Sought}
use Rattle.seek.specs.declared.SeekStrategy.TheVariants.{Binary}
use Rattle.seek.proofs.Laws.{leading, binary_cost}
use Rattle.sound_table.specs.Layers.{seen}
use Rattle.column_trie_path.proofs.Places.{GroupAt, group_fits, run, run_long, run_rises, place_sought}
use Rattle.column_trie_path.proofs.find_place.Goals as goal
use Rattle.column_trie_path.proofs.find_place.Goals.{After-begins-to, After-partition_point-sought, then-sought, else-sought}

-- where the group lies, once its ends are read
group : (c : After-begins-to) → GroupAt (seen c.args.layer.now) c.args.i c.begins-from.result c.begins-to.result
group c = record { grouped = c.requires; from_is = c.begins-from.ensures; to_is = c.begins-to.ensures }

-- what the seek found
found : (c : After-partition_point-sought) → GroupAt (seen c.args.layer.now) c.args.i c.begins-from.result c.begins-to.result
    → Leading (run c.args.layer.now.keys.now c.begins-from.result c.begins-to.result) c.args.key c.partition_point-sought.result.offset
found c g =
    let key = c.args.key in
    let words = run c.args.layer.now.keys.now c.begins-from.result c.begins-to.result in
    subst (λ (z : Sought). Leading words key z.offset) (sym c.partition_point-sought.ensures) (leading Binary words key (run_rises g))

pub overflow_add-at : goal.overflow_add-at
overflow_add-at c =
    let g = group (goal.at.overflow_add-at c).After-begins-to in
    omega (arith, (found (goal.at.overflow_add-at c).After-partition_point-sought g).inside, run_long g, group_fits g, c.well_formed)

-- where the seek ended is the key's place, and it looked at few keys
pub returns : goal.returns
returns c =
    let args = c.args in
    let words = run args.layer.now.keys.now c.begins-from.result c.begins-to.result in
    let sought = c.partition_point-sought in
    let g = group (goal.at.returns c).After-begins-to in
    let hit : sought.result.hit ≡ hit_at words args.key sought.result.offset = subst (λ (z : Sought). z.hit ≡ hit_at words args.key z.offset) (sym sought.ensures) refl in
    let cost : sought.result.probes ≤ digits (length words) = subst (λ (z : Sought). z.probes ≤ digits (length words)) (sym sought.ensures) (binary_cost words args.key) in
    place_sought g (found (goal.at.returns c).After-partition_point-sought g) cost c.if-sought.place
    (elim c.if-sought.branch [ then-sought w ↦ inl (sym hit ∙ w.if-sought.true, w.place-is) | else-sought w ↦ inr (sym hit ∙ w.if-sought.false, w.place-is) ])
