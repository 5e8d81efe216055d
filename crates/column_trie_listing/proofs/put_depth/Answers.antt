-- `column_trie_listing::put_depth` meets its contract: the lists handed on are the layer's, and no longer than the capacity.
use mathlib.Core.Path.{ap}
use native.Mathlib.Omega.{arith}
use lib.ListN.{length}
use Rattle.relation.specs.Layers.{Layer}
use Rattle.column_trie.proofs.Header.{LayerFits, layer_fits, header_told}
use Rattle.column_trie.proofs.Groups.{keys_long, intervals_long}
use Rattle.layer_text.specs.Text.{layer_text}
use Rattle.layer_text.proofs.Texts.{wrote_as}
use Rattle.column_trie_listing.proofs.put_depth.Goals as goal
use Rattle.column_trie_listing.proofs.put_depth.Goals.{Start}

-- where the layer lies
told : (s : Start) → LayerFits (length s.args.table.now.pool.now) s.args.table.now.table.now s.args.d
told s = layer_fits (header_told (length s.args.table.now.pool.now) s.args.table.now.table.now s.args.table.now.sound) s.requires.0

pub layer-requires : goal.layer-requires
layer-requires c =
    let pool = c.args.table.now.pool.now in
    (c.requires.1, omega (arith, told (goal.at.layer-requires c).Start, ap (λ (l : Layer). length l.keys) c.layer-lists.ensures, keys_long pool (told (goal.at.layer-requires c).Start)), omega (arith, told (goal.at.layer-requires c).Start, ap (λ (l : Layer). length l.intervals) c.layer-lists.ensures, intervals_long pool (told (goal.at.layer-requires c).Start)))

pub returns : goal.returns
returns c =
    let d = c.args.d in
    let w = c.layer.ensures in
    (wrote_as (ap (layer_text d) c.layer-lists.ensures) w.0, w.1)
