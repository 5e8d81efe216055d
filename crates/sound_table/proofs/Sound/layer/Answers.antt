-- `sound_table::Sound::layer` meets its contract: the header puts the layer's two lists into the pool.
use native.Mathlib.Omega.{arith}
use lib.ListN.{length}
use Rattle.column_trie.proofs.Header.{LayerFits, layer_fits, header_told}
use Rattle.sound_table.proofs.Sound.layer.Goals as goal
use Rattle.sound_table.proofs.Sound.layer.Goals.{Start}

-- where the layer lies
told : (s : Start) → LayerFits (length s.args.self.now.pool.now) s.args.self.now.table.now s.args.d
told s = layer_fits (header_told (length s.args.self.now.pool.now) s.args.self.now.table.now s.args.self.now.sound) s.requires

pub overflow_add-intervals_at : goal.overflow_add-intervals_at
overflow_add-intervals_at c = omega (arith, told (goal.at.overflow_add-intervals_at c).Start, c.layer_at-at.ensures)

pub part-requires : goal.part-requires
part-requires c = omega (arith, told (goal.at.part-requires c).Start, c.layer_at-at.ensures)

pub part-requires-2 : goal.part-requires-2
part-requires-2 c = omega (arith, told (goal.at.part-requires-2 c).Start, c.layer_at-at.ensures)
