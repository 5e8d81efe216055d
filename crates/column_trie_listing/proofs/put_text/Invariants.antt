-- `column_trie_listing::put_text` meets its contract: layer after layer.
use Prim.Native.Nat.{◌*◌, ◌≤◌, ◌^◌}
use lib.ListN.{take}
use Rattle.column_trie.specs.Table.{layers_in}
use Rattle.layer_text.specs.Text.{text}
use Rattle.layer_text.specs.Wrote.{Wrote}
use Rattle.column_trie_listing.proofs.put_text.Given as goal

abbrev pub invariant-loop-d : goal.invariant-loop-d
invariant-loop-d l = (l.d ≤ l.table.sound.table.now.arity) × Wrote l.initial.writer l.writer (text (take l.d (layers_in l.table.sound.pool.now l.table.sound.table.now))) × (l.writer.end ≤ 2 ^ 32 * l.d)
