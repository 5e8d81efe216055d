-- Public: a cursor over a table laid over another, as a pair of cursors: what the pair alone tells.
use Rattle.std.specs.Prelude.{Option, Some, None, Bool, ◌&&◌, eqb, ltb}
use Rattle.relation.specs.Order.{pick}
use Rattle.column_trie_place.specs.Checks.{at_root}
use Rattle.column_trie_place.specs.declared.ColumnTrieIter.{ColumnTrieIter}
use Rattle.overlay_checks.specs.declared.Side.{Side}
use Rattle.overlay_checks.specs.declared.Side.TheVariants.{School, Maker}
use Rattle.laid_iter.specs.declared.LaidIter.{LaidIter}

abbrev pub pair : ColumnTrieIter → ColumnTrieIter → LaidIter
pair i j = record { school = i; maker = j }

abbrev pub root_pair : LaidIter
root_pair = pair at_root at_root

-- one of the two walks, and the other stays
abbrev pub moved : Side → LaidIter → ColumnTrieIter → LaidIter
moved School it i = pair i it.maker
moved Maker it i = pair it.school i

-- the one below depth 1
abbrev pub walker : LaidIter → Option Side
walker it = pick (ltb 1 it.school.depth) (Some School) (pick (ltb 1 it.maker.depth) (Some Maker) None)

abbrev pub pair_at_root : LaidIter → Bool
pair_at_root it = eqb it.school.depth 0 && eqb it.maker.depth 0
