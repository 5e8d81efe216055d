-- Public: the group of an interval in its layer: "interval i is where parent i's children start, and they run to the next interval or to the end of the data".
use Rattle.std.specs.Prelude.{ℕ, suc, Bool, ◌&&◌, Option, Some, None, List, length, get_or, ltb, leb}
use Rattle.std.proofs.Math.Seq.{slice}
use Rattle.relation.specs.Order.{pick}
use Rattle.relation.specs.Layers.{Layer}
use Rattle.column_trie.specs.declared.Group.{Group}

abbrev pub group_from : Layer → ℕ → ℕ
group_from l i = get_or l.intervals i 0

abbrev pub group_to : Layer → ℕ → ℕ
group_to l i = get_or l.intervals (suc i) (length l.keys)

abbrev pub keys_of : Layer → ℕ → List ℕ
keys_of l i = slice (group_from l i) (group_to l i) l.keys

-- interval i and its group lie in their lists: "a group is outside its list when its start is above its end or its end is above the data length"
unfoldable pub lies : Layer → ℕ → Bool
lies l i = ltb i (length l.intervals) && (leb (group_from l i) (group_to l i) && leb (group_to l i) (length l.keys))

-- interval i's group in its layer, if it lies there
abbrev pub between : ℕ → ℕ → Group
between from to = record { from = from; to = to }

unfoldable pub group_of : Layer → ℕ → Option Group
group_of l i = pick (lies l i) (Some (between (group_from l i) (group_to l i))) None
