-- Public: the cursor's contracts, first part: what a cursor is, what every call asks first, and which interval owns a key,
-- by document 01's array rules, for any pool, header and cursor. A table's layers are lists here: what the header's lengths cut out of the pool. Their
-- groups are column_trie's (specs/Groups.antt).
use Rattle.std.specs.Prelude.{ℕ, ◌+◌, ◌-◌, Bool, ◌&&◌, List, [], length, drop, ltb, leb, eqb}
use Rattle.relation.specs.Order.{pick}
use Rattle.relation.specs.Layers.{Layer}
use Rattle.seek.specs.Seek.{halving}
use Rattle.column_trie.specs.Groups.{group_from, group_to, keys_of, lies}
use Rattle.column_trie.specs.Table.{layer_in, header_sound}
use Rattle.column_trie.specs.declared.ColumnTrie.{ColumnTrie}
use Rattle.column_trie_place.specs.declared.ColumnTrieIter.{ColumnTrieIter}

-- ---- cursors

abbrev pub cursor : ℕ → ℕ → ℕ → ColumnTrieIter
cursor depth i offset = record { depth = depth; interval_i = i; slice_offset = offset }

-- at the root
abbrev pub at_root : ColumnTrieIter
at_root = cursor 0 0 0

-- n siblings further
abbrev pub past : ColumnTrieIter → ℕ → ColumnTrieIter
past it n = cursor it.depth it.interval_i (it.slice_offset + n)

-- ---- what every call asks first

-- the layer in which a cursor below the root stands
abbrev pub layer_of : List ℕ → ColumnTrie → ColumnTrieIter → Layer
layer_of pool t it = layer_in pool t (it.depth - 1)

-- below the root: the depth is not over the arity, interval index and group are in their lists, and the offset is not over the run's length
unfoldable pub stands_below : List ℕ → ColumnTrie → ColumnTrieIter → Bool
stands_below pool t it =
    leb it.depth t.arity &&
    (lies (layer_of pool t it) it.interval_i && leb it.slice_offset (length (keys_of (layer_of pool t it) it.interval_i)))

-- not 7: at depth 0 the other numbers are 0
unfoldable pub stands : List ℕ → ColumnTrie → ColumnTrieIter → Bool
stands pool t it = pick (eqb it.depth 0) (eqb it.interval_i 0 && eqb it.slice_offset 0) (stands_below pool t it)

-- 6 for the header, then 7; 0 where neither is given
unfoldable pub refusal : List ℕ → ColumnTrie → ColumnTrieIter → ℕ
refusal pool t it = pick (header_sound (length pool) t) (pick (stands pool t it) 0 7) 6

-- the siblings not yet passed, the present key first; none at depth 0
unfoldable pub remaining : List ℕ → ColumnTrie → ColumnTrieIter → List ℕ
remaining pool t it = pick (eqb it.depth 0) [] (drop it.slice_offset (keys_of (layer_of pool t it) it.interval_i))

-- the interval of the children: the one interval of layer 0, or the place of the present key in its layer
unfoldable pub child : List ℕ → ColumnTrie → ColumnTrieIter → ℕ
child pool t it = pick (eqb it.depth 0) 0 (group_from (layer_of pool t it) it.interval_i + it.slice_offset)

-- with a number, the refusal by it; with 0, the answer
abbrev pub unless : {A : Type 0} → ℕ → (ℕ → A) → A → A
unless n refused answer = pick (eqb n 0) answer (refused n)

-- ---- the owner of a key, by its place in the layer

-- how many intervals the halving rule counts as not above i
abbrev pub count_up_to : ℕ → List ℕ → ℕ
count_up_to i ints = (halving ints (i + 1) 0 (length ints) 0).offset

-- interval and group of `owner` are in their lists, and the key at place i is in the group
unfoldable pub owns : Layer → ℕ → ℕ → Bool
owns l owner i = lies l owner && (leb (group_from l owner) i && ltb i (group_to l owner))
