-- Public: the cursor's contracts, second part: what the calls answer, as document 01's array rules give it, for any pool,
-- header and cursor. The first part is specs/Checks.antt of the crate column_trie_place.
use Rattle.std.specs.Prelude.{ℕ, ◌+◌, ◌-◌, Bool, true, false, ◌&&◌, List, [], ◌∷◌, length, drop, ltb, eqb}
use Rattle.relation.specs.Lists.{nonempty}
use Rattle.relation.specs.Order.{pick}
use Rattle.relation.specs.Layers.{Layer}
use Rattle.seek.specs.Seek.{seek_of}
use Rattle.seek.specs.declared.SeekStrategy.{SeekStrategy}
use Rattle.column_trie.specs.Groups.{group_from, lies}
use Rattle.column_trie.specs.Table.{layer_in}
use Rattle.column_trie.specs.declared.ColumnTrie.{ColumnTrie}
use Rattle.column_trie_place.specs.Checks.{cursor, at_root, past, refusal, remaining, child, unless, count_up_to, owns}
use Rattle.column_trie_place.specs.declared.ColumnTrieIter.{ColumnTrieIter}
use Rattle.column_trie_iter.specs.declared.KeyAnswer.{KeyAnswer}
use Rattle.column_trie_iter.specs.declared.NextAnswer.{NextAnswer}
use Rattle.column_trie_iter.specs.declared.SeekAnswer.{SeekAnswer}
use Rattle.column_trie_iter.specs.declared.EndAnswer.{EndAnswer}
use Rattle.column_trie_iter.specs.declared.OpenAnswer.{OpenAnswer}
use Rattle.column_trie_iter.specs.declared.UpAnswer.{UpAnswer}

-- ---- the calls

-- the first key of a list, 0 where it has none
abbrev pub first : List ℕ → ℕ
first [] = 0
first (k ∷ ks) = k

abbrev pub no_key : ℕ → KeyAnswer
no_key n = record { number = n; found = false; key = 0 }

abbrev pub key_in : List ℕ → KeyAnswer
key_in [] = no_key 0
key_in (k ∷ ks) = record { number = 0; found = true; key = k }

unfoldable pub key_of : List ℕ → ColumnTrie → ColumnTrieIter → KeyAnswer
key_of pool t it = unless (refusal pool t it) no_key (key_in (remaining pool t it))

abbrev pub unmoved : ColumnTrieIter → ℕ → NextAnswer
unmoved it n = record { number = n; found = false; key = 0; iter = it }

-- the key behind the present one; at the end it stays
abbrev pub next_in : ColumnTrieIter → List ℕ → NextAnswer
next_in it [] = unmoved it 0
next_in it (k ∷ ks) = record { number = 0; found = nonempty ks; key = first ks; iter = past it 1 }

unfoldable pub next_of : List ℕ → ColumnTrie → ColumnTrieIter → NextAnswer
next_of pool t it = unless (refusal pool t it) (unmoved it) (next_in it (remaining pool t it))

abbrev pub unsought : ColumnTrieIter → ℕ → SeekAnswer
unsought it n = record { number = n; found = false; hit = false; probes = 0; iter = it }

-- past the siblings that the strategy passes, by its probes; where no sibling is left nothing is searched
abbrev pub seek_in : SeekStrategy → ℕ → ColumnTrieIter → List ℕ → SeekAnswer
seek_in s target it [] = unsought it 0
seek_in s target it (k ∷ ks) =
    record {
      number = 0;
      found = nonempty (drop (seek_of s (k ∷ ks) target).offset (k ∷ ks));
      hit = (seek_of s (k ∷ ks) target).hit;
      probes = (seek_of s (k ∷ ks) target).probes;
      iter = past it (seek_of s (k ∷ ks) target).offset;
    }

unfoldable pub sought_of : List ℕ → ColumnTrie → ColumnTrieIter → SeekStrategy → ℕ → SeekAnswer
sought_of pool t it s target = unless (refusal pool t it) (unsought it) (seek_in s target it (remaining pool t it))

abbrev pub no_end : ℕ → EndAnswer
no_end n = record { number = n; at_end = false }

abbrev pub end_in : List ℕ → EndAnswer
end_in [] = record { number = 0; at_end = true }
end_in (k ∷ ks) = no_end 0

unfoldable pub end_of : List ℕ → ColumnTrie → ColumnTrieIter → EndAnswer
end_of pool t it = unless (refusal pool t it) no_end (end_in (remaining pool t it))

abbrev pub unopened : ColumnTrieIter → ℕ → OpenAnswer
unopened it n = record { number = n; opened = false; iter = it }

-- there is something to open: above full depth, at the root over data in layer 0, below it on a key
unfoldable pub opens : List ℕ → ColumnTrie → ColumnTrieIter → Bool
opens pool t it = ltb it.depth t.arity && pick (eqb it.depth 0) (ltb 0 (length (layer_in pool t 0).keys)) (nonempty (remaining pool t it))

-- to interval i, that of the children; 6 where it or its group is outside its list
abbrev pub open_at : List ℕ → ColumnTrie → ColumnTrieIter → ℕ → OpenAnswer
open_at pool t it i = pick (lies (layer_in pool t it.depth) i) (record { number = 0; opened = true; iter = cursor (it.depth + 1) i 0 }) (unopened it 6)

unfoldable pub open_of : List ℕ → ColumnTrie → ColumnTrieIter → OpenAnswer
open_of pool t it = unless (refusal pool t it) (unopened it) (pick (opens pool t it) (open_at pool t it (child pool t it)) (unopened it 0))

abbrev pub unrisen : ColumnTrieIter → ℕ → UpAnswer
unrisen it n = record { number = n; risen = false; iter = it }

-- on the key at the place that is the cursor's interval index, in the owner's group
abbrev pub risen_to : Layer → ColumnTrieIter → ℕ → UpAnswer
risen_to l it owner = record { number = 0; risen = true; iter = cursor (it.depth - 1) owner (it.interval_i - group_from l owner) }

-- to the key of the layer above whose place is the cursor's interval index; 6 where the owner does not have it
abbrev pub owned_by : Layer → ColumnTrieIter → ℕ → UpAnswer
owned_by l it owner = pick (owns l owner it.interval_i) (risen_to l it owner) (unrisen it 6)

-- the last interval counted is the owner; 6 where none is
unfoldable pub rises_in : Layer → ColumnTrieIter → UpAnswer
rises_in l it = pick (eqb (count_up_to it.interval_i l.intervals) 0) (unrisen it 6) (owned_by l it (count_up_to it.interval_i l.intervals - 1))

unfoldable pub up_of : List ℕ → ColumnTrie → ColumnTrieIter → UpAnswer
up_of pool t it =
    unless (refusal pool t it) (unrisen it)
    (pick (eqb it.depth 0) (unrisen it 0)
    (pick (eqb it.depth 1) (record { number = 0; risen = true; iter = at_root }) (rises_in (layer_in pool t (it.depth - 2)) it)))
