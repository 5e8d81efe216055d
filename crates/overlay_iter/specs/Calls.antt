-- Public: a cursor over a table laid over another, second part: what the calls answer, for any pools, headers and pair. The first part is specs/Pairs.antt of
-- the crate overlay_place. Below depth 1 a call is the plain cursor's, on the table of the one that walks; the other stays.
use Rattle.std.specs.Prelude.{ℕ, ◌+◌, Bool, false, not, ◌&&◌, ◌||◌, List, ltb, eqb}
use Rattle.relation.specs.Order.{pick}
use Rattle.seek.specs.declared.SeekStrategy.{SeekStrategy}
use Rattle.column_trie.specs.declared.ColumnTrie.{ColumnTrie}
use Rattle.column_trie_place.specs.Checks.{unless}
use Rattle.column_trie_place.specs.declared.ColumnTrieIter.{ColumnTrieIter}
use Rattle.column_trie_iter.specs.Cursor.{no_key, key_of, next_of, sought_of, open_of, up_of}
use Rattle.column_trie_iter.specs.declared.KeyAnswer.{KeyAnswer}
use Rattle.column_trie_iter.specs.declared.NextAnswer.{NextAnswer}
use Rattle.column_trie_iter.specs.declared.SeekAnswer.{SeekAnswer}
use Rattle.column_trie_iter.specs.declared.EndAnswer.{EndAnswer}
use Rattle.column_trie_iter.specs.declared.OpenAnswer.{OpenAnswer}
use Rattle.column_trie_iter.specs.declared.UpAnswer.{UpAnswer}
use Rattle.overlay_checks.specs.declared.Side.{Side}
use Rattle.overlay_checks.specs.declared.Side.TheVariants.{School, Maker}
use Rattle.laid_iter.specs.Cursors.{pair, moved, pair_at_root}
use Rattle.overlay_place.specs.Pairs.{leads, least, pair_refusal}
use Rattle.laid_iter.specs.declared.LaidIter.{LaidIter}
use Rattle.overlay_iter.specs.declared.LaidNextAnswer.{LaidNextAnswer}
use Rattle.overlay_iter.specs.declared.LaidSeekAnswer.{LaidSeekAnswer}
use Rattle.overlay_iter.specs.declared.LaidOpenAnswer.{LaidOpenAnswer}
use Rattle.overlay_iter.specs.declared.LaidUpAnswer.{LaidUpAnswer}

-- who walks: below depth 1 the school's or the maker's alone, else both
abbrev pub by_walker : {A : Type 0} → LaidIter → A → A → A → A
by_walker it school maker both = pick (ltb 1 it.school.depth) school (pick (ltb 1 it.maker.depth) maker both)

-- ---- key and at_end

unfoldable pub laid_key_of : List ℕ → ColumnTrie → List ℕ → ColumnTrie → LaidIter → KeyAnswer
laid_key_of sp s mp m it =
    unless (pair_refusal sp s mp m it) no_key
    (by_walker it (key_of sp s it.school) (key_of mp m it.maker) (least (key_of sp s it.school) (key_of mp m it.maker)))

-- there is no key
abbrev pub end_by : KeyAnswer → EndAnswer
end_by k = record { number = k.number; at_end = eqb k.number 0 && not k.found }

unfoldable pub laid_end_of : List ℕ → ColumnTrie → List ℕ → ColumnTrie → LaidIter → EndAnswer
laid_end_of sp s mp m it = end_by (laid_key_of sp s mp m it)

-- ---- next

abbrev pub laid_unmoved : LaidIter → ℕ → LaidNextAnswer
laid_unmoved it n = record { number = n; found = false; key = 0; iter = it }

abbrev pub one_next : Side → LaidIter → NextAnswer → LaidNextAnswer
one_next side it r = record { number = r.number; found = r.found; key = r.key; iter = moved side it r.iter }

-- past the present key, where it is this cursor's
abbrev pub pass_if : Bool → List ℕ → ColumnTrie → ColumnTrieIter → ColumnTrieIter
pass_if present pool t it = pick present (next_of pool t it).iter it

-- the pair behind the present key
abbrev pub next_pair : List ℕ → ColumnTrie → List ℕ → ColumnTrie → LaidIter → LaidIter
next_pair sp s mp m it =
    let a = key_of sp s it.school in
    let b = key_of mp m it.maker in
    pair (pass_if (leads a b) sp s it.school) (pass_if (leads b a) mp m it.maker)

abbrev pub next_at : LaidIter → KeyAnswer → LaidNextAnswer
next_at it k = record { number = k.number; found = k.found; key = k.key; iter = it }

unfoldable pub both_next : List ℕ → ColumnTrie → List ℕ → ColumnTrie → LaidIter → LaidNextAnswer
both_next sp s mp m it = let n = next_pair sp s mp m it in next_at n (least (key_of sp s n.school) (key_of mp m n.maker))

unfoldable pub laid_next_of : List ℕ → ColumnTrie → List ℕ → ColumnTrie → LaidIter → LaidNextAnswer
laid_next_of sp s mp m it =
    unless (pair_refusal sp s mp m it) (laid_unmoved it) (by_walker it (one_next School it (next_of sp s it.school)) (one_next Maker it (next_of mp m it.maker)) (both_next sp s mp m it))

-- ---- seek: "probes added up"

abbrev pub laid_unsought : LaidIter → ℕ → LaidSeekAnswer
laid_unsought it n = record { number = n; found = false; hit = false; probes = 0; iter = it }

abbrev pub one_sought : Side → LaidIter → SeekAnswer → LaidSeekAnswer
one_sought side it r = record { number = r.number; found = r.found; hit = r.hit; probes = r.probes; iter = moved side it r.iter }

abbrev pub both_sought : SeekAnswer → SeekAnswer → LaidSeekAnswer
both_sought a b = record { number = 0; found = a.found || b.found; hit = a.hit || b.hit; probes = a.probes + b.probes; iter = pair a.iter b.iter }

unfoldable pub laid_sought_of : List ℕ → ColumnTrie → List ℕ → ColumnTrie → LaidIter → SeekStrategy → ℕ → LaidSeekAnswer
laid_sought_of sp s mp m it x target =
    unless (pair_refusal sp s mp m it) (laid_unsought it)
    (by_walker it (one_sought School it (sought_of sp s it.school x target)) (one_sought Maker it (sought_of mp m it.maker x target))
    (both_sought (sought_of sp s it.school x target) (sought_of mp m it.maker x target)))

-- ---- open: from the root both, where there are rows; from a first key the one that has it, the school's if both do

abbrev pub laid_unopened : LaidIter → ℕ → LaidOpenAnswer
laid_unopened it n = record { number = n; opened = false; iter = it }

abbrev pub one_opened : Side → LaidIter → OpenAnswer → LaidOpenAnswer
one_opened side it r = record { number = r.number; opened = r.opened; iter = moved side it r.iter }

abbrev pub both_opened : OpenAnswer → OpenAnswer → LaidOpenAnswer
both_opened a b = record { number = 0; opened = a.opened || b.opened; iter = pair a.iter b.iter }

unfoldable pub first_opened : List ℕ → ColumnTrie → List ℕ → ColumnTrie → LaidIter → LaidOpenAnswer
first_opened sp s mp m it =
    pick (pair_at_root it) (both_opened (open_of sp s it.school) (open_of mp m it.maker))
    (pick (leads (key_of sp s it.school) (key_of mp m it.maker)) (one_opened School it (open_of sp s it.school)) (one_opened Maker it (open_of mp m it.maker)))

unfoldable pub laid_open_of : List ℕ → ColumnTrie → List ℕ → ColumnTrie → LaidIter → LaidOpenAnswer
laid_open_of sp s mp m it =
    unless (pair_refusal sp s mp m it) (laid_unopened it)
    (by_walker it (one_opened School it (open_of sp s it.school)) (one_opened Maker it (open_of mp m it.maker)) (first_opened sp s mp m it))

-- ---- up: from depth 1 both, from below it the one that walks

abbrev pub laid_unrisen : LaidIter → ℕ → LaidUpAnswer
laid_unrisen it n = record { number = n; risen = false; iter = it }

abbrev pub one_risen : Side → LaidIter → UpAnswer → LaidUpAnswer
one_risen side it r = record { number = r.number; risen = r.risen; iter = moved side it r.iter }

abbrev pub both_risen : UpAnswer → UpAnswer → LaidUpAnswer
both_risen a b = record { number = 0; risen = a.risen || b.risen; iter = pair a.iter b.iter }

unfoldable pub laid_up_of : List ℕ → ColumnTrie → List ℕ → ColumnTrie → LaidIter → LaidUpAnswer
laid_up_of sp s mp m it =
    unless (pair_refusal sp s mp m it) (laid_unrisen it)
    (by_walker it (one_risen School it (up_of sp s it.school)) (one_risen Maker it (up_of mp m it.maker)) (both_risen (up_of sp s it.school) (up_of mp m it.maker)))
