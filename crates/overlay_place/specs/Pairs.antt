-- Public: a cursor over a table laid over another, first part: which pairs of cursors are states, and what every call asks first, for any pools, headers and
-- pair. It is a computed test; that it decides exactly the states is a law (the crate overlay_walk).
use Rattle.std.specs.Prelude.{ℕ, zero, suc, ◌-◌, Bool, not, ◌&&◌, ◌||◌, List, eqb, ltb, leb}
use Rattle.relation.specs.Order.{pick}
use Rattle.column_trie.specs.Table.{data_len_at}
use Rattle.column_trie.specs.declared.ColumnTrie.{ColumnTrie}
use Rattle.column_trie_place.specs.Checks.{cursor, refusal}
use Rattle.column_trie_place.specs.declared.ColumnTrieIter.{ColumnTrieIter}
use Rattle.column_trie_iter.specs.Cursor.{key_of, up_of}
use Rattle.column_trie_iter.specs.declared.KeyAnswer.{KeyAnswer}
use Rattle.overlay_checks.specs.Tables.{tables_number}
use Rattle.laid_iter.specs.Cursors.{pair, pair_at_root}
use Rattle.laid_iter.specs.declared.LaidIter.{LaidIter}

-- ---- one of the two

-- up, n times
unfoldable pub ups : ℕ → List ℕ → ColumnTrie → ColumnTrieIter → ColumnTrieIter
ups zero pool t it = it
ups (suc n) pool t it = ups n pool t (up_of pool t it).iter

-- the cursor at depth 1 from which one below it was opened; one at depth 1 or at the root is its own
unfoldable pub climbed : List ℕ → ColumnTrie → ColumnTrieIter → ColumnTrieIter
climbed pool t it = ups (it.depth - 1) pool t it

-- below the root, unless the table has no rows: "an empty table's stays at the root"
abbrev pub started : ColumnTrie → ColumnTrieIter → Bool
started t it = ltb 0 it.depth || eqb (data_len_at t 0) 0

-- the key before its own, if there is one, is below k
unfoldable pub passed_below : List ℕ → ColumnTrie → ColumnTrieIter → ℕ → Bool
passed_below pool t it k = eqb it.slice_offset 0 || ltb (key_of pool t (cursor it.depth it.interval_i (it.slice_offset - 1))).key k

-- ---- both

-- of two answers the first has the present key, which is the least of both
abbrev pub leads : KeyAnswer → KeyAnswer → Bool
leads a b = a.found && (not b.found || leb a.key b.key)

-- "At depth 1 each stands on its first key not below the present one": on none below it, and past none but those
unfoldable pub abreast : List ℕ → ColumnTrie → List ℕ → ColumnTrie → LaidIter → ℕ → Bool
abreast sp s mp m it k = passed_below sp s it.school k && passed_below mp m it.maker k

abbrev pub least : KeyAnswer → KeyAnswer → KeyAnswer
least a b = pick (leads a b) a b

-- "deeper, the key's owner walks, the school's if both have it, and the other stays": not below depth 1
abbrev pub owner_walks : LaidIter → Bool → Bool
owner_walks it school_leads = pick school_leads (leb it.maker.depth 1) (leb it.school.depth 1)

-- the pair at depth 1 from which one below it was opened
abbrev pub firsts : List ℕ → ColumnTrie → List ℕ → ColumnTrie → LaidIter → LaidIter
firsts sp s mp m it = pair (climbed sp s it.school) (climbed mp m it.maker)

-- among the first keys, or below one: with no key left both are at their ends
unfoldable pub below_root : List ℕ → ColumnTrie → List ℕ → ColumnTrie → LaidIter → Bool
below_root sp s mp m it =
    let f = firsts sp s mp m it in
    let a = key_of sp s f.school in
    let b = key_of mp m f.maker in
    owner_walks it (leads a b) && (not (least a b).found || abreast sp s mp m f (least a b).key)

-- the test: each is a state of its own table's cursor, and both are at the root or stand together below it
unfoldable pub pair_stands : List ℕ → ColumnTrie → List ℕ → ColumnTrie → LaidIter → Bool
pair_stands sp s mp m it =
    eqb (refusal sp s it.school) 0 &&
    (eqb (refusal mp m it.maker) 0 && (pair_at_root it || (started s it.school && (started m it.maker && below_root sp s mp m it))))

-- "6 in full on both, 17, 7 for any other pair"; 0 where none is given
unfoldable pub pair_refusal : List ℕ → ColumnTrie → List ℕ → ColumnTrie → LaidIter → ℕ
pair_refusal sp s mp m it = pick (eqb (tables_number sp s mp m) 0) (pick (pair_stands sp s mp m it) 0 7) (tables_number sp s mp m)
