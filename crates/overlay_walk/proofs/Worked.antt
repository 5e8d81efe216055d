-- The test of a pair, computed: the school has (1,7) (5,8), the maker (1,9) (3,2) (3,4), so the rows that count are (1,7) (3,2) (3,4) (5,8); besides them an empty school, an empty maker, equal tables, and
-- one table as both.
use Prim.Native.Nat.{ℕ}
use mathlib.Core.Path.{◌≡◌, refl}
use mathlib.Core.Bool.{Bool, true, false}
use mathlib.Core.List.{List, [], ◌∷◌, map}
use lib.ListN.{replicate}
use Rattle.relation.specs.Tests.{every}
use Rattle.seek.specs.Seek.{halves}
use Rattle.column_trie.specs.Limits.{max_arity}
use Rattle.column_trie.specs.Groups.{lies}
use Rattle.column_trie.specs.Pool.{spot, reads}
use Rattle.column_trie.specs.Table.{header_with, padded, empty_table}
use Rattle.column_trie.specs.declared.ColumnTrie.{ColumnTrie}
use Rattle.column_trie_place.specs.Checks.{cursor, child, stands, stands_below, refusal, remaining, owns}
use Rattle.column_trie_place.specs.declared.ColumnTrieIter.{ColumnTrieIter}
use Rattle.column_trie_iter.specs.Cursor.{key_of, up_of, rises_in}
use Rattle.laid_iter.specs.Cursors.{pair}
use Rattle.overlay_place.specs.Pairs.{ups, climbed, passed_below, abreast, below_root, pair_stands}

-- tables of arity 2 and capacity 3, one behind the other: the school's, the maker's, the school's rows again, and one without rows
abbrev pool : List ℕ
pool =
    1 ∷ 5 ∷ 0 ∷ 0 ∷ 0 ∷ 0 ∷ 7 ∷ 8 ∷ 0 ∷ 0 ∷ 1 ∷ 0 ∷
    1 ∷ 3 ∷ 0 ∷ 0 ∷ 0 ∷ 0 ∷ 9 ∷ 2 ∷ 4 ∷ 0 ∷ 1 ∷ 0 ∷
    1 ∷ 5 ∷ 0 ∷ 0 ∷ 0 ∷ 0 ∷ 7 ∷ 8 ∷ 0 ∷ 0 ∷ 1 ∷ 0 ∷
    0 ∷ 0 ∷ 0 ∷ 0 ∷ 0 ∷ 0 ∷ 0 ∷ 0 ∷ 0 ∷ 0 ∷ 0 ∷ 0 ∷
    []

abbrev table : ℕ → ℕ → ℕ → ColumnTrie
table start keys count = header_with start 2 3 (padded (keys ∷ count ∷ [])) (padded (1 ∷ keys ∷ [])) count (replicate max_arity false)

abbrev school : ColumnTrie
school = table 0 2 2

abbrev maker : ColumnTrie
maker = table 12 2 3

abbrev again : ColumnTrie
again = table 24 2 2

abbrev empty : ColumnTrie
empty = empty_table 36 2 3

record Case : Type 0 where
  over : ColumnTrie
  under : ColumnTrie
  i : ColumnTrieIter
  j : ColumnTrieIter

abbrev case : ColumnTrie → ColumnTrie → ColumnTrieIter → ColumnTrieIter → Case
case s m i j = record { over = s; under = m; i = i; j = j }

abbrev both : ColumnTrieIter → ColumnTrieIter → Case
both = case school maker

abbrev asked : Case → Bool
asked c = pair_stands pool c.over pool c.under (pair c.i c.j)

-- the root; on 1 both; on 3, the school's on 5; on 5, the maker's at its end; at the end both; below 1 the school's walks; below 3 the maker's; below 5 the school's
are_states : map asked (
    both (cursor 0 0 0) (cursor 0 0 0) ∷ both (cursor 1 0 0) (cursor 1 0 0) ∷ both (cursor 1 0 1) (cursor 1 0 1) ∷ both (cursor 1 0 1) (cursor 1 0 2) ∷
    both (cursor 1 0 2) (cursor 1 0 2) ∷ both (cursor 2 0 0) (cursor 1 0 0) ∷ both (cursor 1 0 1) (cursor 2 1 1) ∷ both (cursor 2 1 1) (cursor 1 0 2) ∷ [])
    ≡ replicate 8 true
unfolding lies spot reads child stands stands_below refusal remaining owns key_of up_of rises_in ups climbed passed_below abreast below_root pair_stands every halves
are_states = refl

-- one alone at the root; the school's on 1, the maker's past it; the school's past 5, the maker's on 3; the school's on 5, the maker's on 1; below 1 the maker's; both below; below 3 the school's not on 5;
-- below 5 the maker's not at its end
are_none : map asked (
    both (cursor 0 0 0) (cursor 1 0 0) ∷ both (cursor 1 0 0) (cursor 1 0 1) ∷ both (cursor 1 0 2) (cursor 1 0 1) ∷ both (cursor 1 0 1) (cursor 1 0 0) ∷
    both (cursor 1 0 0) (cursor 2 0 0) ∷ both (cursor 2 0 0) (cursor 2 0 0) ∷ both (cursor 1 0 0) (cursor 2 1 0) ∷ both (cursor 2 1 0) (cursor 1 0 1) ∷ [])
    ≡ replicate 8 false
unfolding lies spot reads child stands stands_below refusal remaining owns key_of up_of rises_in ups climbed passed_below abreast below_root pair_stands every halves
are_none = refl

-- an empty table's cursor stays at the root, and so do both of two empty ones
of_empty_ones : map asked (
    case empty maker (cursor 0 0 0) (cursor 1 0 1) ∷ case empty maker (cursor 0 0 0) (cursor 2 1 0) ∷ case school empty (cursor 1 0 2) (cursor 0 0 0) ∷
    case school empty (cursor 2 1 0) (cursor 0 0 0) ∷ case empty empty (cursor 0 0 0) (cursor 0 0 0) ∷ case empty maker (cursor 1 0 0) (cursor 1 0 0) ∷ [])
    ≡ true ∷ true ∷ true ∷ true ∷ true ∷ false ∷ []
unfolding lies spot reads child stands stands_below refusal remaining owns key_of up_of rises_in ups climbed passed_below abreast below_root pair_stands every halves
of_empty_ones = refl

-- of equal tables, and of one table as both, the two go abreast and the school's walks below
of_equal_ones : map asked (
    case school again (cursor 1 0 1) (cursor 1 0 1) ∷ case school again (cursor 2 1 0) (cursor 1 0 1) ∷ case school again (cursor 1 0 1) (cursor 2 1 0) ∷
    case maker maker (cursor 1 0 1) (cursor 1 0 1) ∷ case maker maker (cursor 2 1 1) (cursor 1 0 1) ∷ case maker maker (cursor 1 0 1) (cursor 1 0 0) ∷ [])
    ≡ true ∷ true ∷ false ∷ true ∷ true ∷ false ∷ []
unfolding lies spot reads child stands stands_below refusal remaining owns key_of up_of rises_in ups climbed passed_below abreast below_root pair_stands every halves
of_equal_ones = refl
