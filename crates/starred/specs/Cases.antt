-- Of theorems: what document 01 stars under "Worked on the bench", and what document 02 says of kinds, windows and laid-over tables: a table of what is asked and what must come. `comes` asks the definitions that the public calls' contracts cite.
use Rattle.std.specs.Prelude.{ℕ, Bool, false, true, List, [], ◌∷◌, ◌++◌, take, set, replicate, ℤ, pos, negsuc}
use Rattle.relation.specs.Order.{Row}
use Rattle.seek.specs.Seek.{seek_of}
use Rattle.seek.specs.declared.SeekStrategy.{SeekStrategy}
use Rattle.seek.specs.declared.SeekStrategy.TheVariants.{Linear, Binary, Galloping}
use Rattle.grade.specs.Word.{word_of}
use Rattle.column_trie.specs.Limits.{max_arity}
use Rattle.column_trie.specs.Table.{header_with, padded, empty_table}
use Rattle.column_trie.specs.declared.ColumnTrie.{ColumnTrie}
use Rattle.column_trie_build.specs.Build.{built_answer, pool_left}
use Rattle.column_trie_insert.specs.Insert.{insert_number, takes_in}
use Rattle.column_trie_insert.specs.Insert as inserts
use Rattle.column_trie_place.specs.Checks.{cursor, remaining}
use Rattle.column_trie_iter.specs.Cursor.{key_of, open_of, up_of}
use Rattle.column_trie_place.specs.declared.ColumnTrieIter.{ColumnTrieIter}
use Rattle.join_query.specs.Outcome.{outcome}
use Rattle.leapfrog_triejoin.specs.Outcome.{seeks_of}
use Rattle.join_query.specs.declared.Atom.{Atom}
use Rattle.join_query.specs.declared.Query.{Query}
use Rattle.join_query.specs.declared.Tables.{Tables}

pub data Asked : Type 0 where
  -- rows' words, pool, start, arity, capacity, kinds
  Build : List ℕ → List ℕ → ℕ → ℕ → ℕ → List Bool → Asked
  -- pool, table, tuple
  Insert : List ℕ → ColumnTrie → Row → Asked
  -- pool, table, cursor: open, and the run that it shows; up, and the key there
  Open : List ℕ → ColumnTrie → ColumnTrieIter → Asked
  Up : List ℕ → ColumnTrie → ColumnTrieIter → Asked
  -- strategy, run, target
  Seek : SeekStrategy → List ℕ → ℕ → Asked
  -- pool, tables, query, window
  Join : List ℕ → Tables → Query → List ℕ → Asked
  Grade : ℤ → Asked

pub data Comes : Type 0 where
  -- number, header, pool
  Table : ℕ → ColumnTrie → List ℕ → Comes
  -- number, whether it was new, header, pool
  New : ℕ → Bool → ColumnTrie → List ℕ → Comes
  -- number, whether it opened or rose, cursor, the run shown, or the key there
  Run : ℕ → Bool → ColumnTrieIter → List ℕ → Comes
  Key : ℕ → Bool → ColumnTrieIter → ℕ → Comes
  -- offset, probes
  Sought : ℕ → ℕ → Comes
  -- number, rows written, window, seeks
  Rows : ℕ → ℕ → List ℕ → ℕ → Comes
  Word : ℕ → Comes

abbrev pub comes : Asked → Comes
comes (Build rows pool start arity capacity kinds) =
    Table (built_answer rows pool start arity capacity kinds).number (built_answer rows pool start arity capacity kinds).table (pool_left rows pool start arity capacity)
comes (Insert pool t tuple) = New (insert_number pool t tuple) (takes_in pool t tuple) (inserts.table_left pool t tuple) (inserts.pool_left pool t tuple)
comes (Open pool t it) = Run (open_of pool t it).number (open_of pool t it).opened (open_of pool t it).iter (remaining pool t (open_of pool t it).iter)
comes (Up pool t it) = Key (up_of pool t it).number (up_of pool t it).risen (up_of pool t it).iter (key_of pool t (up_of pool t it).iter).key
comes (Seek s run target) = Sought (seek_of s run target).offset (seek_of s run target).probes
comes (Join pool ts q window) = Rows (outcome pool ts q window).number (outcome pool ts q window).rows (outcome pool ts q window).words (seeks_of pool ts q window)
comes (Grade g) = Word (word_of g)

-- ---- the table

-- kinds of eight columns: all plain; only column d a grade
abbrev plain : List Bool
plain = replicate max_arity false

abbrev grade_only : ℕ → List Bool
grade_only d = set plain d true

-- arity 2, capacity 4, from place 1 of a pool of nines: kinds, lengths of data and intervals, count
abbrev header_in : List Bool → ℕ → ℕ → ℕ → ℕ → ℕ → ColumnTrie
header_in kinds data₀ ints₀ data₁ ints₁ count = header_with 1 2 4 (padded (data₀ ∷ data₁ ∷ [])) (padded (ints₀ ∷ ints₁ ∷ [])) count kinds

abbrev header : ℕ → ℕ → ℕ → ℕ → ℕ → ColumnTrie
header = header_in plain

abbrev nines : List ℕ
nines = 9 ∷ 9 ∷ 9 ∷ 9 ∷ 9 ∷ 9 ∷ 9 ∷ 9 ∷ 9 ∷ 9 ∷ 9 ∷ 9 ∷ 9 ∷ 9 ∷ 9 ∷ 9 ∷ 9 ∷ 9 ∷ []

-- data 1 2 and 2 3 4, intervals 0 and 0 2
abbrev four : List ℕ
four = 9 ∷ 1 ∷ 2 ∷ 9 ∷ 9 ∷ 0 ∷ 9 ∷ 9 ∷ 9 ∷ 2 ∷ 3 ∷ 4 ∷ 9 ∷ 0 ∷ 2 ∷ 9 ∷ 9 ∷ 9 ∷ []

-- and 5 behind the 4
abbrev five : List ℕ
five = 9 ∷ 1 ∷ 2 ∷ 9 ∷ 9 ∷ 0 ∷ 9 ∷ 9 ∷ 9 ∷ 2 ∷ 3 ∷ 4 ∷ 5 ∷ 0 ∷ 2 ∷ 9 ∷ 9 ∷ 9 ∷ []

-- data 10 20 over 1 2 3, intervals 0 and 0 2
abbrev tens : List ℕ
tens = 9 ∷ 10 ∷ 20 ∷ 9 ∷ 9 ∷ 0 ∷ 9 ∷ 9 ∷ 9 ∷ 1 ∷ 2 ∷ 3 ∷ 9 ∷ 0 ∷ 2 ∷ 9 ∷ 9 ∷ 9 ∷ []

abbrev evens : List ℕ
evens = 2 ∷ 4 ∷ 6 ∷ 8 ∷ 10 ∷ 12 ∷ 14 ∷ 16 ∷ []

-- tables of arity 2 and capacity 3, one behind the other, and their words: data, intervals, data, intervals
abbrev table_with : List Bool → ℕ → ℕ → ℕ → ColumnTrie
table_with kinds start keys count = header_with start 2 3 (padded (keys ∷ count ∷ [])) (padded (1 ∷ keys ∷ [])) count kinds

abbrev table : ℕ → ℕ → ℕ → ColumnTrie
table = table_with plain

-- R = (1,2),(1,3),(2,3); S = (2,3),(3,1); T = (1,1),(1,3),(2,1)
abbrev triangle : List ℕ
triangle =
    1 ∷ 2 ∷ 0 ∷ 0 ∷ 0 ∷ 0 ∷ 2 ∷ 3 ∷ 3 ∷ 0 ∷ 2 ∷ 0 ∷
    2 ∷ 3 ∷ 0 ∷ 0 ∷ 0 ∷ 0 ∷ 3 ∷ 1 ∷ 0 ∷ 0 ∷ 1 ∷ 0 ∷
    1 ∷ 2 ∷ 0 ∷ 0 ∷ 0 ∷ 0 ∷ 1 ∷ 3 ∷ 1 ∷ 0 ∷ 2 ∷ 0 ∷
    []

-- R, S and the table with this header
abbrev three_with : ColumnTrie → Tables
three_with t = record { count = 3; tables = table 0 2 3 ∷ table 12 2 2 ∷ t ∷ empty_table 0 0 0 ∷ empty_table 0 0 0 ∷ empty_table 0 0 0 ∷ empty_table 0 0 0 ∷ empty_table 0 0 0 ∷ [] }

abbrev three : Tables
three = three_with (table 24 2 3)

abbrev atom : ℕ → ℕ → ℕ → Atom
atom t x y = record { table = t; len = 2; variables = x ∷ y ∷ 0 ∷ 0 ∷ 0 ∷ 0 ∷ 0 ∷ 0 ∷ []; laid_over = false; maker = 0 }

-- table s laid over table m
abbrev over : ℕ → ℕ → ℕ → ℕ → Atom
over s m x y = record { table = s; len = 2; variables = x ∷ y ∷ 0 ∷ 0 ∷ 0 ∷ 0 ∷ 0 ∷ 0 ∷ []; laid_over = true; maker = m }

abbrev zeros : List ℕ
zeros = 0 ∷ 0 ∷ 0 ∷ 0 ∷ 0 ∷ 0 ∷ 0 ∷ 0 ∷ []

abbrev noughts : List Atom
noughts = atom 0 0 0 ∷ atom 0 0 0 ∷ atom 0 0 0 ∷ atom 0 0 0 ∷ atom 0 0 0 ∷ atom 0 0 0 ∷ atom 0 0 0 ∷ []

abbrev query : ℕ → List ℕ → ℕ → List Atom → Query
query n order count atoms = record { n = n; order = take 8 (order ++ zeros); atom_count = count; atoms = take 8 (atoms ++ noughts) }

abbrev triangle_query : Query
triangle_query = query 3 (0 ∷ 1 ∷ 2 ∷ []) 3 (atom 0 0 1 ∷ atom 1 1 2 ∷ atom 2 0 2 ∷ [])

-- all rows of table s laid over table m
abbrev laid_query : ℕ → ℕ → Query
laid_query s m = query 2 (0 ∷ 1 ∷ []) 1 (over s m 0 1 ∷ [])

-- (5,9),(7,2), and (1,2),(2,3)
abbrev pairs : List ℕ
pairs = 5 ∷ 7 ∷ 0 ∷ 0 ∷ 0 ∷ 0 ∷ 9 ∷ 2 ∷ 0 ∷ 0 ∷ 1 ∷ 0 ∷ []

abbrev chained : List ℕ
chained = 1 ∷ 2 ∷ 0 ∷ 0 ∷ 0 ∷ 0 ∷ 2 ∷ 3 ∷ 0 ∷ 0 ∷ 1 ∷ 0 ∷ []

abbrev only_table : ColumnTrie → Tables
only_table t = record { count = 1; tables = t ∷ empty_table 0 0 0 ∷ empty_table 0 0 0 ∷ empty_table 0 0 0 ∷ empty_table 0 0 0 ∷ empty_table 0 0 0 ∷ empty_table 0 0 0 ∷ empty_table 0 0 0 ∷ [] }

abbrev single : Tables
single = only_table (table 0 2 2)

-- two tables of the same rows
abbrev two_alike : Tables
two_alike = record { count = 2; tables = table 0 2 2 ∷ table 12 2 2 ∷ empty_table 0 0 0 ∷ empty_table 0 0 0 ∷ empty_table 0 0 0 ∷ empty_table 0 0 0 ∷ empty_table 0 0 0 ∷ empty_table 0 0 0 ∷ [] }

-- R, S and a table without rows
abbrev one_empty : Tables
one_empty = three_with (empty_table 24 2 3)

pub record Line : Type 0 where
  pub asked : Asked
  pub must : Comes

abbrev line : Asked → Comes → Line
line asked must = record { asked = asked; must = must }

unfoldable pub starred : List Line
starred =
    line (Build (2 ∷ 4 ∷ 1 ∷ 3 ∷ 1 ∷ 2 ∷ 1 ∷ 3 ∷ []) nines 1 2 4 plain) (Table 0 (header 2 1 3 2 3) four) ∷
    line (Build [] nines 1 2 4 plain) (Table 0 (header 0 0 0 0 0) nines) ∷
    line (Insert four (header 2 1 3 2 3) (1 ∷ 3 ∷ [])) (New 0 false (header 2 1 3 2 3) four) ∷
    line (Build (2 ∷ 4 ∷ 1 ∷ 3 ∷ 1 ∷ 2 ∷ 1 ∷ 3 ∷ []) nines 1 2 4 (set (grade_only 1) 2 true)) (Table 0 (header_in (grade_only 1) 2 1 3 2 3) four) ∷
    line (Insert four (header_in (grade_only 1) 2 1 3 2 3) (2 ∷ 5 ∷ [])) (New 0 true (header_in (grade_only 1) 2 1 4 2 4) five) ∷
    line (Insert four (header_in (grade_only 2) 2 1 3 2 3) (2 ∷ 5 ∷ [])) (New 6 false (header_in (grade_only 2) 2 1 3 2 3) four) ∷
    line (Open tens (header 2 1 3 2 3) (cursor 1 0 1)) (Run 0 true (cursor 2 1 0) (3 ∷ [])) ∷
    line (Up tens (header 2 1 3 2 3) (cursor 2 1 0)) (Key 0 true (cursor 1 0 1) 20) ∷
    line (Seek Linear evens 7) (Sought 3 4) ∷
    line (Seek Binary evens 7) (Sought 3 3) ∷
    line (Seek Galloping evens 7) (Sought 3 5) ∷
    line (Seek Linear evens 17) (Sought 8 8) ∷
    line (Seek Binary evens 17) (Sought 8 3) ∷
    line (Seek Galloping evens 17) (Sought 8 6) ∷
    line (Seek Galloping evens 2) (Sought 0 1) ∷
    line (Join triangle three triangle_query (9 ∷ 9 ∷ 9 ∷ 9 ∷ 9 ∷ 9 ∷ 9 ∷ 9 ∷ 9 ∷ [])) (Rows 0 3 (1 ∷ 2 ∷ 3 ∷ 1 ∷ 3 ∷ 1 ∷ 2 ∷ 3 ∷ 1 ∷ []) 4) ∷
    line (Join triangle three triangle_query (9 ∷ 9 ∷ 9 ∷ 9 ∷ 9 ∷ 9 ∷ 9 ∷ [])) (Rows 16 0 (9 ∷ 9 ∷ 9 ∷ 9 ∷ 9 ∷ 9 ∷ 9 ∷ []) 0) ∷
    line (Join triangle three triangle_query (9 ∷ 9 ∷ 9 ∷ 9 ∷ 9 ∷ 9 ∷ [])) (Rows 12 2 (1 ∷ 2 ∷ 3 ∷ 1 ∷ 3 ∷ 1 ∷ []) 4) ∷
    line (Join triangle three triangle_query (9 ∷ 9 ∷ [])) (Rows 16 0 (9 ∷ 9 ∷ []) 0) ∷
    line (Join triangle three triangle_query []) (Rows 12 0 [] 1) ∷
    line (Join pairs single (query 2 (1 ∷ 0 ∷ []) 1 (atom 0 1 0 ∷ [])) (0 ∷ 0 ∷ 0 ∷ 0 ∷ [])) (Rows 0 2 (9 ∷ 5 ∷ 2 ∷ 7 ∷ []) 0) ∷
    line (Join chained single (query 3 (0 ∷ 1 ∷ 2 ∷ []) 2 (atom 0 0 1 ∷ atom 0 1 2 ∷ [])) (0 ∷ 0 ∷ 0 ∷ [])) (Rows 0 1 (1 ∷ 2 ∷ 3 ∷ []) 2) ∷
    line (Join chained (only_table (table_with (grade_only 1) 0 2 2)) (query 3 (0 ∷ 1 ∷ 2 ∷ []) 2 (atom 0 0 1 ∷ atom 0 1 2 ∷ [])) (0 ∷ 0 ∷ 0 ∷ [])) (Rows 15 0 (0 ∷ 0 ∷ 0 ∷ []) 0) ∷
    line (Join triangle three (laid_query 1 2) (9 ∷ 9 ∷ 9 ∷ 9 ∷ 9 ∷ 9 ∷ 9 ∷ 9 ∷ 9 ∷ 9 ∷ [])) (Rows 0 4 (1 ∷ 1 ∷ 1 ∷ 3 ∷ 2 ∷ 3 ∷ 3 ∷ 1 ∷ 9 ∷ 9 ∷ []) 0) ∷
    line (Join triangle one_empty (laid_query 2 1) (9 ∷ 9 ∷ 9 ∷ 9 ∷ 9 ∷ 9 ∷ [])) (Rows 0 2 (2 ∷ 3 ∷ 3 ∷ 1 ∷ 9 ∷ 9 ∷ []) 0) ∷
    line (Join triangle one_empty (laid_query 1 2) (9 ∷ 9 ∷ 9 ∷ 9 ∷ 9 ∷ 9 ∷ [])) (Rows 0 2 (2 ∷ 3 ∷ 3 ∷ 1 ∷ 9 ∷ 9 ∷ []) 0) ∷
    line (Join (pairs ++ pairs) two_alike (laid_query 0 1) (9 ∷ 9 ∷ 9 ∷ 9 ∷ 9 ∷ 9 ∷ [])) (Rows 0 2 (5 ∷ 9 ∷ 7 ∷ 2 ∷ 9 ∷ 9 ∷ []) 0) ∷
    line (Join triangle three (laid_query 1 1) (9 ∷ 9 ∷ 9 ∷ 9 ∷ 9 ∷ 9 ∷ [])) (Rows 0 2 (2 ∷ 3 ∷ 3 ∷ 1 ∷ 9 ∷ 9 ∷ []) 0) ∷
    line (Join triangle three (laid_query 1 3) (9 ∷ 9 ∷ [])) (Rows 9 0 (9 ∷ 9 ∷ []) 0) ∷
    line (Join triangle (three_with (table_with (grade_only 1) 24 2 3)) (laid_query 1 2) (9 ∷ 9 ∷ [])) (Rows 17 0 (9 ∷ 9 ∷ []) 0) ∷
    line (Join triangle (three_with (table_with (grade_only 1) 24 2 4)) (laid_query 1 2) (9 ∷ 9 ∷ [])) (Rows 6 0 (9 ∷ 9 ∷ []) 0) ∷
    line (Grade (pos 0)) (Word 9223372036854775808) ∷
    line (Grade (negsuc 0)) (Word 9223372036854775807) ∷
    line (Grade (pos 9223372036854775807)) (Word 18446744073709551615) ∷
    line (Grade (negsuc 9223372036854775807)) (Word 0) ∷
    []
