-- Lookups, computed: a surface replaced, one added, one only the maker has, one that neither has; an empty school, an empty maker; equal tables, and one table as both.
use Prim.Native.Nat.{ℕ}
use mathlib.Core.Path.{◌≡◌, refl}
use mathlib.Core.Bool.{Bool, true, false}
use mathlib.Core.List.{List, [], ◌∷◌, map}
use lib.ListN.{replicate}
use Rattle.relation.specs.Tests.{every}
use Rattle.relation.specs.Order.{before}
use Rattle.relation.specs.Undamaged.{walk, sound, chain, rooms}
use Rattle.relation.specs.Undamaged as layers
use Rattle.seek.specs.Seek.{halves}
use Rattle.column_trie.specs.Limits.{max_arity}
use Rattle.column_trie.specs.Groups.{lies}
use Rattle.column_trie.specs.Pool.{spot, reads}
use Rattle.column_trie.specs.Table.{undamaged, header_with, padded, empty_table}
use Rattle.column_trie.specs.declared.ColumnTrie.{ColumnTrie}
use Rattle.laid_over.specs.Shape.{same_shape}
use Rattle.overlay_checks.specs.Tables.{tables_number}
use Rattle.overlay_lookup.specs.Lookup.{lookup_number, found_in, looked_up, run_in}

-- tables of arity 2 and capacity 3, one behind the other: the school's (1,7) (5,8); the maker's (1,9) (3,2) (3,4); the school's rows again; a table without rows
abbrev pool : List ℕ
pool =
    1 ∷ 5 ∷ 0 ∷ 0 ∷ 0 ∷ 0 ∷ 7 ∷ 8 ∷ 0 ∷ 0 ∷ 1 ∷ 0 ∷
    1 ∷ 3 ∷ 0 ∷ 0 ∷ 0 ∷ 0 ∷ 9 ∷ 2 ∷ 4 ∷ 0 ∷ 1 ∷ 0 ∷
    1 ∷ 5 ∷ 0 ∷ 0 ∷ 0 ∷ 0 ∷ 7 ∷ 8 ∷ 0 ∷ 0 ∷ 1 ∷ 0 ∷
    0 ∷ 0 ∷ 0 ∷ 0 ∷ 0 ∷ 0 ∷ 0 ∷ 0 ∷ 0 ∷ 0 ∷ 0 ∷ 0 ∷
    []

abbrev table : ℕ → ℕ → ℕ → ColumnTrie
table start keys count = header_with start 2 3 (padded (keys ∷ count ∷ [])) (padded (1 ∷ keys ∷ [])) count (replicate max_arity false)

abbrev school : ColumnTrie
school = table 0 2 2

abbrev maker : ColumnTrie
maker = table 12 2 3

abbrev again : ColumnTrie
again = table 24 2 2

abbrev empty : ColumnTrie
empty = empty_table 36 2 3

record Case : Type 0 where
  over : ColumnTrie
  under : ColumnTrie
  key : ℕ

abbrev case : ColumnTrie → ColumnTrie → ℕ → Case
case s m k = record { over = s; under = m; key = k }

record Comes : Type 0 where
  number : ℕ
  from_school : Bool
  run : List ℕ

abbrev comes : Bool → List ℕ → Comes
comes b run = record { number = 0; from_school = b; run = run }

abbrev asked : Case → Comes
asked c = let r = looked_up pool c.over pool c.under c.key in record { number = r.number; from_school = r.from_school; run = run_in pool pool r }

worked : map asked (
    case school maker 1 ∷ case school maker 5 ∷ case school maker 3 ∷ case school maker 4 ∷
    case empty maker 1 ∷ case empty maker 5 ∷ case school empty 1 ∷ case school empty 3 ∷ case empty empty 1 ∷
    case school again 5 ∷ case school again 3 ∷ case school school 1 ∷ case maker maker 3 ∷ [])
    ≡
    comes true (7 ∷ []) ∷ comes true (8 ∷ []) ∷ comes false (2 ∷ 4 ∷ []) ∷ comes false [] ∷
    comes false (9 ∷ []) ∷ comes false [] ∷ comes true (7 ∷ []) ∷ comes false [] ∷ comes false [] ∷
    comes true (8 ∷ []) ∷ comes false [] ∷ comes true (7 ∷ []) ∷ comes true (2 ∷ 4 ∷ []) ∷ []
unfolding every before walk sound chain rooms layers.undamaged halves lies spot reads undamaged same_shape tables_number lookup_number found_in looked_up run_in
worked = refl
