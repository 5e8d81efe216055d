-- Public: what a lookup by first key gives in a table laid over another, as the array rules give it, for any pools, headers and key.
use Rattle.std.specs.Prelude.{ℕ, ◌+◌, ◌-◌, Option, Some, None, Bool, true, false, ◌&&◌, List, take, drop, eqb, ltb}
use Rattle.relation.specs.Order.{pick}
use Rattle.seek.specs.Seek.{seek_of}
use Rattle.seek.specs.declared.SeekStrategy.TheVariants.{Binary}
use Rattle.column_trie.specs.Groups.{group_from, group_to, lies}
use Rattle.column_trie.specs.Pool.{spot}
use Rattle.column_trie.specs.Table.{layer_in}
use Rattle.column_trie.specs.declared.ColumnTrie.{ColumnTrie}
use Rattle.overlay_checks.specs.Tables.{tables_number}
use Rattle.overlay_lookup.specs.declared.LookedUp.{LookedUp}
use Rattle.overlay_lookup.specs.declared.Run.{Run}

-- "checks 6, 17, then 1 below that"
unfoldable pub lookup_number : List ℕ → ColumnTrie → List ℕ → ColumnTrie → ℕ
lookup_number sp s mp m = pick (eqb (tables_number sp s mp m) 0) (pick (ltb s.arity 2) 1 0) (tables_number sp s mp m)

-- ---- one table

-- the group of interval i in layer 1, by its place in the pool
abbrev pub children_at : List ℕ → ColumnTrie → ℕ → Run
children_at pool t i =
    record { from = spot t.start t.capacity 1 + group_from (layer_in pool t 1) i; len = group_to (layer_in pool t 1) i - group_from (layer_in pool t 1) i }

-- where a search by halving among the first keys hits, its place is the interval of the key's children
unfoldable pub found_in : List ℕ → ColumnTrie → ℕ → Option Run
found_in pool t k =
    let sought = seek_of Binary (layer_in pool t 0).keys k in
    pick (sought.hit && lies (layer_in pool t 1) sought.offset) (Some (children_at pool t sought.offset)) None

-- ---- both

abbrev pub no_run : ℕ → LookedUp
no_run n = record { number = n; from_school = false; from = 0; len = 0 }

abbrev pub run_at : Bool → Run → LookedUp
run_at from_school r = record { number = 0; from_school = from_school; from = r.from; len = r.len }

-- the school's if it has the key, else the maker's
abbrev pub owners_run : Option Run → Option Run → LookedUp
owners_run (Some r) m = run_at true r
owners_run None (Some r) = run_at false r
owners_run None None = no_run 0

unfoldable pub looked_up : List ℕ → ColumnTrie → List ℕ → ColumnTrie → ℕ → LookedUp
looked_up sp s mp m k = pick (eqb (lookup_number sp s mp m) 0) (owners_run (found_in sp s k) (found_in mp m k)) (no_run (lookup_number sp s mp m))

-- the words of the run
unfoldable pub run_in : List ℕ → List ℕ → LookedUp → List ℕ
run_in sp mp r = take r.len (drop r.from (pick r.from_school sp mp))
