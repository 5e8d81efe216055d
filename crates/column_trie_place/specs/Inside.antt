-- Internal: what the public calls share, in terms of Checks.antt.
use Rattle.std.specs.Prelude.{ℕ, ◌+◌, ◌-◌, ◌≤◌, ◌≡◌, Bool, ◌&&◌, Option, Some, None, Result, Ok, Err, IfOk, List, length, take, drop, ltb, eqb}
use Rattle.refusal.specs.Number.{given}
use Rattle.refusal.specs.declared.Refusal.{Refusal}
use Rattle.refusal.specs.declared.Refusal.TheVariants.{BadCursor}
use Rattle.relation.specs.Order.{pick}
use Rattle.relation.specs.Layers.{Layer}
use Rattle.column_trie.specs.Groups.{group_from, group_to}
use Rattle.column_trie.specs.Pool.{spot}
use Rattle.column_trie.specs.Table.{data_len_at}
use Rattle.column_trie.specs.declared.ColumnTrie.{ColumnTrie}
use Rattle.column_trie_place.specs.declared.ColumnTrieIter.{ColumnTrieIter}
use Rattle.column_trie_place.specs.declared.Owner.{Owner}
use Rattle.column_trie_place.specs.declared.Place.{Place}
use Rattle.column_trie_place.specs.Checks.{layer_of, stands_below, refusal, remaining, child, count_up_to, owns}

-- a cursor below the root: its place in the pool, or 7
unfoldable pub place_below : List ℕ → ColumnTrie → ColumnTrieIter → Result Place Refusal
place_below pool t it =
    let l = layer_of pool t it in
    let from = group_from l it.interval_i + it.slice_offset in
    let data_at = spot t.start t.capacity (it.depth - 1) in
    pick (stands_below pool t it) (Ok (record { index = from; at = data_at + from; end = data_at + group_to l it.interval_i })) (Err BadCursor)

-- Where the present key and the end of its run stand in the pool, and the interval of its children, for a cursor that is not refused.
pub record PlacedAt (pool : List ℕ) (t : ColumnTrie) (it : ColumnTrieIter) (p : Place) : Type 0 where
  pub ordered : p.at ≤ p.end
  pub inside : p.end ≤ length pool
  pub passed : it.slice_offset ≤ p.at
  pub rest : take (p.end - p.at) (drop p.at pool) ≡ remaining pool t it
  pub index : p.index ≡ child pool t it

-- What the first checks find: the number, and where the cursor stands if it is 0.
pub record Placed (pool : List ℕ) (t : ColumnTrie) (it : ColumnTrieIter) (r : Result Place Refusal) : Type 0 where
  pub number : given r ≡ refusal pool t it
  pub place : IfOk r (PlacedAt pool t it)

-- open's test, by the run's two places in the pool
unfoldable pub has_children : ColumnTrie → ℕ → ℕ → ℕ → Bool
has_children t depth at end = pick (eqb depth 0) (ltb 0 (data_len_at t 0)) (ltb depth t.arity && ltb at end)

-- the owner of place i, and its offset in the owner's group; none where no interval is counted or the last one counted does not have it
abbrev pub owned_at : Layer → ℕ → ℕ → Owner
owned_at l i owner = record { interval = owner; offset = i - group_from l owner }

abbrev pub owner_or : Layer → ℕ → ℕ → Option Owner
owner_or l i owner = pick (owns l owner i) (Some (owned_at l i owner)) None

unfoldable pub owner_of : Layer → ℕ → Option Owner
owner_of l i = pick (eqb (count_up_to i l.intervals) 0) None (owner_or l i (count_up_to i l.intervals - 1))
