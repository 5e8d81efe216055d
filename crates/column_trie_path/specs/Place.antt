-- Internal: where a key stands in its group, or where it goes, and how far a tuple's keys are stored.
use Rattle.std.specs.Prelude.{ℕ, suc, ◌-◌, ◌≤◌, ◌<◌, ◌≡◌, Option, Some, None, Result, Ok, Err, List, length, take, get_or, ltb}
use Rattle.relation.specs.Order.{Row}
use Rattle.relation.specs.Lists.{◌∈◌}
use Rattle.relation.specs.Layers.{Layer}
use Rattle.relation.proofs.Insert.{PrefixStored, rank_of}
use Rattle.seek.specs.Probes.{digits}
use Rattle.column_trie.specs.Groups.{group_from, group_to}
use Rattle.column_trie_path.specs.declared.Fork.{Fork}
use Rattle.column_trie_path.specs.declared.KeyPlace.{KeyPlace}
use Rattle.column_trie_path.specs.declared.Path.{Path}

-- the group of interval i lies in the layer's data, and its keys don't fall
pub record Grouped (l : Layer) (i : ℕ) : Type 0 where
  pub there : i < length l.intervals
  pub from : group_from l i ≤ group_to l i
  pub to : group_to l i ≤ length l.keys
  pub rises : (j k : ℕ) → group_from l i ≤ j → j ≤ k → k < group_to l i → get_or l.keys j 0 ≤ get_or l.keys k 0

-- the place itself, of a key that stands there or goes there
abbrev pub either : Result ℕ ℕ → ℕ
either (Ok at) = at
either (Err at) = at

-- where a key stands in its group, or where it goes, whether the group has several, and that few keys were looked at
pub record KeyPlaceOf (l : Layer) (i key : ℕ) (p : KeyPlace) : Type 0 where
  pub from : group_from l i ≤ either p.place
  pub to : either p.place ≤ group_to l i
  pub below : (j : ℕ) → group_from l i ≤ j → j < either p.place → get_or l.keys j 0 < key
  pub found : (at : ℕ) → p.place ≡ Ok at → (at < group_to l i) × (get_or l.keys at 0 ≡ key)
  pub absent : (at : ℕ) → p.place ≡ Err at → at < group_to l i → key < get_or l.keys at 0
  pub several : p.several ≡ ltb (suc (group_from l i)) (group_to l i)
  pub few : p.probes ≤ digits (group_to l i - group_from l i)

-- a row that shares r's first lo words shares its first d
abbrev pub Alone : List Row → Row → ℕ → ℕ → Type 0
Alone rows r lo d = (q : Row) → q ∈ rows → take lo q ≡ take lo r → take d q ≡ take d r

-- a row shares r's first d words and no more
pub record Another (rows : List Row) (r : Row) (d : ℕ) : Type 0 where
  pub row : Row
  pub there : row ∈ rows
  pub shares : take d row ≡ take d r
  pub parts : take (suc d) row ≡ take (suc d) r → ⊥

-- f is the last fork among the groups of r's first d words
pub record ForkOf (rows : List Row) (r : Row) (d : ℕ) (f : Fork) : Type 0 where
  pub above : f.depth < d
  pub interval : f.interval ≡ rank_of rows r f.depth
  pub place : f.at ≡ rank_of rows r (suc f.depth)
  pub another : Another rows r f.depth
  pub alone : Alone rows r (suc f.depth) d

-- f is that fork; where there is none, all rows share r's first d words
abbrev pub LastFork : List Row → Row → ℕ → Option Fork → Type 0
LastFork rows r d None = Alone rows r 0 d
LastFork rows r d (Some f) = ForkOf rows r d f

-- how many of the tuple's leading keys are stored, the place of the last of them, and the place of the next, which isn't; and the last fork
-- on the way
pub record PathOf (a : ℕ) (rows : List Row) (r : Row) (p : Path) : Type 0 where
  pub depth : p.depth ≤ a
  pub stored : PrefixStored rows r p.depth
  pub interval : p.interval ≡ rank_of rows r p.depth
  pub leaves : p.depth < a → PrefixStored rows r (suc p.depth) → ⊥
  pub place : p.depth < a → p.at ≡ rank_of rows r (suc p.depth)
  pub fork : LastFork rows r p.depth p.fork
