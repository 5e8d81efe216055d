-- Internal: the path of a row: the place of its key in each layer.
use Rattle.std.specs.Prelude.{ℕ, suc, ◌<◌, ◌≡◌, List, [], ◌∷◌, length, drop, get_or}
use Rattle.relation.specs.Layers.{Layer}
use Rattle.relation.specs.Paths.{owner}
use Rattle.column_trie.specs.Limits.{max_arity}

-- the place of row i's key above these layers, the last of the table: its own number, and above that the parent's place
unfoldable pub ancestor : List Layer → ℕ → ℕ
ancestor [] i = i
ancestor (l ∷ ls) i = owner l.intervals (ancestor ls i)

-- the places are those of row i, one for each layer, in an array that has room for every depth
pub record OnPath (ls : List Layer) (i : ℕ) (places : List ℕ) : Type 0 where
  pub long : length places ≡ max_arity
  pub at : (d : ℕ) → d < length ls → get_or places d 0 ≡ ancestor (drop (suc d) ls) i
