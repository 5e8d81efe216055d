-- Internal: the word of a row, made of its number and its path.
use Rattle.std.specs.Prelude.{ℕ, ◌≤◌, ◌<◌, ◌≡◌, List, length, get_or}
use Rattle.column_trie.specs.Limits.{max_arity}
use Rattle.permuted_rows.specs.Packed.{number_of, place_of}
use Rattle.permuted_rows.specs.Seen.{StandsIn}
use Rattle.permuted_rows.specs.declared.Permuted.{Permuted}

-- row i's number and places fit 16 bits, and the first numbers name columns
pub record Wordable (arity : ℕ) (columns path : List ℕ) (i : ℕ) : Type 0 where
  pub few : arity ≤ max_arity
  pub inside : (k : ℕ) → k < arity → get_or columns k 0 < arity
  pub low : (d : ℕ) → d < arity → get_or path d 0 < 65536
  pub number : i < 65536

-- the word has row i's number, and its places in the first three of the new columns
pub record Worded (arity : ℕ) (columns path : List ℕ) (i w : ℕ) : Type 0 where
  pub number : number_of w ≡ i
  pub places : (k : ℕ) → k < 3 → k < arity → place_of k w ≡ get_or path (get_or columns k 0) 0

-- word k is that of row k
pub record AllPacked (rows : Permuted) (words : List ℕ) : Type 0 where
  pub packed : (k : ℕ) → k < length words → StandsIn rows (get_or words k 0)
  pub number : (k : ℕ) → k < length words → number_of (get_or words k 0) ≡ k
