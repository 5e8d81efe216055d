-- Internal: a table with one of its layers written anew.
use Rattle.std.specs.Prelude.{ℕ, ◌+◌, ◌≡◌, List, length, set}
use Rattle.relation.specs.Layers.{Layer}
use Rattle.column_trie.specs.Pool.{lay, spot}
use Rattle.column_trie.specs.Table.{relengthed}
use Rattle.column_trie.specs.declared.ColumnTrie.{ColumnTrie}

-- the pool with the lists of layer d written anew, and the header with their lengths
abbrev pub relaid : List ℕ → ColumnTrie → ℕ → Layer → List ℕ
relaid pool t d l = lay (lay pool (spot t.start t.capacity d) l.keys) (spot t.start t.capacity d + t.capacity) l.intervals

abbrev pub resized : ColumnTrie → ℕ → Layer → ColumnTrie
resized t d l = relengthed t (set t.data_len d (length l.keys)) (set t.interval_len d (length l.intervals)) t.tuple_count

pub record Relaid (pool pool' : List ℕ) (t : ColumnTrie) (d : ℕ) (l : Layer) (r : ColumnTrie) : Type 0 where
  pub words : pool' ≡ relaid pool t d l
  pub header : r ≡ resized t d l
