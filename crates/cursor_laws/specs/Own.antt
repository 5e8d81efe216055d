-- Of theorems: that no call reads outside the table, as a fact about answers: pools that hold the same words where the table lies get the same ones.
use Rattle.std.specs.Prelude.{ℕ, ◌*◌, ◌≡◌, List, length, take, drop}
use Rattle.seek.specs.declared.SeekStrategy.{SeekStrategy}
use Rattle.column_trie.specs.declared.ColumnTrie.{ColumnTrie}
use Rattle.column_trie_iter.specs.Cursor.{key_of, next_of, sought_of, end_of, open_of, up_of}
use Rattle.column_trie_place.specs.declared.ColumnTrieIter.{ColumnTrieIter}

-- equally long, and the same words where the table lies
pub record SameTable (t : ColumnTrie) (pool pool' : List ℕ) : Type 0 where
  pub long : length pool ≡ length pool'
  pub words : take (2 * t.arity * t.capacity) (drop t.start pool) ≡ take (2 * t.arity * t.capacity) (drop t.start pool')

pub record SameAnswers (t : ColumnTrie) (it : ColumnTrieIter) (pool pool' : List ℕ) : Type 0 where
  pub key : key_of pool t it ≡ key_of pool' t it
  pub next : next_of pool t it ≡ next_of pool' t it
  pub seek : (s : SeekStrategy) (target : ℕ) → sought_of pool t it s target ≡ sought_of pool' t it s target
  pub end : end_of pool t it ≡ end_of pool' t it
  pub opened : open_of pool t it ≡ open_of pool' t it
  pub up : up_of pool t it ≡ up_of pool' t it
