-- Of theorems: what a call on a table keeps of the pool: "Words past a length keep what they held. No call changes a pool word outside its table's own."
use Rattle.std.specs.Prelude.{ℕ, ◌+◌, ◌*◌, ◌≤◌, ◌<◌, ◌≡◌, ◌⊎◌, List, length, get_or}
use Rattle.column_trie.specs.Pool.{spot}
use Rattle.column_trie.specs.Table.{data_len_at, interval_len_at}
use Rattle.column_trie.specs.declared.ColumnTrie.{ColumnTrie}

-- From pool to pool' no word changes but those of the lists of t, the table as it is afterwards: not the pool's length, no word outside the table's
-- own 2ac, and in the c words of a list none at or behind the list's length.
pub record Kept (pool pool' : List ℕ) (t : ColumnTrie) : Type 0 where
  pub size : length pool' ≡ length pool
  pub outside : (k : ℕ) → (k < t.start) ⊎ (t.start + 2 * t.arity * t.capacity ≤ k) → get_or pool' k 0 ≡ get_or pool k 0
  pub keys : (d j : ℕ) → d < t.arity → data_len_at t d ≤ j → j < t.capacity → get_or pool' (spot t.start t.capacity d + j) 0 ≡ get_or pool (spot t.start t.capacity d + j) 0
  pub intervals : (d j : ℕ) → d < t.arity → interval_len_at t d ≤ j → j < t.capacity → get_or pool' (spot t.start t.capacity d + t.capacity + j) 0 ≡ get_or pool (spot t.start t.capacity d + t.capacity + j) 0
