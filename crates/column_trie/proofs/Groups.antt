-- A layer's lists are as long as the header says.
use Prim.Native.Nat.{ℕ, ◌+◌}
use mathlib.Core.Path.{◌≡◌}
use mathlib.Core.List.{List}
use native.Mathlib.Omega.{arith}
use lib.ListN.{length}
use Rattle.column_trie.specs.Pool.{spot}
use Rattle.column_trie.specs.Table.{layer_in, data_len_at, interval_len_at}
use Rattle.column_trie.specs.declared.ColumnTrie.{ColumnTrie}
use Rattle.column_trie.proofs.Header.{LayerFits, length_part}

module _ (pool : List ℕ) {t : ColumnTrie} {d : ℕ} (f : LayerFits (length pool) t d) where
  pub keys_long : length (layer_in pool t d).keys ≡ data_len_at t d
  keys_long = length_part pool (spot t.start t.capacity d) (data_len_at t d) (omega arith)

  pub intervals_long : length (layer_in pool t d).intervals ≡ interval_len_at t d
  intervals_long = length_part pool (spot t.start t.capacity d + t.capacity) (interval_len_at t d) (omega arith)
