-- The layers of a table in the pool: how many, and what stands at each depth.
use Prim.Native.Nat.{ℕ, zero, suc, ◌+◌, ◌≤◌, ◌<◌}
use mathlib.Core.Path.{◌≡◌, refl, sym, ap, ◌∙◌}
use mathlib.Core.List.{List, [], ◌∷◌}
use native.Mathlib.Omega.{arith}
use lib.ListN.{length, take, drop, get_or}
use lib.Seq.{get_or-take, length-take-le}
use Rattle.relation.specs.Layers.{layer}
use Rattle.column_trie.specs.Limits.{max_arity}
use Rattle.column_trie.specs.Pool.{spot, reads}
use Rattle.column_trie.specs.Table.{data_len_at, interval_len_at, layers_in, layer_in}
pub use Rattle.column_trie.specs.Table.{Whole}
use Rattle.column_trie.specs.declared.ColumnTrie.{ColumnTrie}

length_reads : (at c : ℕ) (ks ns pool : List ℕ) → length ks ≡ length ns → length (reads at c ks ns pool) ≡ length ks
unfolding reads
length_reads at c [] ns pool e = refl
length_reads at c (k ∷ ks) [] pool e = absurd (omega arith)
length_reads at c (k ∷ ks) (n ∷ ns) pool e = ap suc (length_reads (at + c + c) c ks ns pool (omega arith))

pub reads_at : (at c : ℕ) (ks ns pool : List ℕ) (d : ℕ) → length ks ≡ length ns → d < length ks → layer (reads at c ks ns pool) d ≡ record { keys = take (get_or ks d 0) (drop (spot at c d) pool); intervals = take (get_or ns d 0) (drop (spot at c d + c) pool) }
unfolding reads spot
reads_at at c [] ns pool d e h = absurd (omega arith)
reads_at at c (k ∷ ks) [] pool d e h = absurd (omega arith)
reads_at at c (k ∷ ks) (n ∷ ns) pool zero e h = refl
reads_at at c (k ∷ ks) (n ∷ ns) pool (suc d) e h = reads_at (at + c + c) c ks ns pool d (omega arith) (omega arith)

module _ (pool : List ℕ) (t : ColumnTrie) (o : Whole t) (few : t.arity ≤ max_arity) where
  as_long : (length (take t.arity t.data_len) ≡ t.arity) × (length (take t.arity t.interval_len) ≡ t.arity)
  as_long = (length-take-le t.arity t.data_len (omega (arith, o)), length-take-le t.arity t.interval_len (omega (arith, o)))

  pub layers_length : length (layers_in pool t) ≡ t.arity
  layers_length =
      length_reads t.start t.capacity (take t.arity t.data_len) (take t.arity t.interval_len) pool (as_long.0 ∙ sym as_long.1)
      ∙ as_long.0

  pub layers_at : (d : ℕ) → d < t.arity → layer (layers_in pool t) d ≡ layer_in pool t d
  layers_at d h =
      reads_at t.start t.capacity (take t.arity t.data_len) (take t.arity t.interval_len) pool d (as_long.0 ∙ sym as_long.1) (omega (arith, as_long.0))
      ∙ (let x : get_or (take t.arity t.data_len) d 0 ≡ data_len_at t d = get_or-take t.arity t.data_len d 0 h in
      let y : get_or (take t.arity t.interval_len) d 0 ≡ interval_len_at t d = get_or-take t.arity t.interval_len d 0 h in
      cc)
