-- A layer whose two lists are laid anew, the keys first: that leaves the intervals as they were, and the two together are the layer laid anew.
use Prim.Native.Nat.{ℕ, ◌+◌, ◌≤◌, ◌<◌}
use mathlib.Core.Path.{◌≡◌, sym, ap, ap₂, ◌∙◌}
use mathlib.Core.Logic.{inr}
use mathlib.Core.List.{List}
use native.Mathlib.Omega.{arith}
use lib.ListN.{length, take, drop, get_or, set}
use lib.Seq.{ext_get_or}
use Rattle.column_trie.specs.Pool.{lay, spot}
use Rattle.column_trie.specs.Table.{relengthed, data_len_at, interval_len_at, layer_in}
use Rattle.column_trie.specs.declared.ColumnTrie.{ColumnTrie}
use Rattle.column_trie.proofs.Pool.{lay_length, lay_out}
use Rattle.column_trie.proofs.Header.{LayerFits, length_part}
use Rattle.column_trie.proofs.Words.{part_at}
use Rattle.layer_by_layer.specs.Relay.{Relaid}

-- the keys of layer d, whose data starts at data-from, are f of what they were in pool₁; the intervals are still to follow
pub record Keyed (f : List ℕ → List ℕ) (pool : List ℕ) (t : ColumnTrie) (d data_from : ℕ) (pool₁ : List ℕ) : Type 0 where
  pub layer : LayerFits (length pool) t d
  pub room : length (f (take (data_len_at t d) (drop data_from pool))) ≤ t.capacity
  pub data_from_is : data_from ≡ spot t.start t.capacity d
  pub words : pool₁ ≡ lay pool data_from (f (take (data_len_at t d) (drop data_from pool)))

module _ {f : List ℕ → List ℕ} {pool : List ℕ} {t : ColumnTrie} {d data_from : ℕ} {pool₁ : List ℕ} (k : Keyed f pool t d data_from pool₁) where
  pub keyed_long : length pool₁ ≡ length pool
  keyed_long = ap length k.words ∙ lay_length pool data_from _

  -- what lies behind the data is as it was
  pub keyed_behind : (j : ℕ) → data_from + t.capacity ≤ j → get_or pool₁ j 0 ≡ get_or pool j 0
  keyed_behind j h = ap (λ (l : List ℕ). get_or l j 0) k.words ∙ lay_out pool data_from _ j 0 (inr (omega (arith, k.room)))

  intervals_kept : take (interval_len_at t d) (drop (data_from + t.capacity) pool₁) ≡ take (interval_len_at t d) (drop (data_from + t.capacity) pool)
  intervals_kept =
      ext_get_or 0 (take (interval_len_at t d) (drop (data_from + t.capacity) pool₁)) (take (interval_len_at t d) (drop (data_from + t.capacity) pool))
      (long ∙ sym (length_part pool (data_from + t.capacity) (interval_len_at t d) (omega (arith, k))))
      (λ j q. let c : j < interval_len_at t d = omega (arith, long) in part_at pool₁ (data_from + t.capacity) (interval_len_at t d) j c ∙ keyed_behind (data_from + t.capacity + j) (omega arith) ∙ sym (part_at pool (data_from + t.capacity) (interval_len_at t d) j c))
    where
      long : length (take (interval_len_at t d) (drop (data_from + t.capacity) pool₁)) ≡ interval_len_at t d
      long = length_part pool₁ (data_from + t.capacity) (interval_len_at t d) (omega (arith, keyed_long, k))

  pub keys_length : length (layer_in pool t d).keys ≡ data_len_at t d
  keys_length = length_part pool (spot t.start t.capacity d) (data_len_at t d) (omega (arith, k.layer))

  pub intervals_length : length (layer_in pool t d).intervals ≡ interval_len_at t d
  intervals_length = length_part pool (spot t.start t.capacity d + t.capacity) (interval_len_at t d) (omega (arith, k.layer))

  -- whatever the second does to the intervals
  pub laid_anew :
      (g : List ℕ → List ℕ) (pool₂ : List ℕ) (n m : ℕ) → pool₂ ≡ lay pool₁ (data_from + t.capacity) (g (take (interval_len_at t d) (drop (data_from + t.capacity) pool₁))) → n ≡ length (f (layer_in pool t d).keys) → m ≡ length (g (layer_in pool t d).intervals) →
      Relaid pool pool₂ t d (record { keys = f (layer_in pool t d).keys; intervals = g (layer_in pool t d).intervals }) (relengthed t (set t.data_len d n) (set t.interval_len d m) t.tuple_count)
  laid_anew g pool₂ n m second p q =
      record {
        words =
            second
            ∙ ap (λ (l : List ℕ). lay pool₁ (data_from + t.capacity) (g l)) intervals_kept
            ∙ ap (λ (p : List ℕ). lay p (data_from + t.capacity) (g (take (interval_len_at t d) (drop (data_from + t.capacity) pool)))) k.words
            ∙ ap
            (λ (z : ℕ). lay (lay pool z (f (take (data_len_at t d) (drop z pool)))) (z + t.capacity) (g (take (interval_len_at t d) (drop (z + t.capacity) pool))))
            k.data_from_is;
        header = ap₂ {C = ColumnTrie} (λ x y. relengthed t (set t.data_len d x) (set t.interval_len d y) t.tuple_count) p q;
      }
