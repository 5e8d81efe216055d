-- The probes of a seek are few: two counts can't wrap when they are added.
use Prim.Native.Nat.{ℕ, ◌-◌, ◌≤◌, ◌<◌, ◌^◌}
use mathlib.Core.Bool.{Bool, true, false}
use mathlib.Core.List.{List, [], ◌∷◌}
use native.Mathlib.Omega.{arith}
use native.Mathlib.Decide.{dec_lt}
use lib.ListN.{length, drop, length-take, length-drop}
use lib.Dec.{eqb}
use Rattle.relation.specs.Order.{pick}
use Rattle.seek.specs.Seek.{seek_of, galloping_of}
use Rattle.seek.specs.Probes.{digits}
use Rattle.seek.specs.declared.SeekStrategy.{SeekStrategy}
use Rattle.seek.specs.declared.SeekStrategy.TheVariants.{Linear, Binary, Galloping}
use Rattle.seek.proofs.Laws.{linear_cost, binary_cost, galloping_cost}
use Rattle.seek.proofs.Digits.{digits_fewest, least_power}
use Rattle.column_trie.specs.Groups.{keys_of}
use Rattle.column_trie.specs.declared.ColumnTrie.{ColumnTrie}
use Rattle.column_trie_place.specs.Checks.{layer_of, refusal, remaining}
use Rattle.column_trie_place.specs.declared.ColumnTrieIter.{ColumnTrieIter}
use Rattle.column_trie_iter.specs.Cursor.{unsought, seek_in, sought_of}
use Rattle.column_trie_iter.proofs.Seeks.{seek_within}

galloping_few : (run : List ℕ) (t : ℕ) → length run < 2 ^ 62 → (galloping_of run t).probes ≤ 2 ^ 62
galloping_few run t h = go (dec_lt (galloping_of run t).offset 2)
  where
    o : ℕ
    o = (galloping_of run t).offset

    go : Dec ((galloping_of run t).offset < 2) → (galloping_of run t).probes ≤ 2 ^ 62
    go (yes l) = small (dec_lt 0 (length run)) (dec_lt 0 (galloping_of run t).offset)
      where
        small : Dec (0 < length run) → Dec (0 < (galloping_of run t).offset) → (galloping_of run t).probes ≤ 2 ^ 62
        small (yes n) (yes k) = omega (arith, (galloping_cost run t).second (omega arith))
        small (yes n) (no k) = omega (arith, (galloping_cost run t).first n (omega arith))
        small (no n) k = omega (arith, (galloping_cost run t).none (omega arith))
    go (no l) =
        let d = digits_fewest ((galloping_of run t).offset - 1) 62 (omega (arith, seek_within run t Galloping)) in
        omega (arith, (galloping_cost run t).later (digits ((galloping_of run t).offset - 1)) (omega arith) (least_power (galloping_of run t).offset), d)

seek_few : (x : SeekStrategy) (run : List ℕ) (t : ℕ) → length run < 2 ^ 62 → (seek_of x run t).probes ≤ 2 ^ 62
seek_few Linear run t h = omega (arith, linear_cost run t)
seek_few Binary run t h = omega (arith, binary_cost run t, digits_fewest (length run) 62 h)
seek_few Galloping run t h = galloping_few run t h

module _ (pool : List ℕ) (t : ColumnTrie) (it : ColumnTrieIter) (x : SeekStrategy) (target : ℕ) (h : length pool < 2 ^ 62) where
  left_few : length (remaining pool t it) < 2 ^ 62
  unfolding remaining
  left_few = go (eqb it.depth 0)
    where
      go : (b : Bool) → length (pick b [] (drop it.slice_offset (keys_of (layer_of pool t it) it.interval_i))) < 2 ^ 62
      go true = omega arith
      go false = simp (length-drop, length-take) (omega arith)

  run_few : (run : List ℕ) → length run < 2 ^ 62 → (seek_in x target it run).probes ≤ 2 ^ 62
  run_few [] l = omega arith
  run_few (k ∷ ks) l = seek_few x (k ∷ ks) target l

  pub probes_few : (sought_of pool t it x target).probes ≤ 2 ^ 62
  unfolding sought_of
  probes_few = go (eqb (refusal pool t it) 0)
    where
      go : (b : Bool) → (pick b (seek_in x target it (remaining pool t it)) (unsought it (refusal pool t it))).probes ≤ 2 ^ 62
      go true = run_few (remaining pool t it) left_few
      go false = omega arith
