-- The number of a rebuild: what each check that refuses gives, in sequence, and what 0 tells.
use Prim.Native.Nat.{ℕ, ◌+◌, ◌*◌, ◌≤◌, ◌<◌}
use mathlib.Core.Path.{◌≡◌, refl}
use mathlib.Core.Bool.{Bool, true, false}
use mathlib.Core.List.{List}
use native.Mathlib.Omega.{arith}
use lib.ListN.{take}
use lib.Dec.{ltb}
use borrow.Author.Tests.{ltb-false, lt-ltb, le-ltb, leb-true}
use Rattle.relation.specs.Order.{pick}
use Rattle.query.specs.Meaning.{Permutation}
use Rattle.query.specs.Checks.{permutes}
use Rattle.query.proofs.Checks.{permutes_true}
use Rattle.column_trie.specs.Limits.{max_capacity}
use Rattle.column_trie.specs.Table.{undamaged, capacity_ok, lies_in}
use Rattle.column_trie.specs.declared.ColumnTrie.{ColumnTrie}
use Rattle.column_trie.proofs.Header.{capacity_told}
use Rattle.from_sorted.proofs.Answer.{refuses, passes, not_refused}
use Rattle.column_trie_permute.specs.Permute.{permute_number}

module _ (pool : List ℕ) (t : ColumnTrie) (columns : List ℕ) (len start capacity : ℕ) where
  abbrev number : ℕ
  number = permute_number pool t columns len start capacity

  abbrev good : Bool
  good = permutes t.arity (take t.arity columns)

  pub number_6 : undamaged pool t ≡ false → 6 ≡ number
  unfolding permute_number
  number_6 e = refuses (undamaged pool t) 6 _ e

  module _ (u : undamaged pool t ≡ true) where
    pub number_8 : good ≡ false → 8 ≡ number
    unfolding permute_number
    number_8 e = passes (undamaged pool t) 6 _ u (refuses good 8 _ e)

    module _ (g : good ≡ true) where
      pub number_2 : capacity_ok capacity ≡ false → 2 ≡ number
      unfolding permute_number
      number_2 e = passes (undamaged pool t) 6 _ u (passes good 8 _ g (refuses (capacity_ok capacity) 2 _ e))

      module _ (c : capacity_ok capacity ≡ true) where
        pub number_3 : lies_in len start t.arity capacity ≡ false → 3 ≡ number
        unfolding permute_number
        number_3 e = passes (undamaged pool t) 6 _ u (passes good 8 _ g (passes (capacity_ok capacity) 2 _ c (refuses (lies_in len start t.arity capacity) 3 _ e)))

        module _ (l : lies_in len start t.arity capacity ≡ true) where
          last : (r : ℕ) → r ≡ pick (ltb capacity t.tuple_count) 5 0 → r ≡ number
          unfolding permute_number
          last r e = passes (undamaged pool t) 6 _ u (passes good 8 _ g (passes (capacity_ok capacity) 2 _ c (passes (lies_in len start t.arity capacity) 3 _ l e)))

          pub number_5 : capacity < t.tuple_count → 5 ≡ number
          number_5 h = last 5 (simp (lt-ltb capacity t.tuple_count h))

          pub number_0 : t.tuple_count ≤ capacity → 0 ≡ number
          number_0 h = last 0 (simp (le-ltb capacity t.tuple_count h))

-- what an accepted rebuild has
pub record Accepted (pool : List ℕ) (t : ColumnTrie) (columns : List ℕ) (len start capacity : ℕ) : Type 0 where
  pub sound : undamaged pool t ≡ true
  pub permutation : Permutation t.arity (take t.arity columns)
  pub roomy : 0 < capacity
  pub small : capacity ≤ max_capacity
  pub fits : start + 2 * t.arity * capacity ≤ len
  pub room : t.tuple_count ≤ capacity

pub accepted : (pool : List ℕ) (t : ColumnTrie) (columns : List ℕ) (len start capacity : ℕ) → permute_number pool t columns len start capacity ≡ 0 → Accepted pool t columns len start capacity
unfolding permute_number
accepted pool t columns len start capacity e =
    let p = not_refused (undamaged pool t) 6 _ (omega arith) e in
    let g = not_refused (permutes t.arity (take t.arity columns)) 8 _ (omega arith) p.1 in
    let q = not_refused (capacity_ok capacity) 2 _ (omega arith) g.1 in
    let l = not_refused (lies_in len start t.arity capacity) 3 _ (omega arith) q.1 in
    let c = capacity_told capacity q.0 in
    record {
      sound = p.0;
      permutation = permutes_true t.arity (take t.arity columns) g.0;
      roomy = c.0;
      small = c.1;
      fits = leb-true (start + 2 * t.arity * capacity) len l.0;
      room = within (ltb capacity t.tuple_count) refl l.1;
    }
  where
    within : (b : Bool) → ltb capacity t.tuple_count ≡ b → ◌≡◌ {A = ℕ} (pick b 5 0) 0 → t.tuple_count ≤ capacity
    within true h z = absurd (omega arith)
    within false h z = ltb-false capacity t.tuple_count h
