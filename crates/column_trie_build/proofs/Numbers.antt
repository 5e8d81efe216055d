-- The number of a build: what each check that refuses gives, in sequence, and what 0 tells.
use Prim.Native.Nat.{ℕ, ◌+◌, ◌*◌, ◌/◌, ◌%◌, ◌≤◌, ◌<◌}
use mathlib.Core.Path.{◌≡◌, refl}
use mathlib.Core.Bool.{Bool, true, false}
use native.Mathlib.Omega.{arith}
use lib.Dec.{ltb, eqb}
use borrow.Author.Tests.{ltb-false, lt-ltb, le-ltb, leb-true, eqb-true, eq-eqb, ne_eqb}
use Rattle.relation.specs.Order.{pick}
use Rattle.column_trie.specs.Limits.{max_arity, max_capacity}
use Rattle.column_trie.specs.Table.{arity_ok, capacity_ok, lies_in}
use Rattle.column_trie.proofs.Header.{arity_told, capacity_told}
use Rattle.from_sorted.proofs.Answer.{refuses, passes, not_refused}
use Rattle.column_trie_build.specs.Build.{build_number}

module _ (words len start arity capacity : ℕ) where
  pub number_1 : arity_ok arity ≡ false → 1 ≡ build_number words len start arity capacity
  unfolding build_number
  number_1 e = refuses (arity_ok arity) 1 _ e

  module _ (a : arity_ok arity ≡ true) where
    pub number_2 : capacity_ok capacity ≡ false → 2 ≡ build_number words len start arity capacity
    unfolding build_number
    number_2 e = passes (arity_ok arity) 1 _ a (refuses (capacity_ok capacity) 2 _ e)

    module _ (c : capacity_ok capacity ≡ true) where
      pub number_3 : lies_in len start arity capacity ≡ false → 3 ≡ build_number words len start arity capacity
      unfolding build_number
      number_3 e = passes (arity_ok arity) 1 _ a (passes (capacity_ok capacity) 2 _ c (refuses (lies_in len start arity capacity) 3 _ e))

      module _ (l : lies_in len start arity capacity ≡ true) where
        pub number_4 : (words % arity ≡ 0 → ⊥) → 4 ≡ build_number words len start arity capacity
        unfolding build_number
        number_4 n =
            passes (arity_ok arity) 1 _ a
            (passes (capacity_ok capacity) 2 _ c (passes (lies_in len start arity capacity) 3 _ l (refuses (eqb (words % arity) 0) 4 _ (ne_eqb (words % arity) 0 n))))

        module _ (w : words % arity ≡ 0) where
          last : (r : ℕ) → r ≡ pick (ltb capacity (words / arity)) 5 0 → r ≡ build_number words len start arity capacity
          unfolding build_number
          last r e =
              passes (arity_ok arity) 1 _ a
              (passes (capacity_ok capacity) 2 _ c (passes (lies_in len start arity capacity) 3 _ l (passes (eqb (words % arity) 0) 4 _ (eq-eqb (words % arity) 0 w) e)))

          pub number_5 : capacity < words / arity → 5 ≡ build_number words len start arity capacity
          number_5 h = last 5 (simp (lt-ltb capacity (words / arity) h))

          pub number_0 : words / arity ≤ capacity → 0 ≡ build_number words len start arity capacity
          number_0 h = last 0 (simp (le-ltb capacity (words / arity) h))

-- what an accepted build has
pub record Accepted (words len start arity capacity : ℕ) : Type 0 where
  pub positive : 0 < arity
  pub few : arity ≤ max_arity
  pub roomy : 0 < capacity
  pub small : capacity ≤ max_capacity
  pub fits : start + 2 * arity * capacity ≤ len
  pub whole : words % arity ≡ 0
  pub room : words / arity ≤ capacity

pub accepted : (words len start arity capacity : ℕ) → build_number words len start arity capacity ≡ 0 → Accepted words len start arity capacity
unfolding build_number
accepted words len start arity capacity e =
    let p = not_refused (arity_ok arity) 1 _ (omega arith) e in
    let q = not_refused (capacity_ok capacity) 2 _ (omega arith) p.1 in
    let l = not_refused (lies_in len start arity capacity) 3 _ (omega arith) q.1 in
    let w = not_refused (eqb (words % arity) 0) 4 _ (omega arith) l.1 in
    let a = arity_told arity p.0 in
    let c = capacity_told capacity q.0 in
    record {
      positive = a.0;
      few = a.1;
      roomy = c.0;
      small = c.1;
      fits = leb-true (start + 2 * arity * capacity) len l.0;
      whole = eqb-true (words % arity) 0 w.0;
      room = within (ltb capacity (words / arity)) refl w.1;
    }
  where
    within : (b : Bool) → ltb capacity (words / arity) ≡ b → ◌≡◌ {A = ℕ} (pick b 5 0) 0 → words / arity ≤ capacity
    within true h z = absurd (omega arith)
    within false h z = ltb-false capacity (words / arity) h
