-- The number of a call that fills a table, check by check; what it leaves, by that number; and the header that it fills.
use Prim.Native.Nat.{ℕ, ◌<◌}
use mathlib.Core.Path.{◌≡◌, refl, ap}
use mathlib.Core.Bool.{Bool, true, false, not}
use mathlib.Core.List.{List}
use native.Mathlib.Omega.{arith}
use borrow.Author.Tests.{eq-eqb, ne_eqb}
use Rattle.relation.specs.Order.{pick}
use Rattle.relation.proofs.Tests.{not_both}
use Rattle.column_trie.specs.Table.{header_with}
use Rattle.column_trie.specs.declared.ColumnTrie.{ColumnTrie}
use Rattle.from_sorted.specs.Answer.{unless_refused}

-- ---- the number, check by check

-- a check that refuses, and one that passes
pub refuses : (b : Bool) (k x : ℕ) → b ≡ false → k ≡ pick (not b) k x
refuses true k x e = not_both true refl e
refuses false k x e = refl

pub passes : (b : Bool) (k x : ℕ) {r : ℕ} → b ≡ true → r ≡ x → r ≡ pick (not b) k x
passes true k x e h = h
passes false k x e h = not_both false e refl

-- what is 0 was not refused
pub not_refused : (b : Bool) (k x : ℕ) → 0 < k → pick (not b) k x ≡ 0 → (b ≡ true) × (x ≡ 0)
not_refused true k x h e = (refl, e)
not_refused false k x h e = absurd (omega arith)

-- ---- what is left

module _ {A : Type 0} (n : ℕ) (built refused : A) where
  pub if_built : n ≡ 0 → unless_refused n built refused ≡ built
  if_built e = ap (λ (b : Bool). pick b built refused) (eq-eqb n 0 e)

  pub if_refused : (n ≡ 0 → ⊥) → unless_refused n built refused ≡ refused
  if_refused h = ap (λ (b : Bool). pick b built refused) (ne_eqb n 0 h)

-- the same header with columns of other kinds
abbrev pub regraded : ColumnTrie → List Bool → ColumnTrie
regraded t kinds = header_with t.start t.arity t.capacity t.data_len t.interval_len t.tuple_count kinds
