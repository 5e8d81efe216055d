-- The row behind the last one that a table holds: it is appended from the first column on in which it differs from that one, and not at all if in none.
use Prim.Native.Nat.{ℕ, ◌+◌, ◌-◌, ◌≤◌, ◌<◌}
use mathlib.Core.Path.{◌≡◌, sym, ap, ap₂, ◌∙◌, subst}
use mathlib.Core.List.{List, []}
use native.Mathlib.Omega.{arith}
use lib.ListN.{length, take, get_or}
use Rattle.relation.specs.Order.{Row}
use Rattle.relation.proofs.Lists.{get_or_in}
use Rattle.relation.proofs.Order.{shared}
use Rattle.column_trie.specs.declared.ColumnTrie.{ColumnTrie}
use Rattle.from_sorted.specs.Push.{Pushing, Pushed, Filled, Following}
use Rattle.from_sorted.proofs.Fill.{pushing_next, filled_next, filled_equal, pushed}

module _ {len : ℕ} {t : ColumnTrie} {rows : List Row} {pool₀ pool ks is : List ℕ} {i : ℕ} {last row : Row} (f : Following len t rows pool₀ pool ks is i last row) where
  pub last_long : length last ≡ t.arity
  last_long = ap length f.last_is ∙ f.width (get_or rows (i - 1) []) (get_or_in rows (i - 1) [] (omega (arith, f.filled.low, f.more)))

  pub row_long : length row ≡ t.arity
  row_long = ap length f.row_is ∙ f.width (get_or rows i []) (get_or_in rows i [] f.more)

  module _ (d : ℕ) (e : d ≡ shared last row) where
    known : d ≡ shared (get_or rows (i - 1) []) (get_or rows i [])
    known = e ∙ ap₂ shared f.last_is f.row_is

    pub pushing_row : d < t.arity → Pushing (length pool) t ks is (take i rows) (get_or rows i []) d (d + 1)
    pushing_row b = subst (λ (n : ℕ). Pushing n t ks is (take i rows) (get_or rows i []) d (d + 1)) (sym f.same) (pushing_next f.filling f.width d f.filled f.more known b)

    pub followed_row : {pool' ks' is' : List ℕ} → d < t.arity → length pool' ≡ length pool → Pushed pool t ks is row d (d + 1) pool' ks' is' → Filled t rows pool₀ pool' ks' is' (i + 1)
    followed_row b l p = filled_next f.filling f.width f.filled f.more l (pushed f.row_is (pushing_row b) p)

    pub followed_equal : t.arity ≤ d → Filled t rows pool₀ pool ks is (i + 1)
    followed_equal b = filled_equal f.filling f.width f.filled f.more (omega (arith, known))
