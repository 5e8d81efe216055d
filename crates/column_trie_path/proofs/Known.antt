-- The test whether a row is there decides membership.
use Prim.Native.Nat.{ℕ}
use mathlib.Core.Path.{◌≡◌, refl, ap, subst}
use mathlib.Core.Bool.{Bool, true, false, ◌||◌}
use mathlib.Core.List.{List, [], ◌∷◌}
use native.Mathlib.Omega.{arith}
use Rattle.relation.specs.Order.{Row}
use Rattle.relation.specs.Lists.{◌∈◌, hd, tl}
use Rattle.relation.specs.Rows.{same}
use Rattle.relation.proofs.Tests.{T_true, true_T}
use Rattle.relation.proofs.Sorting.{same→eq, same_refl}
use Rattle.column_trie_path.specs.Known.{known}

-- the test decides membership
pub in_known : {r : Row} {rows : List Row} → r ∈ rows → known rows r ≡ true
unfolding known
in_known {r} (hd {x = q} {xs = qs} e) = ap (λ (b : Bool). b || known qs r) (subst (λ (z : Row). same r z ≡ true) e (T_true (same r r) (same_refl r)))
in_known {r} (tl {x = q} {xs = qs} m) = go (same r q) (in_known m)
  where
    go : (b : Bool) → known qs r ≡ true → (b || known qs r) ≡ true
    go true e = refl
    go false e = e

pub known_in : (rows : List Row) (r : Row) → known rows r ≡ true → r ∈ rows
unfolding known
known_in [] r e = let z : ◌≡◌ {A = ℕ} 0 1 = cc in absurd (omega arith)
known_in (q ∷ qs) r e = go (known_in qs r) (same r q) refl e
  where
    go : (known qs r ≡ true → r ∈ qs) → (b : Bool) → same r q ≡ b → (b || known qs r) ≡ true → r ∈ (q ∷ qs)
    go ih true f e = hd (same→eq r q (true_T (same r q) f))
    go ih false f e = tl (ih e)

pub not_known : {r : Row} {rows : List Row} → (r ∈ rows → ⊥) → known rows r ≡ false
not_known {r} {rows} n = go (known rows r) refl
  where
    go : (b : Bool) → known rows r ≡ b → known rows r ≡ false
    go true e = absurd (n (known_in rows r e))
    go false e = e
