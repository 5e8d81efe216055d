-- How many leading words two rows share, as code counts them: the words passed, and what the rest of the rows shares.
use Prim.Native.Nat.{ℕ, suc, ◌+◌, ◌≤◌, ◌<◌}
use mathlib.Core.Path.{◌≡◌, refl, sym, ap, ap₂, ◌∙◌}
use mathlib.Core.List.{List, [], ◌∷◌}
use native.Mathlib.Omega.{arith}
use native.Mathlib.Numerals.{add-one}
use lib.ListN.{length, take, drop, get_or, drop_of_length-le}
use lib.Seq.{drop-cons, get_or-take, length-take-le}
use borrow.Author.Tests.{eq-eqb, ne_eqb}
use Rattle.relation.specs.Order.{Row}
use Rattle.relation.proofs.Order.{shared}

module _ (x y : ℕ) (xs ys : Row) where
  shared_same : x ≡ y → shared (x ∷ xs) (y ∷ ys) ≡ suc (shared xs ys)
  unfolding shared
  shared_same e = simp (shared, eq-eqb x y e)

  shared_apart : (x ≡ y → ⊥) → shared (x ∷ xs) (y ∷ ys) ≡ 0
  unfolding shared
  shared_apart n = simp (shared, ne_eqb x y n)

shared_none : (ys : Row) → shared [] ys ≡ 0
unfolding shared
shared_none ys = refl

-- the rows agree on their first k words
pub record Sharing (a : ℕ) (x y : List ℕ) (k : ℕ) : Type 0 where
  pub inside : k ≤ a
  pub goes : k + shared (drop k (take a x)) (drop k (take a y)) ≡ shared (take a x) (take a y)

pub sharing_start : (a : ℕ) (x y : List ℕ) → Sharing a x y 0
sharing_start a x y = record { inside = omega arith; goes = omega arith }

row_drop : (a : ℕ) (x : List ℕ) (k : ℕ) → a ≤ length x → k < a → drop k (take a x) ≡ get_or x k 0 ∷ drop (k + 1) (take a x)
row_drop a x k h b =
    drop-cons (take a x) k 0 (omega (arith, length-take-le a x h))
    ∙ ap₂ (λ (w n : ℕ). w ∷ drop n (take a x)) (get_or-take a x k 0 b) (sym (add-one k))

module _ {a : ℕ} {x y : List ℕ} {k : ℕ} (h : (a ≤ length x) × (a ≤ length y)) (s : Sharing a x y k) where
  heads : k < a → shared (drop k (take a x)) (drop k (take a y)) ≡ shared (get_or x k 0 ∷ drop (k + 1) (take a x)) (get_or y k 0 ∷ drop (k + 1) (take a y))
  heads b = ap₂ shared (row_drop a x k h.0 b) (row_drop a y k h.1 b)

  pub sharing_apart : k < a → (get_or x k 0 ≡ get_or y k 0 → ⊥) → k ≡ shared (take a x) (take a y)
  sharing_apart b n =
      let e : shared (drop k (take a x)) (drop k (take a y)) ≡ 0 = heads b ∙ shared_apart (get_or x k 0) (get_or y k 0) (drop (k + 1) (take a x)) (drop (k + 1) (take a y)) n in
      omega (arith, s.goes)

  pub sharing_on : k < a → get_or x k 0 ≡ get_or y k 0 → Sharing a x y (k + 1)
  sharing_on b n =
      let e : shared (drop k (take a x)) (drop k (take a y)) ≡ suc (shared (drop (k + 1) (take a x)) (drop (k + 1) (take a y))) = heads b ∙ shared_same (get_or x k 0) (get_or y k 0) (drop (k + 1) (take a x)) (drop (k + 1) (take a y)) n in
      record { inside = omega arith; goes = omega (arith, s.goes) }

  pub sharing_end : a ≤ k → a ≡ shared (take a x) (take a y)
  sharing_end b =
      let e : shared (drop k (take a x)) (drop k (take a y)) ≡ 0 = ap (λ (r : Row). shared r (drop k (take a y))) (drop_of_length-le (take a x) {i = k} (omega (arith, length-take-le a x h.0))) ∙ shared_none (drop k (take a y)) in
      omega (arith, s.inside, s.goes)
