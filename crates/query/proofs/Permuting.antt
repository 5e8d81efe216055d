-- A list looked at number by number, whether it is a permutation of the numbers below its length: what the loop has found, and what each answer tells.
use Prim.Native.Nat.{ℕ, ◌+◌, ◌≤◌, ◌<◌}
use native.Mathlib.Omega.{arith}
use native.Mathlib.Decide.{ℕ_discrete}
use mathlib.Core.Path.{◌≡◌, refl, sym, ap, ◌∙◌, subst}
use mathlib.Core.Bool.{Bool, true, false, false≢true}
use mathlib.Core.List.{List}
use lib.ListN.{length, get_or, take}
use lib.Seq.{get_or-take, length-take-le}
use borrow.Author.Count.{below_more}
use Rattle.relation.specs.Lists.{◌∈◌}
use Rattle.query.specs.Meet.{has}
use Rattle.query.specs.Checks.{permutes}
use Rattle.query.proofs.Meet.{in_has, has_in, has_not, get_or_in, in_get_or}
use Rattle.query.proofs.Checks.{true_permutes, permutes_false, distinct_at, at_distinct}

-- what `contains` answers
pub has_is : (l : List ℕ) (v : ℕ) (r : Bool) → (r ≡ true → (k : ℕ) × (k < length l) × (get_or l k 0 ≡ v)) → (r ≡ false → (k : ℕ) → k < length l → get_or l k 0 ≡ v → ⊥) → r ≡ has l v
has_is l v true f g = let t = f refl in sym (in_has (subst (λ (x : ℕ). x ∈ l) t.2 (get_or_in l t.0 0 t.1)))
has_is l v false f g = sym (has_not l v (λ m. let t = in_get_or 0 m in g refl t.0 t.1 t.2))

-- the numbers before place i are below the length, and no two are the same
pub record Permuting (l : List ℕ) (i : ℕ) : Type 0 where
  pub inside : i ≤ length l
  pub below : (k : ℕ) → k < i → get_or l k 0 < length l
  pub apart : (j k : ℕ) → j < k → k < i → get_or l j 0 ≡ get_or l k 0 → ⊥

pub permuting_start : (l : List ℕ) → Permuting l 0
permuting_start l = record { inside = omega arith; below = λ k h. omega arith; apart = λ j k g h e. omega arith }

pub permuting_next : {l : List ℕ} {i : ℕ} → Permuting l i → i < length l → get_or l i 0 < length l → has (take i l) (get_or l i 0) ≡ false → Permuting l (i + 1)
permuting_next {l} {i} p h b e = record {
  inside = omega arith;
  below = below_more (λ (k : ℕ). get_or l k 0 < length l) i p.below b;
  apart = λ j k g m d. go j k g d (ℕ_discrete k i) m;
}
  where
    stood : (j : ℕ) → j < i → get_or l j 0 ≡ get_or l i 0 → has (take i l) (get_or l i 0) ≡ true
    stood j g d = in_has (subst (λ (x : ℕ). x ∈ take i l) (get_or-take i l j 0 g ∙ d) (get_or_in (take i l) j 0 (omega (arith, length-take-le i l (omega arith)))))

    go : (j k : ℕ) → j < k → get_or l j 0 ≡ get_or l k 0 → Dec (k ≡ i) → k < i + 1 → ⊥
    go j k g d (yes z) m = false≢true (sym e ∙ stood j (omega arith) (d ∙ ap (λ (x : ℕ). get_or l x 0) z))
    go j k g d (no z) m = p.apart j k g (omega arith) d

pub permuted : {l : List ℕ} {i : ℕ} → Permuting l i → length l ≤ i → true ≡ permutes (length l) l
permuted {l} {i} p h =
    sym (true_permutes (length l) l (record {
      size = refl;
      below = λ x m. let t = in_get_or 0 m in omega (arith, p.below t.0 (omega (arith, t.1)), t.2);
      single = at_distinct l (λ j k g b d. p.apart j k g (omega arith) d);
    }))

-- a number that is too large, or one that stands before
pub too_large : (l : List ℕ) (i : ℕ) → i < length l → length l ≤ get_or l i 0 → false ≡ permutes (length l) l
too_large l i h g = sym (permutes_false (length l) l (λ p. omega (arith, p.below (get_or l i 0) (get_or_in l i 0 h))))

pub twice : (l : List ℕ) (i : ℕ) → i < length l → has (take i l) (get_or l i 0) ≡ true → false ≡ permutes (length l) l
twice l i h e =
    sym (permutes_false (length l) l (λ p.
    let t = in_get_or 0 (has_in (take i l) (get_or l i 0) e) in
    let j : t.0 < i = omega (arith, t.1, length-take-le i l (omega arith)) in
    distinct_at p.single t.0 i j h (sym (get_or-take i l t.0 0 j) ∙ t.2)))
