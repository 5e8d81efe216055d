-- A permutation of 0 to n - 1 has every number below n. Idea: n + 1 distinct numbers below n cannot be; leave n out and go on with n - 1.
use Prim.Native.Nat.{ℕ, zero, suc, ◌≤◌, ◌<◌}
use native.Mathlib.Omega.{arith}
use mathlib.Core.Path.{◌≡◌, refl, sym, ap, ◌∙◌}
use mathlib.Core.Bool.{Bool, true, false, false≢true}
use mathlib.Core.List.Memᴰ
use mathlib.Core.List.{List, [], ◌∷◌}
use mathlib.Core.Logic.{⊎_elim}
use lib.ListN.{length}
use lib.Dec.{eqb}
use borrow.Author.Tests.{eqb-true, eq-eqb, ne_eqb}
use Rattle.relation.specs.Order.{pick}
use Rattle.relation.specs.Lists.{◌∈◌, hd, tl, in_cons, anone, amore}
use Rattle.query.specs.Meaning.{Distinct, Permutation}
use Rattle.query.specs.Meet.{has, keep}
use Rattle.query.proofs.Meet.{has_in, in_has, in_keep, keep_ascends}

abbrev other : ℕ → ℕ → Bool
other n x = pick (eqb x n) false true

not_other : (n x : ℕ) → other n x ≡ true → x ≡ n → ⊥
not_other n x e d = false≢true (ap (λ (b : Bool). pick b false true) (sym (eq-eqb x n d)) ∙ e)

is_other : (n x : ℕ) → (x ≡ n → ⊥) → other n x ≡ true
is_other n x d = ap (λ (b : Bool). pick b false true) (ne_eqb x n d)

keep_all : (p : ℕ → Bool) (xs : List ℕ) → ((x : ℕ) → x ∈ xs → p x ≡ true) → keep p xs ≡ xs
unfolding keep
keep_all p [] f = refl
keep_all p (x ∷ xs) f = ap (λ (b : Bool). pick b (x ∷ keep p xs) (keep p xs)) (f x (hd refl)) ∙ ap (λ (l : List ℕ). x ∷ l) (keep_all p xs (λ y m. f y (tl m)))

one_less : (n : ℕ) {l : List ℕ} → Distinct l → length l ≤ suc (length (keep (other n) l))
unfolding keep
one_less n anone = omega arith
one_less n (amore {r = x} {rs = xs} f s) = go (one_less n s) (eqb x n) refl
  where
    go : length xs ≤ suc (length (keep (other n) xs)) → (b : Bool) → eqb x n ≡ b → suc (length xs) ≤ suc (length (pick (pick b false true) (x ∷ keep (other n) xs) (keep (other n) xs)))
    go ih true q =
        let e : length (keep (other n) xs) ≡ length xs = ap (length {A = ℕ}) (keep_all (other n) xs (λ y m. is_other n y (λ d. f y m (eqb-true x n q ∙ sym d)))) in
        omega arith
    go ih false q = omega arith

pigeons : (n : ℕ) {l : List ℕ} → Distinct l → ((x : ℕ) → x ∈ l → x < n) → length l ≤ n
pigeons zero anone f = omega arith
pigeons zero (amore {r = x} g s) f = absurd (omega (arith, f x (hd refl)))
pigeons (suc n) {l} d f =
    let ih : length (keep (other n) l) ≤ n =
    pigeons n (keep_ascends (other n) d) (λ x m. let t = in_keep (other n) l m in let ne : x ≡ n → ⊥ = not_other n x t.1 in omega (arith, f x t.0, ne)) in
    omega (arith, one_less n d)

pub cover : {n : ℕ} {order : List ℕ} → Permutation n order → (x : ℕ) → x < n → x ∈ order
cover {n} {order} p x h = go (has order x) refl
  where
    go : (b : Bool) → has order x ≡ b → x ∈ order
    go true q = has_in order x q
    go false q =
        absurd
        (let many : suc (length order) ≤ n =
        pigeons n (amore (λ y m e. false≢true (sym q ∙ in_has (Memᴰ.cast e m))) p.single)
        (λ y m. ⊎_elim (λ (e : y ≡ x). omega arith) (λ (m' : y ∈ order). p.below y m') (in_cons m)) in
        omega (arith, p.size))
