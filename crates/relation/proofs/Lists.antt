-- Lists that ascend, over any relation: their parts, what is in them determines them, one behind another, and under a map. And places inside a list.
use Prim.Native.Nat.{ℕ, zero, suc, ◌<◌}
use mathlib.Core.Path.{◌≡◌, refl, sym, subst, ap₂, ◌∙◌}
use mathlib.Core.Logic.{◌⊎◌, inl, inr, ⊎_elim}
use mathlib.Core.List.Memᴰ
use mathlib.Core.List.{List, [], ◌∷◌, ◌++◌, map}
use native.Mathlib.Omega.{arith}
use native.Mathlib.Nat.{le_of_suc-le-suc}
use lib.ListN.{length, get_or}
use Rattle.relation.specs.Lists.{◌∈◌, hd, tl, not_in_nil, in_cons, Ascends, anone, amore}

module _ {A : Type 0} {R : A → A → Type 0} where
  pub ascends_head : {x : A} {xs : List A} → Ascends R (x ∷ xs) → (y : A) → y ∈ xs → R x y
  ascends_head (amore f s) = f

  pub ascends_tail : {x : A} {xs : List A} → Ascends R (x ∷ xs) → Ascends R xs
  ascends_tail (amore f s) = s

  -- two strictly ascending lists with the same elements are equal
  module _ (asym : (a b : A) → R a b → R b a → ⊥) where
    first : {x y : A} {xs ys : List A} → ((b : A) → b ∈ xs → R x b) → ((b : A) → b ∈ ys → R y b) → (x ≡ y) ⊎ (x ∈ ys) → (y ≡ x) ⊎ (y ∈ xs) → x ≡ y
    first p q (inl e) o = e
    first p q (inr m) (inl e) = sym e
    first {x} {y} p q (inr m) (inr m') = absurd (asym x y (p y m') (q x m))

    within : {x y : A} {xs ys : List A} → x ≡ y → ((b : A) → b ∈ xs → R x b) → ((b : A) → b ∈ (x ∷ xs) → b ∈ (y ∷ ys)) → (b : A) → b ∈ xs → b ∈ ys
    within {x} {y} {xs} {ys} e p f b m =
        ⊎_elim
        (λ (d : b ≡ y). absurd (let r : R x x = subst (R x) (d ∙ sym e) (p b m) in asym x x r r))
        (λ (m' : b ∈ ys). m')
        (in_cons (f b (tl m)))

    pub same_members : {xs ys : List A} → Ascends R xs → Ascends R ys → ((a : A) → a ∈ xs → a ∈ ys) → ((a : A) → a ∈ ys → a ∈ xs) → xs ≡ ys
    same_members anone anone f g = refl
    same_members anone (amore {r} q s) f g = absurd (not_in_nil (g r (hd refl)))
    same_members (amore {r} p s) anone f g = absurd (not_in_nil (f r (hd refl)))
    same_members (amore {r = x} p s) (amore {r = y} q t) f g =
        let e : x ≡ y = first p q (in_cons (f x (hd refl))) (in_cons (g y (hd refl))) in
        ap₂ {C = List A} (λ a l. a ∷ l) e (same_members s t (within e p f) (within (sym e) q g))

  -- one list behind another
  pub ascends_append : {xs ys : List A} → Ascends R xs → Ascends R ys → ((a b : A) → a ∈ xs → b ∈ ys → R a b) → Ascends R (xs ++ ys)
  ascends_append anone q f = q
  ascends_append {ys = ys} (amore {r = x} {rs = xs} p s) q f =
      amore (λ b m. ⊎_elim (λ (m' : b ∈ xs). p b m') (λ (m' : b ∈ ys). f x b (hd refl) m') (Memᴰ.append_cases xs m)) (ascends_append s q (λ a b m. f a b (tl m)))

module _ {A B : Type 0} {R : A → A → Type 0} {S : B → B → Type 0} (g : A → B) where
  pub ascends_map : {xs : List A} → ((a b : A) → a ∈ xs → b ∈ xs → R a b → S (g a) (g b)) → Ascends R xs → Ascends S (map g xs)
  ascends_map f anone = anone
  ascends_map f (amore {r = x} {rs = xs} p s) =
      amore (λ b m. let t = Memᴰ.of_map g xs m in subst (S (g x)) t.2 (f x t.0 (hd refl) (tl t.1) (p t.0 t.1))) (ascends_map (λ a b m m'. f a b (tl m) (tl m')) s)

-- inside a list it is the same what stands for a place outside
pub get_or_any : (l : List ℕ) (n x y : ℕ) → n < length l → get_or l n x ≡ get_or l n y
get_or_any [] n x y h = absurd (omega arith)
get_or_any (z ∷ l) zero x y h = refl
get_or_any (z ∷ l) (suc n) x y h = get_or_any l n x y (omega arith)

-- members by their places
module _ {A : Type 0} where
  pub get_or_in : (l : List A) (i : ℕ) (d : A) → i < length l → get_or l i d ∈ l
  get_or_in [] i d h = absurd (omega arith)
  get_or_in (x ∷ l) zero d h = hd refl
  get_or_in (x ∷ l) (suc i) d h = tl (get_or_in l i d (le_of_suc-le-suc h))

  pub in_get_or : {a : A} {l : List A} (d : A) → a ∈ l → (i : ℕ) × (i < length l) × (get_or l i d ≡ a)
  in_get_or d (hd e) = (0, omega arith, sym e)
  in_get_or d (tl m) = let t = in_get_or d m in (suc t.0, omega (arith, t.1), t.2)
