-- Two runs as one: what is in the merge, that it ascends, and how it goes on from a target. Idea: an ascending list is determined by its members.
use Prim.Native.Nat.{ℕ, ◌+◌, ◌≤◌, ◌<◌}
use native.Mathlib.Omega.{arith}
use mathlib.Core.Path.{◌≡◌, refl, sym, ◌∙◌}
use mathlib.Core.Logic.{◌⊎◌, inl, inr, ⊎_elim}
use mathlib.Core.Bool.{Bool, true, false}
use mathlib.Core.List.{List, [], ◌∷◌}
use lib.ListN.{length}
use lib.Dec.{ltb}
use borrow.Author.Tests.{ltb-true, ltb-false}
use Rattle.relation.specs.Lists.{◌∈◌, hd, tl, not_in_nil, in_cons, Ascends, anone, amore}
use Rattle.relation.specs.Runs.{from}
use Rattle.relation.proofs.Lists.{ascends_head, ascends_tail}
use Rattle.relation.proofs.Runs.{in_from, from_in, from_ascends, from_least}
use Rattle.query.proofs.Meet.{same_keys}
use Rattle.overlay.specs.Merge.{put_key, merge}

in_put : (k : ℕ) (ys : List ℕ) {x : ℕ} → x ∈ put_key k ys → (x ≡ k) ⊎ (x ∈ ys)
unfolding put_key
in_put k [] {x} m = ⊎_elim (λ (e : x ≡ k). inl e) (λ (i : x ∈ []). absurd (not_in_nil i)) (in_cons m)
in_put k (y ∷ ys) {x} m = go (λ i. in_put k ys i) (ltb k y) (ltb y k) m
  where
    go : (x ∈ put_key k ys → (x ≡ k) ⊎ (x ∈ ys)) → (b c : Bool) → x ∈ elim b [ true ↦ k ∷ (y ∷ ys) | false ↦ elim c [ true ↦ y ∷ put_key k ys | false ↦ y ∷ ys ] ] → (x ≡ k) ⊎ (x ∈ (y ∷ ys))
    go ih true c i = in_cons i
    go ih false true i = ⊎_elim (λ (e : x ≡ y). inr (hd e)) (λ (j : x ∈ put_key k ys). ⊎_elim (λ (e : x ≡ k). inl e) (λ (h : x ∈ ys). inr (tl h)) (ih j)) (in_cons i)
    go ih false false i = inr i

put_self : (k : ℕ) (ys : List ℕ) → k ∈ put_key k ys
unfolding put_key
put_self k [] = hd refl
put_self k (y ∷ ys) = go (put_self k ys) (ltb k y) (ltb y k) refl refl
  where
    go : k ∈ put_key k ys → (b c : Bool) → ltb k y ≡ b → ltb y k ≡ c → k ∈ elim b [ true ↦ k ∷ (y ∷ ys) | false ↦ elim c [ true ↦ y ∷ put_key k ys | false ↦ y ∷ ys ] ]
    go ih true c p q = hd refl
    go ih false true p q = tl ih
    go ih false false p q = let e : k ≡ y = omega (arith, ltb-false k y p, ltb-false y k q) in hd e

put_old : (k : ℕ) (ys : List ℕ) {x : ℕ} → x ∈ ys → x ∈ put_key k ys
unfolding put_key
put_old k [] m = absurd (not_in_nil m)
put_old k (y ∷ ys) {x} m = go (λ i. put_old k ys i) (ltb k y) (ltb y k)
  where
    go : (x ∈ ys → x ∈ put_key k ys) → (b c : Bool) → x ∈ elim b [ true ↦ k ∷ (y ∷ ys) | false ↦ elim c [ true ↦ y ∷ put_key k ys | false ↦ y ∷ ys ] ]
    go ih true c = tl m
    go ih false true = ⊎_elim (λ (e : x ≡ y). hd e) (λ (i : x ∈ ys). tl (ih i)) (in_cons m)
    go ih false false = m

put_ascends : (k : ℕ) {ys : List ℕ} → Ascends ◌<◌ ys → Ascends ◌<◌ (put_key k ys)
unfolding put_key
put_ascends k anone = amore (λ x m. absurd (not_in_nil m)) anone
put_ascends k (amore {r = y} {rs = ys} f s) = go (put_ascends k s) (ltb k y) (ltb y k) refl refl
  where
    go : Ascends ◌<◌ (put_key k ys) → (b c : Bool) → ltb k y ≡ b → ltb y k ≡ c → Ascends ◌<◌ (elim b [ true ↦ k ∷ (y ∷ ys) | false ↦ elim c [ true ↦ y ∷ put_key k ys | false ↦ y ∷ ys ] ])
    go ih true c p q = amore {r = k} (λ x m. ⊎_elim (λ (e : x ≡ y). omega (arith, ltb-true k y p)) (λ (i : x ∈ ys). omega (arith, ltb-true k y p, f x i)) (in_cons m)) (amore f s)
    go ih false true p q = amore {r = y} (λ x m. ⊎_elim (λ (e : x ≡ k). omega (arith, ltb-true y k q)) (λ (i : x ∈ ys). f x i) (in_put k ys m)) ih
    go ih false false p q = amore f s

-- what is in the merge
pub in_merge : (xs ys : List ℕ) {k : ℕ} → k ∈ merge xs ys → (k ∈ xs) ⊎ (k ∈ ys)
unfolding merge
in_merge [] ys m = inr m
in_merge (x ∷ xs) ys {k} m = ⊎_elim (λ (e : k ≡ x). inl (hd e)) (λ (i : k ∈ merge xs ys). ⊎_elim (λ (j : k ∈ xs). inl (tl j)) (λ (j : k ∈ ys). inr j) (in_merge xs ys i)) (in_put x (merge xs ys) m)

pub merge_left : {k : ℕ} {xs : List ℕ} (ys : List ℕ) → k ∈ xs → k ∈ merge xs ys
unfolding merge
merge_left {k} ys (hd {x = x} {xs = xs} e) = rw e (put_self x (merge xs ys))
merge_left ys (tl {x = x} {xs = xs} m) = put_old x (merge xs ys) (merge_left ys m)

pub merge_right : (xs : List ℕ) {ys : List ℕ} {k : ℕ} → k ∈ ys → k ∈ merge xs ys
unfolding merge
merge_right [] m = m
merge_right (x ∷ xs) {ys} m = put_old x (merge xs ys) (merge_right xs m)

pub merge_ascends : (xs : List ℕ) {ys : List ℕ} → Ascends ◌<◌ ys → Ascends ◌<◌ (merge xs ys)
unfolding merge
merge_ascends [] s = s
merge_ascends (x ∷ xs) s = put_ascends x (merge_ascends xs s)

-- it has no more keys than the two
put_few : (k : ℕ) (ys : List ℕ) → length (put_key k ys) ≤ length ys + 1
unfolding put_key
put_few k [] = omega arith
put_few k (y ∷ ys) = go (put_few k ys) (ltb k y) (ltb y k)
  where
    go : length (put_key k ys) ≤ length ys + 1 → (b c : Bool) → length {A = ℕ} (elim b [ true ↦ k ∷ (y ∷ ys) | false ↦ elim c [ true ↦ y ∷ put_key k ys | false ↦ y ∷ ys ] ]) ≤ length (y ∷ ys) + 1
    go ih true c = omega arith
    go ih false true = omega arith
    go ih false false = omega arith

pub merge_few : (xs ys : List ℕ) → length (merge xs ys) ≤ length xs + length ys
unfolding merge
merge_few [] ys = omega arith
merge_few (x ∷ xs) ys = omega (arith, put_few x (merge xs ys), merge_few xs ys)

-- what decides a merge
pub merge_is : {xs ys zs : List ℕ} → Ascends ◌<◌ ys → Ascends ◌<◌ zs → ((k : ℕ) → k ∈ zs → (k ∈ xs) ⊎ (k ∈ ys)) → ((k : ℕ) → k ∈ xs → k ∈ zs) → ((k : ℕ) → k ∈ ys → k ∈ zs) → merge xs ys ≡ zs
merge_is {xs} {ys} {zs} s t f g h =
    same_keys (merge_ascends xs s) t
    (λ k m. ⊎_elim (g k) (h k) (in_merge xs ys m))
    (λ k m. ⊎_elim (λ (i : k ∈ xs). merge_left ys i) (λ (i : k ∈ ys). merge_right xs i) (f k m))

pub merge_none : {xs : List ℕ} → Ascends ◌<◌ xs → merge xs [] ≡ xs
merge_none {xs} s = merge_is anone s (λ k m. inl m) (λ k m. m) (λ k m. absurd (not_in_nil m))

-- the sequence of the two does not matter
pub merge_swap : {xs ys : List ℕ} → Ascends ◌<◌ xs → Ascends ◌<◌ ys → merge ys xs ≡ merge xs ys
merge_swap {xs} {ys} s u =
    merge_is s (merge_ascends xs u)
    (λ k m. ⊎_elim (λ (i : k ∈ xs). inr i) (λ (i : k ∈ ys). inl i) (in_merge xs ys m))
    (λ k m. merge_right xs m)
    (λ k m. merge_left ys m)

-- a merge cut at a target: both runs cut there
pub merge_from : (t : ℕ) {xs ys : List ℕ} → Ascends ◌<◌ xs → Ascends ◌<◌ ys → merge (from t xs) (from t ys) ≡ from t (merge xs ys)
merge_from t {xs} {ys} s u =
    merge_is (from_ascends t u) (from_ascends t (merge_ascends xs u))
    (λ k m. ⊎_elim
    (λ (i : k ∈ xs). inl (from_in t xs (from_least t (merge_ascends xs u) m) i))
    (λ (i : k ∈ ys). inr (from_in t ys (from_least t (merge_ascends xs u) m) i))
    (in_merge xs ys (in_from t (merge xs ys) m)))
    (λ k m. from_in t (merge xs ys) (from_least t s m) (merge_left ys (in_from t xs m)))
    (λ k m. from_in t (merge xs ys) (from_least t u m) (merge_right xs (in_from t ys m)))

-- its head: the lesser of the two heads, passed in each run that has it
module _ {x y : ℕ} {xs ys : List ℕ} (s : Ascends ◌<◌ (x ∷ xs)) (u : Ascends ◌<◌ (y ∷ ys)) where
  pub merge_less : x < y → merge (x ∷ xs) (y ∷ ys) ≡ x ∷ merge xs (y ∷ ys)
  merge_less h =
      merge_is u
      (amore {r = x} (λ k m. ⊎_elim (ascends_head s k) (λ (i : k ∈ (y ∷ ys)). ⊎_elim (λ (e : k ≡ y). omega arith) (λ (j : k ∈ ys). omega (arith, ascends_head u k j)) (in_cons i)) (in_merge xs (y ∷ ys) m)) (merge_ascends xs u))
      (λ k m. ⊎_elim (λ (e : k ≡ x). inl (hd e)) (λ (i : k ∈ merge xs (y ∷ ys)). ⊎_elim (λ (j : k ∈ xs). inl (tl j)) (λ (j : k ∈ (y ∷ ys)). inr j) (in_merge xs (y ∷ ys) i)) (in_cons m))
      (λ k m. ⊎_elim (λ (e : k ≡ x). hd e) (λ (i : k ∈ xs). tl (merge_left (y ∷ ys) i)) (in_cons m))
      (λ k m. tl (merge_right xs m))

  pub merge_more : y < x → merge (x ∷ xs) (y ∷ ys) ≡ y ∷ merge (x ∷ xs) ys
  merge_more h =
      merge_is u
      (amore {r = y} (λ k m. ⊎_elim (λ (i : k ∈ (x ∷ xs)). ⊎_elim (λ (e : k ≡ x). omega arith) (λ (j : k ∈ xs). omega (arith, ascends_head s k j)) (in_cons i)) (ascends_head u k) (in_merge (x ∷ xs) ys m)) (merge_ascends (x ∷ xs) (ascends_tail u)))
      (λ k m. ⊎_elim (λ (e : k ≡ y). inr (hd e)) (λ (i : k ∈ merge (x ∷ xs) ys). ⊎_elim (λ (j : k ∈ (x ∷ xs)). inl j) (λ (j : k ∈ ys). inr (tl j)) (in_merge (x ∷ xs) ys i)) (in_cons m))
      (λ k m. tl (merge_left ys m))
      (λ k m. ⊎_elim (λ (e : k ≡ y). hd e) (λ (i : k ∈ ys). tl (merge_right (x ∷ xs) i)) (in_cons m))

  pub merge_same : x ≡ y → merge (x ∷ xs) (y ∷ ys) ≡ x ∷ merge xs ys
  merge_same h =
      merge_is u
      (amore {r = x} (λ k m. ⊎_elim (ascends_head s k) (λ (i : k ∈ ys). omega (arith, ascends_head u k i)) (in_merge xs ys m)) (merge_ascends xs (ascends_tail u)))
      (λ k m. ⊎_elim (λ (e : k ≡ x). inl (hd e)) (λ (i : k ∈ merge xs ys). ⊎_elim (λ (j : k ∈ xs). inl (tl j)) (λ (j : k ∈ ys). inr (tl j)) (in_merge xs ys i)) (in_cons m))
      (λ k m. ⊎_elim (λ (e : k ≡ x). hd e) (λ (i : k ∈ xs). tl (merge_left ys i)) (in_cons m))
      (λ k m. ⊎_elim (λ (e : k ≡ y). hd (e ∙ sym h)) (λ (i : k ∈ ys). tl (merge_right xs i)) (in_cons m))
