-- Where a variable stands in an atom's list, and what stands around it in a list that follows the order: before it variables that come before it in the order, behind
-- it later ones. And the first atom that holds a variable.
use Prim.Native.Nat.{ℕ, zero, suc, ◌<◌}
use native.Mathlib.Omega.{arith}
use mathlib.Core.Path.{◌≡◌, refl, sym, subst, ap, ◌∙◌}
use mathlib.Core.Logic.{⊎_elim}
use mathlib.Core.Bool.{Bool, true, false}
use mathlib.Core.List.Memᴰ
use mathlib.Core.List.{List, [], ◌∷◌, ◌++◌}
use lib.ListN.{length, get_or, take, drop}
use lib.Dec.{eqb, ltb}
use borrow.Author.Tests.{eqb-true, eqb-false, eq-eqb, ltb-true, ltb-false, lt-ltb, le-ltb}
use Rattle.relation.specs.Order.{pick}
use Rattle.relation.specs.Lists.{◌∈◌, hd, tl, not_in_nil, in_cons}
use Rattle.relation.proofs.Lists.{ascends_head, ascends_tail}
use Rattle.query.specs.Meaning.{Atom, Distinct, follows}
use Rattle.query.specs.Descend.{nobody}
use Rattle.query.proofs.Solved.{follow_in}
use Rattle.plain.specs.Plain.{column, holder}

pub column_in : (v : ℕ) (xs : List ℕ) → v ∈ xs → column v xs < length xs
unfolding column
column_in v [] m = absurd (not_in_nil m)
column_in v (x ∷ xs) m = go (λ i. column_in v xs i) (eqb x v) refl
  where
    go : (v ∈ xs → column v xs < length xs) → (b : Bool) → eqb x v ≡ b → pick b 0 (suc (column v xs)) < suc (length xs)
    go ih true e = omega arith
    go ih false e = ⊎_elim (λ (d : v ≡ x). absurd (eqb-false x v e (sym d))) (λ (i : v ∈ xs). omega (arith, ih i)) (in_cons m)

pub column_split : (v : ℕ) (xs : List ℕ) → column v xs < length xs → xs ≡ take (column v xs) xs ++ v ∷ drop (suc (column v xs)) xs
unfolding column
column_split v [] h = absurd (omega arith)
column_split v (x ∷ xs) h = go (λ i. column_split v xs i) (eqb x v) refl h
  where
    go : (column v xs < length xs → xs ≡ take (column v xs) xs ++ v ∷ drop (suc (column v xs)) xs) → (b : Bool) → eqb x v ≡ b → pick b 0 (suc (column v xs)) < suc (length xs) → x ∷ xs ≡ take (pick b 0 (suc (column v xs))) (x ∷ xs) ++ v ∷ drop (suc (pick b 0 (suc (column v xs)))) (x ∷ xs)
    go ih true e h = ap (λ (y : ℕ). y ∷ xs) (eqb-true x v e)
    go ih false e h = ap (λ (l : List ℕ). x ∷ l) (ih (omega arith))

-- a list that follows the order, around v
pub around : (us vs : List ℕ) (v : ℕ) (xs ys : List ℕ) → Distinct (us ++ v ∷ vs) → follows (us ++ v ∷ vs) (xs ++ v ∷ ys) ≡ true → ((x : ℕ) → x ∈ xs → x ∈ us) × ((x : ℕ) → x ∈ ys → x ∈ vs)
unfolding follows
around [] vs v [] ys s e = (λ x m. absurd (not_in_nil m), λ x m. follow_in vs ys (sym (ap (λ (b : Bool). pick b (follows vs ys) (follows vs (v ∷ ys))) (eq-eqb v v refl)) ∙ e) m)
around [] vs v (a ∷ xs) ys s e = go (eqb a v) e
  where
    go : (b : Bool) → pick b (follows vs (xs ++ v ∷ ys)) (follows vs (a ∷ (xs ++ v ∷ ys))) ≡ true → ((x : ℕ) → x ∈ (a ∷ xs) → x ∈ []) × ((x : ℕ) → x ∈ ys → x ∈ vs)
    go true e = absurd (ascends_head s v (follow_in vs (xs ++ v ∷ ys) e (Memᴰ.append_right xs (hd refl))) refl)
    go false e = absurd (ascends_head s v (follow_in vs (a ∷ (xs ++ v ∷ ys)) e (tl (Memᴰ.append_right xs (hd refl)))) refl)
around (u ∷ us) vs v [] ys s e = go (λ f. around us vs v [] ys (ascends_tail s) f) (eqb v u) refl e
  where
    go : (follows (us ++ v ∷ vs) (v ∷ ys) ≡ true → ((x : ℕ) → x ∈ [] → x ∈ us) × ((x : ℕ) → x ∈ ys → x ∈ vs)) → (b : Bool) → eqb v u ≡ b → pick b (follows (us ++ v ∷ vs) ys) (follows (us ++ v ∷ vs) (v ∷ ys)) ≡ true → ((x : ℕ) → x ∈ [] → x ∈ (u ∷ us)) × ((x : ℕ) → x ∈ ys → x ∈ vs)
    go ih true q e = absurd (ascends_head s v (Memᴰ.append_right us (hd refl)) (sym (eqb-true v u q)))
    go ih false q e = (λ x m. absurd (not_in_nil m), (ih e).1)
around (u ∷ us) vs v (a ∷ xs) ys s e = go (λ f. around us vs v xs ys (ascends_tail s) f) (λ f. around us vs v (a ∷ xs) ys (ascends_tail s) f) (eqb a u) refl e
  where
    go : (follows (us ++ v ∷ vs) (xs ++ v ∷ ys) ≡ true → ((x : ℕ) → x ∈ xs → x ∈ us) × ((x : ℕ) → x ∈ ys → x ∈ vs)) → (follows (us ++ v ∷ vs) (a ∷ (xs ++ v ∷ ys)) ≡ true → ((x : ℕ) → x ∈ (a ∷ xs) → x ∈ us) × ((x : ℕ) → x ∈ ys → x ∈ vs)) → (b : Bool) → eqb a u ≡ b → pick b (follows (us ++ v ∷ vs) (xs ++ v ∷ ys)) (follows (us ++ v ∷ vs) (a ∷ (xs ++ v ∷ ys))) ≡ true → ((x : ℕ) → x ∈ (a ∷ xs) → x ∈ (u ∷ us)) × ((x : ℕ) → x ∈ ys → x ∈ vs)
    go i j true q e = (λ x m. ⊎_elim (λ (d : x ≡ a). hd (d ∙ eqb-true a u q)) (λ (n : x ∈ xs). tl ((i e).0 x n)) (in_cons m), (i e).1)
    go i j false q e = (λ x m. tl ((j e).0 x m), (j e).1)

-- atom i holds v
abbrev pub Holds : ℕ → List Atom → ℕ → Type 0
Holds v atoms i = column v (get_or atoms i nobody).vars < length (get_or atoms i nobody).vars

-- the first atom that holds v, where one does
pub holder_in : (v : ℕ) (atoms : List Atom) {a : Atom} → a ∈ atoms → v ∈ a.vars → (holder v atoms < length atoms) × Holds v atoms (holder v atoms)
unfolding holder
holder_in v [] m i = absurd (not_in_nil m)
holder_in v (b ∷ l) {a} m i = go (λ n. holder_in v l n i) (ltb (column v b.vars) (length b.vars)) refl
  where
    go : (a ∈ l → (holder v l < length l) × Holds v l (holder v l)) → (t : Bool) → ltb (column v b.vars) (length b.vars) ≡ t → (pick t 0 (suc (holder v l)) < suc (length l)) × Holds v (b ∷ l) (pick t 0 (suc (holder v l)))
    go ih true e = (omega arith, ltb-true (column v b.vars) (length b.vars) e)
    go ih false e =
        ⊎_elim {C = (suc (holder v l) < suc (length l)) × Holds v (b ∷ l) (suc (holder v l))}
        (λ (d : a ≡ b). absurd (omega (arith, ltb-false (column v b.vars) (length b.vars) e, column_in v b.vars (subst (λ (c : Atom). v ∈ c.vars) d i))))
        (λ (n : a ∈ l). (omega (arith, (ih n).0), (ih n).1))
        (in_cons m)

-- how a loop finds it
pub holder_is : (v : ℕ) (atoms : List Atom) (i : ℕ) → i < length atoms → Holds v atoms i → ((j : ℕ) → j < i → Holds v atoms j → ⊥) → holder v atoms ≡ i
unfolding holder
holder_is v [] i h g f = absurd (omega arith)
holder_is v (b ∷ l) zero h g f = ap (λ (t : Bool). pick t 0 (suc (holder v l))) (lt-ltb (column v b.vars) (length b.vars) g)
holder_is v (b ∷ l) (suc i) h g f =
    ap (λ (t : Bool). pick t 0 (suc (holder v l))) (le-ltb (column v b.vars) (length b.vars) (omega (arith, f 0 (omega arith))))
    ∙ ap suc (holder_is v l i (omega arith) g (λ j k z. f (suc j) (omega arith) z))
