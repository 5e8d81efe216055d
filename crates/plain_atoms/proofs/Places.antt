-- Where a loop finds a variable in an atom's list, and the first words of a row's part.
use Prim.Native.Nat.{ℕ, zero, suc, ◌+◌, ◌≤◌, ◌<◌}
use native.Mathlib.Omega.{arith}
use mathlib.Core.Path.{◌≡◌, refl, sym, subst, ap, ◌∙◌}
use mathlib.Core.Bool.{Bool, true, false}
use mathlib.Core.List.{List, [], ◌∷◌}
use lib.ListN.{length, get_or, take}
use lib.Dec.{eqb}
use borrow.Author.Tests.{eqb-true, ltb-true, ltb-false}
use Rattle.std.specs.Prelude.{Option, Some, None, position, cond, nat_lt, ◌==◌}
use Rattle.std.specs.List.{position_or_len}
use Rattle.std.proofs.lemmas.List.Recursion.{is_position_or_len}
use Rattle.relation.specs.Order.{Row, pick}
use Rattle.query.specs.Meaning.{part}
use Rattle.plain.specs.Plain.{column}
use Rattle.join_query.specs.Query.{vars_of}
use Rattle.join_query.specs.declared.Atom.{Atom}

pub column_le : (v : ℕ) (xs : List ℕ) → column v xs ≤ length xs
unfolding column
column_le v [] = omega arith
column_le v (x ∷ xs) = go (eqb x v) (column_le v xs)
  where
    go : (b : Bool) → column v xs ≤ length xs → pick b 0 (suc (column v xs)) ≤ suc (length xs)
    go true h = omega arith
    go false h = omega arith

-- it is the place that the library's `position` finds
column_place : (v : ℕ) (xs : List ℕ) → column v xs ≡ position_or_len (λ w. w == v) xs
unfolding column
column_place v = is_position_or_len (column v) (λ w. w == v) refl (λ x xs. go (eqb x v) (column v xs))
  where
    go : (b : Bool) (n : ℕ) → pick b 0 (suc n) ≡ cond b 0 (1 + n)
    go true n = refl
    go false n = omega arith

-- what `position` answers, by cases
cases : (n l : ℕ) → n ≤ l → (P : Option ℕ → Type 0) → ((n < l) → P (Some n)) → ((n ≡ l) → P None) → P (cond (nat_lt n l) (Some n) None)
cases n l h P f g = go (nat_lt n l) refl
  where
    go : (b : Bool) → nat_lt n l ≡ b → P (cond b (Some n) None)
    go true e = f (ltb-true n l e)
    go false e = g (omega (arith, h, ltb-false n l e))

module _ (a : Atom) (v : ℕ) where
  abbrev Is : Option ℕ → Type 0
  Is None = column v (vars_of a) ≡ length (vars_of a)
  Is (Some c) = (c ≡ column v (vars_of a)) × (c < length (vars_of a))

  is : Is (position (λ w. w == v) (vars_of a))
  is =
      let e = column_place v (vars_of a) in
      cases (position_or_len (λ w. w == v) (vars_of a)) (length (vars_of a)) (omega (arith, e, column_le v (vars_of a))) Is (λ h. (sym e, h)) (λ q. e ∙ q)

  pub column_some : {c : ℕ} → Some c ≡ position (λ w. w == v) (vars_of a) → (c ≡ column v (vars_of a)) × (c < length (vars_of a))
  column_some e = subst Is (sym e) is

  pub column_none : None ≡ position (λ w. w == v) (vars_of a) → column v (vars_of a) ≡ length (vars_of a)
  column_none e = subst Is (sym e) is

pub column_var : (v : ℕ) (xs : List ℕ) → column v xs < length xs → get_or xs (column v xs) 0 ≡ v
unfolding column
column_var v [] h = absurd (omega arith)
column_var v (x ∷ xs) h = go (eqb x v) refl (column_var v xs) h
  where
    go : (b : Bool) → eqb x v ≡ b → (column v xs < length xs → get_or xs (column v xs) 0 ≡ v) → pick b 0 (suc (column v xs)) < suc (length xs) → get_or (x ∷ xs) (pick b 0 (suc (column v xs))) 0 ≡ v
    go true e ih h = eqb-true x v e
    go false e ih h = ih (omega arith)

pub take_part : (n : ℕ) (xs : List ℕ) (row : Row) → take n (part xs row) ≡ part (take n xs) row
take_part zero xs row = refl
take_part (suc n) [] row = refl
take_part (suc n) (x ∷ xs) row = ap (λ (l : List ℕ). get_or row x 0 ∷ l) (take_part n xs row)
