-- The numbers of an insert are given exactly when document 01 says, and a tuple is new exactly when it is accepted and was not there: shown both
-- ways, from facts about pool, table and tuple to the answer, and back.
use Prim.Native.Nat.{ℕ, zero, suc, ◌-◌, ◌<◌}
use mathlib.Core.Path.{◌≡◌, refl, sym, ap, ap₂, subst, subst₂, ◌∙◌}
use mathlib.Core.Bool.{Bool, true, false, not, ◌&&◌}
use mathlib.Core.Logic.{◌⊎◌, inl, inr}
use mathlib.Core.List.{List}
use native.Mathlib.Omega.{arith}
use native.Mathlib.Decide.{ℕ_discrete}
use lib.Arith.{lt_of_le-ne}
use lib.ListN.{length}
use lib.Dec.{eqb}
use borrow.Author.Tests.{eqb-true, eq-eqb, ne_eqb}
use Rattle.relation.specs.Exactly.{Exactly}
use Rattle.relation.specs.Order.{Row, pick}
use Rattle.relation.specs.Lists.{◌∈◌}
use Rattle.relation.proofs.Tests.{not_both, and_true, and_left, and_right}
use Rattle.column_trie.specs.Table.{rows_in, Undamaged, undamaged}
use Rattle.column_trie.specs.declared.ColumnTrie.{ColumnTrie}
use Rattle.column_trie.proofs.Damage.{undamaged_told, told_undamaged}
use Rattle.column_trie_insert.specs.declared.Inserted.{Inserted}
use Rattle.column_trie_insert.specs.Insert.{known, insert_number, takes_in, Inserts}
use Rattle.column_trie_path.proofs.Known.{in_known, known_in, not_known}
use Rattle.column_trie_insert.proofs.Inserts.{number_6, number_4}

-- the table is undamaged, and the tuple as long as its rows
abbrev pub SizedFor : List ℕ → ColumnTrie → Row → Type 0
SizedFor pool t tuple = Undamaged pool t × (length tuple ≡ t.arity)

-- the number n of an insert, and whether it says new
pub record Numbers (pool : List ℕ) (t : ColumnTrie) (tuple : Row) (n : ℕ) (new : Bool) : Type 0 where
  pub damaged : Exactly (n ≡ 6) (Undamaged pool t → ⊥)
  pub another_length : Exactly (n ≡ 4) (Undamaged pool t × (length tuple ≡ t.arity → ⊥))
  pub full : Exactly (n ≡ 5) (SizedFor pool t tuple × (tuple ∈ rows_in pool t → ⊥) × (t.tuple_count ≡ t.capacity))
  pub accepted : Exactly (n ≡ 0) (SizedFor pool t tuple × ((tuple ∈ rows_in pool t) ⊎ (t.tuple_count < t.capacity)))
  pub is_new : Exactly (new ≡ true) ((n ≡ 0) × (tuple ∈ rows_in pool t → ⊥))

module _ (pool : List ℕ) (t : ColumnTrie) (tuple : Row) where
  abbrev number : ℕ
  number = insert_number pool t tuple

  -- ---- from the facts to the number

  six : (Undamaged pool t → ⊥) → number ≡ 6
  six n = go (undamaged pool t) refl
    where
      go : (b : Bool) → undamaged pool t ≡ b → number ≡ 6
      go true e = absurd (n (undamaged_told pool t e))
      go false e = number_6 pool t tuple e

  four : Undamaged pool t × (length tuple ≡ t.arity → ⊥) → number ≡ 4
  four h = number_4 pool t tuple (told_undamaged pool t h.0) h.1

  module _ (f : SizedFor pool t tuple) where
    rest : number ≡ pick (not (known (rows_in pool t) tuple) && eqb t.tuple_count t.capacity) 5 0
    unfolding insert_number
    rest = simp (told_undamaged pool t f.0, eq-eqb (length tuple) t.arity f.1)

    five : (tuple ∈ rows_in pool t → ⊥) → t.tuple_count ≡ t.capacity → number ≡ 5
    five n e = rest ∙ ap₂ (λ (a b : Bool). pick (not a && b) 5 0) (not_known n) (eq-eqb t.tuple_count t.capacity e)

    none : (tuple ∈ rows_in pool t) ⊎ (t.tuple_count < t.capacity) → number ≡ 0
    none (inl m) = rest ∙ ap (λ (a : Bool). pick (not a && eqb t.tuple_count t.capacity) 5 0) (in_known m)
    none (inr h) = rest ∙ roomy (known (rows_in pool t) tuple) (eqb t.tuple_count t.capacity) (ne_eqb t.tuple_count t.capacity (λ e. omega arith))
      where
        roomy : (a b : Bool) → b ≡ false → ◌≡◌ {A = ℕ} (pick (not a && b) 5 0) 0
        roomy true b e = refl
        roomy false b e = ap (λ (x : Bool). pick x 5 0) e

    -- a count that isn't the capacity is below it
    below : (t.tuple_count ≡ t.capacity → ⊥) → t.tuple_count < t.capacity
    below n =
        let u = f.0 in
        lt_of_le-ne (omega (arith, u.layers.counted, (u.layers.room (t.arity - 1) (omega (arith, u.arity.0))).0)) n

  -- ---- and back: one of them holds, with its number

  abbrev Facts : ℕ → Type 0
  Facts zero = SizedFor pool t tuple × ((tuple ∈ rows_in pool t) ⊎ (t.tuple_count < t.capacity))
  Facts (suc zero) = ⊥
  Facts (suc (suc zero)) = ⊥
  Facts (suc (suc (suc zero))) = ⊥
  Facts (suc (suc (suc (suc zero)))) = Undamaged pool t × (length tuple ≡ t.arity → ⊥)
  Facts (suc (suc (suc (suc (suc zero))))) = SizedFor pool t tuple × (tuple ∈ rows_in pool t → ⊥) × (t.tuple_count ≡ t.capacity)
  Facts (suc (suc (suc (suc (suc (suc zero)))))) = Undamaged pool t → ⊥
  Facts (suc (suc (suc (suc (suc (suc (suc n))))))) = ⊥

  so : {n : ℕ} → number ≡ n → Facts n → Facts number
  so e f = subst Facts (sym e) f

  -- the test decides membership
  member : Dec (tuple ∈ rows_in pool t)
  member = go (known (rows_in pool t) tuple) refl
    where
      go : (b : Bool) → known (rows_in pool t) tuple ≡ b → Dec (tuple ∈ rows_in pool t)
      go true e = yes (known_in (rows_in pool t) tuple e)
      go false e = no (λ m. not_both (known (rows_in pool t) tuple) (in_known m) e)

  checked : Facts number
  checked = by_damage (undamaged pool t) refl
    where
      by_count : SizedFor pool t tuple → (tuple ∈ rows_in pool t → ⊥) → Dec (t.tuple_count ≡ t.capacity) → Facts number
      by_count f n (yes e) = so (five f n e) (f, n, e)
      by_count f n (no e) = let k = inr (below f e) in so (none f k) (f, k)

      by_member : SizedFor pool t tuple → Dec (tuple ∈ rows_in pool t) → Facts number
      by_member f (yes m) = so (none f (inl m)) (f, inl m)
      by_member f (no n) = by_count f n (ℕ_discrete t.tuple_count t.capacity)

      by_length : Undamaged pool t → Dec (length tuple ≡ t.arity) → Facts number
      by_length u (yes e) = by_member (u, e) member
      by_length u (no n) = so (four (u, n)) (u, n)

      by_damage : (b : Bool) → undamaged pool t ≡ b → Facts number
      by_damage true e = by_length (undamaged_told pool t e) (ℕ_discrete (length tuple) t.arity)
      by_damage false e = let n : Undamaged pool t → ⊥ = λ u. not_both (undamaged pool t) (told_undamaged pool t u) e in so (six n) n

  -- ---- new

  new_tells : takes_in pool t tuple ≡ true → (number ≡ 0) × (tuple ∈ rows_in pool t → ⊥)
  unfolding takes_in
  new_tells e =
      let k = known (rows_in pool t) tuple in
      let b = eqb number 0 in
      (eqb-true number 0 (and_left b (not k) e), λ m. not_both (not k) (and_right b (not k) e) (ap not (in_known m)))

  new_told : (number ≡ 0) × (tuple ∈ rows_in pool t → ⊥) → takes_in pool t tuple ≡ true
  unfolding takes_in
  new_told h = and_true (eqb number 0) (not (known (rows_in pool t) tuple)) (eq-eqb number 0 h.0) (ap not (not_known h.1))

  numbers : Numbers pool t tuple number (takes_in pool t tuple)
  numbers =
      record {
        damaged = (λ e. subst Facts e checked, six);
        another_length = (λ e. subst Facts e checked, four);
        full = (λ e. subst Facts e checked, λ h. five h.0 h.1 h.2);
        accepted = (λ e. subst Facts e checked, λ h. none h.0 h.1);
        is_new = (new_tells, new_told);
      }

pub each_number_of_an_insert_is_given_exactly_when : {pool pool' : List ℕ} {t : ColumnTrie} {tuple : Row} {r : Inserted} → Inserts pool pool' t tuple r → Numbers pool t tuple r.number r.is_new
each_number_of_an_insert_is_given_exactly_when {pool} {pool'} {t} {tuple} s = subst₂ (Numbers pool t tuple) (sym s.number) (sym s.is_new) (numbers pool t tuple)
