-- The rows after a given one, of any rows: which they are, that they keep the rows' sequence, and that of rows that ascend they are the ones behind.
-- Idea: each law goes down the rows by the test of the first.
use Prim.Native.Nat.{ℕ}
use mathlib.Core.Path.{◌≡◌, refl, sym, subst, ap, ap₂, ◌∙◌}
use mathlib.Core.Logic.{⊎_elim}
use mathlib.Core.Bool.{Bool, true, false, false≢true}
use mathlib.Core.List.Memᴰ
use mathlib.Core.List.{List, [], ◌∷◌, ◌++◌, flat_map}
use Rattle.relation.specs.Order.{Row, pick, before, ◌≺◌}
use Rattle.relation.specs.Lists.{◌∈◌, hd, tl, not_in_nil, in_cons, Ascends, anone, amore}
use Rattle.relation.proofs.Tests.{T_true, true_T}
use Rattle.relation.proofs.Order.{≺→before, before→≺, irrefl, trans, asym}
use Rattle.query.specs.Meaning.{part}
use Rattle.rows_after.specs.After.{after_row}

-- the test as a fact
pub before_true : {a b : Row} → a ≺ b → before a b ≡ true
before_true {a} {b} h = T_true (before a b) (≺→before h)

pub before_false : {a b : Row} → (a ≺ b → ⊥) → before a b ≡ false
before_false {a} {b} n = go (before a b) refl
  where
    go : (t : Bool) → before a b ≡ t → t ≡ false
    go true e = absurd (n (before→≺ a b (true_T (before a b) e)))
    go false e = refl

module _ (order : List ℕ) (given : Row) where
  -- the rows after the given one
  abbrev those : List Row → List Row
  those rows = after_row order given rows

  abbrev Later : Row → Type 0
  Later r = part order given ≺ part order r

  -- one row more, by the test of it
  after_later : (r : Row) (rows : List Row) → Later r → those (r ∷ rows) ≡ r ∷ those rows
  unfolding after_row
  after_later r rows h = ap (λ (b : Bool). pick b (r ∷ those rows) (those rows)) (before_true h)

  after_not : (r : Row) (rows : List Row) → (Later r → ⊥) → those (r ∷ rows) ≡ those rows
  unfolding after_row
  after_not r rows n = ap (λ (b : Bool). pick b (r ∷ those rows) (those rows)) (before_false n)

  -- which they are
  pub in_after : (rows : List Row) {r : Row} → r ∈ after_row order given rows → (r ∈ rows) × (part order given ≺ part order r)
  unfolding after_row
  in_after [] m = absurd (not_in_nil m)
  in_after (q ∷ rows) {r} m = go (λ i. in_after rows i) (before (part order given) (part order q)) refl m
    where
      go : (r ∈ those rows → (r ∈ rows) × Later r) → (b : Bool) → before (part order given) (part order q) ≡ b → r ∈ pick b (q ∷ those rows) (those rows) → (r ∈ (q ∷ rows)) × Later r
      go ih true e m =
          ⊎_elim {C = (r ∈ (q ∷ rows)) × Later r}
          (λ (d : r ≡ q). (hd d, subst Later (sym d) (before→≺ (part order given) (part order q) (true_T (before (part order given) (part order q)) e))))
          (λ (i : r ∈ those rows). (tl (ih i).0, (ih i).1))
          (in_cons m)
      go ih false e m = (tl (ih m).0, (ih m).1)

  pub after_in : {r : Row} {rows : List Row} → r ∈ rows → part order given ≺ part order r → r ∈ after_row order given rows
  unfolding after_row
  after_in {r} (hd {x = q} {xs = rows} e) h = subst (λ (l : List Row). r ∈ l) (sym (after_later q rows (subst Later e h))) (hd e)
  after_in {r} (tl {x = q} {xs = rows} m) h = go (before (part order given) (part order q)) (after_in m h)
    where
      go : (b : Bool) → r ∈ those rows → r ∈ pick b (q ∷ those rows) (those rows)
      go true i = tl i
      go false i = i

  pub after_ascends : {R : Row → Row → Type 0} {rows : List Row} → Ascends R rows → Ascends R (after_row order given rows)
  unfolding after_row
  after_ascends anone = anone
  after_ascends {R} (amore {r = q} {rs = rows} f s) = go (after_ascends s) (before (part order given) (part order q))
    where
      go : Ascends R (those rows) → (b : Bool) → Ascends R (pick b (q ∷ those rows) (those rows))
      go ih true = amore (λ r m. f r (in_after rows m).0) ih
      go ih false = ih

  -- all of them, and none
  pub after_all : (rows : List Row) → ((r : Row) → r ∈ rows → part order given ≺ part order r) → after_row order given rows ≡ rows
  unfolding after_row
  after_all [] f = refl
  after_all (r ∷ rows) f = after_later r rows (f r (hd refl)) ∙ ap (λ (l : List Row). r ∷ l) (after_all rows (λ q m. f q (tl m)))

  pub after_none : (rows : List Row) → ((r : Row) → r ∈ rows → part order given ≺ part order r → ⊥) → after_row order given rows ≡ []
  unfolding after_row
  after_none [] f = refl
  after_none (r ∷ rows) f = after_not r rows (f r (hd refl)) ∙ after_none rows (λ q m. f q (tl m))

  pub after_append : (xs ys : List Row) → after_row order given (xs ++ ys) ≡ after_row order given xs ++ after_row order given ys
  unfolding after_row
  after_append [] ys = refl
  after_append (r ∷ xs) ys = ap (λ (l : List Row). pick t (r ∷ l) l) (after_append xs ys) ∙ go t
    where
      t : Bool
      t = before (part order given) (part order r)

      go : (b : Bool) → pick b (r ∷ (those xs ++ those ys)) (those xs ++ those ys) ≡ pick b (r ∷ those xs) (those xs) ++ those ys
      go true = refl
      go false = refl

  pub after_flat_map : (f : ℕ → List Row) (ks : List ℕ) → after_row order given (flat_map f ks) ≡ flat_map (λ (k : ℕ). after_row order given (f k)) ks
  unfolding after_row flat_map
  after_flat_map f [] = refl
  after_flat_map f (k ∷ ks) = after_append (f k) (flat_map f ks) ∙ ap (λ (l : List Row). those (f k) ++ l) (after_flat_map f ks)

-- only the words of the order's variables count
pub after_same : (order : List ℕ) (g h : Row) → part order g ≡ part order h → (rows : List Row) → after_row order g rows ≡ after_row order h rows
unfolding after_row
after_same order g h e [] = refl
after_same order g h e (r ∷ rows) = ap₂ (λ (p : Row) (l : List Row). pick (before p (part order r)) (r ∷ l) l) e (after_same order g h e rows)

-- those after a later row are among those after an earlier one
pub after_after : (order : List ℕ) (given r : Row) → part order given ≺ part order r → (rows : List Row) → after_row order r (after_row order given rows) ≡ after_row order r rows
unfolding after_row
after_after order given r h [] = refl
after_after order given r h (q ∷ rows) = go (after_after order given r h rows) (before (part order given) (part order q)) refl
  where
    go : after_row order r (after_row order given rows) ≡ after_row order r rows → (b : Bool) → before (part order given) (part order q) ≡ b → after_row order r (pick b (q ∷ after_row order given rows) (after_row order given rows)) ≡ after_row order r (q ∷ rows)
    go ih true e = ap (λ (l : List Row). pick (before (part order r) (part order q)) (q ∷ l) l) ih
    go ih false e =
        let n : part order r ≺ part order q → ⊥ = λ g. let z : true ≡ false = sym (before_true (trans h g)) ∙ e in false≢true (sym z) in
        ih ∙ sym (after_not order r q rows n)

-- of rows that ascend as read in the order, those after one of them are the ones behind it
pub after_behind : (order : List ℕ) (xs : List Row) (r : Row) (ys : List Row) → Ascends (λ (a b : Row). part order a ≺ part order b) (xs ++ (r ∷ ys)) → after_row order r (xs ++ (r ∷ ys)) ≡ ys
unfolding after_row
after_behind order [] r ys (amore f s) = after_not order r r ys irrefl ∙ after_all order r ys f
after_behind order (x ∷ xs) r ys (amore f s) =
    after_not order r x (xs ++ (r ∷ ys)) (λ h. asym h (f r (Memᴰ.append_right xs (hd refl)))) ∙ after_behind order xs r ys s
