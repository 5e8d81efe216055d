-- The rows that count: which they are, that they are a relation, and the keys that they have under a beginning.
-- Idea: ascending lists with the same members are equal; k is a key under p exactly where p, k and something more is a row.
use Prim.Native.Nat.{ℕ, suc, ◌<◌}
use native.Mathlib.Omega.{arith}
use mathlib.Core.Path.{◌≡◌, refl, sym, subst, ap, ◌∙◌}
use mathlib.Core.Logic.{◌⊎◌, inl, inr, ⊎_elim}
use mathlib.Core.Bool.{Bool, true, false, false≢true}
use mathlib.Core.List.Memᴰ
use mathlib.Core.List.{List, [], ◌∷◌, ◌++◌}
use lib.ListN.{length}
use lib.Dec.{eqb}
use borrow.Author.Tests.{eqb-true, eq-eqb}
use Rattle.relation.specs.Order.{Row, pick}
use Rattle.relation.specs.Lists.{◌∈◌, hd, tl, not_in_nil, in_cons}
use Rattle.relation.specs.Rows.{Asc, Width}
use Rattle.relation.specs.Layers.{keys_under}
use Rattle.relation.proofs.Sorting.{as_set_asc, as_set_members, asc_unique}
use Rattle.query.proofs.Meet.{same_keys}
use Rattle.query.proofs.Beyond.{in_keys, keys_in, keys_ascend}
use Rattle.overlay.specs.Merge.{merge}
use Rattle.overlay.specs.Laid.{first, owns, others, laid, Counts}
use Rattle.overlay.proofs.Merge.{merge_is}

-- ---- the test of a first key

pub owns_row : (qs : List Row) (k : ℕ) → owns qs k ≡ true → (q : Row) × (q ∈ qs) × (first q ≡ k)
unfolding owns
owns_row [] k e = absurd (false≢true e)
owns_row (q ∷ qs) k e = go (owns_row qs k) (eqb (first q) k) refl e
  where
    go : (owns qs k ≡ true → (r : Row) × (r ∈ qs) × (first r ≡ k)) → (b : Bool) → eqb (first q) k ≡ b → pick b true (owns qs k) ≡ true → (r : Row) × (r ∈ (q ∷ qs)) × (first r ≡ k)
    go ih true p e = (q, hd refl, eqb-true (first q) k p)
    go ih false p e = let t = ih e in (t.0, tl t.1, t.2)

pub row_owns : {q : Row} {qs : List Row} → q ∈ qs → owns qs (first q) ≡ true
unfolding owns
row_owns {q = q} (hd {x = x} {xs = xs} e) = ap (λ (b : Bool). pick b true (owns xs (first q))) (eq-eqb (first x) (first q) (ap first (sym e)))
row_owns {q = q} (tl {x = x} {xs = xs} m) = go (eqb (first x) (first q)) (row_owns m)
  where
    go : (b : Bool) → owns xs (first q) ≡ true → pick b true (owns xs (first q)) ≡ true
    go true e = refl
    go false e = e

-- ---- which rows count

in_others : (s m : List Row) {q : Row} → q ∈ others s m → (q ∈ m) × (owns s (first q) ≡ false)
unfolding others
in_others s [] i = absurd (not_in_nil i)
in_others s (r ∷ m) {q} i = go (λ j. in_others s m j) (owns s (first r)) refl i
  where
    go : (q ∈ others s m → (q ∈ m) × (owns s (first q) ≡ false)) → (b : Bool) → owns s (first r) ≡ b → q ∈ pick b (others s m) (r ∷ others s m) → (q ∈ (r ∷ m)) × (owns s (first q) ≡ false)
    go ih true p j = (tl (ih j).0, (ih j).1)
    go ih false p j = ⊎_elim (λ (e : q ≡ r). (hd e, ap (λ (z : Row). owns s (first z)) e ∙ p)) (λ (h : q ∈ others s m). (tl (ih h).0, (ih h).1)) (in_cons j)

others_in : (s : List Row) {q : Row} {m : List Row} → q ∈ m → owns s (first q) ≡ false → q ∈ others s m
unfolding others
others_in s {q = q} (hd {x = x} {xs = xs} e) p = subst (λ (b : Bool). q ∈ pick b (others s xs) (x ∷ others s xs)) (sym p ∙ ap (λ (z : Row). owns s (first z)) e) (hd e)
others_in s {q = q} (tl {x = x} {xs = xs} i) p = go (owns s (first x)) (others_in s i p)
  where
    go : (b : Bool) → q ∈ others s xs → q ∈ pick b (others s xs) (x ∷ others s xs)
    go true h = h
    go false h = tl h

lacks : (s : List Row) (k : ℕ) → ((r : Row) → r ∈ s → first r ≡ k → ⊥) → owns s k ≡ false
lacks s k n = go (owns s k) refl
  where
    go : (b : Bool) → owns s k ≡ b → b ≡ false
    go true e = let t = owns_row s k e in absurd (n t.0 t.1 t.2)
    go false e = refl

owned : (s : List Row) (k : ℕ) → owns s k ≡ false → (r : Row) → r ∈ s → first r ≡ k → ⊥
owned s k e r i f = false≢true (sym e ∙ (ap (owns s) (sym f) ∙ row_owns i))

pub in_laid : (s m : List Row) {q : Row} → q ∈ laid s m → Counts s m q
unfolding laid
in_laid s m {q} i =
    ⊎_elim
    (λ (h : q ∈ s). inl h)
    (λ (h : q ∈ others s m). let t = in_others s m h in inr (t.0, owned s (first q) t.1))
    (Memᴰ.append_cases s ((as_set_members (s ++ others s m) q).0 i))

pub laid_in : (s m : List Row) {q : Row} → Counts s m q → q ∈ laid s m
unfolding laid
laid_in s m {q} c =
    (as_set_members (s ++ others s m) q).1
    (⊎_elim {C = q ∈ (s ++ others s m)}
    (λ (h : q ∈ s). Memᴰ.append_left (others s m) h)
    (λ (h : (q ∈ m) × ((r : Row) → r ∈ s → first r ≡ first q → ⊥)). Memᴰ.append_right s (others_in s h.0 (lacks s (first q) h.1)))
    c)

-- ---- a relation

pub laid_asc : (s m : List Row) → Asc (laid s m)
unfolding laid
laid_asc s m = as_set_asc (s ++ others s m)

pub laid_width : {a : ℕ} {s m : List Row} → Width a s → Width a m → Width a (laid s m)
laid_width {a} {s} {m} v w q i =
    ⊎_elim (λ (h : q ∈ s). v q h) (λ (h : (q ∈ m) × ((r : Row) → r ∈ s → first r ≡ first q → ⊥)). w q h.0) (in_laid s m i)

-- any ascending list of just the rows that count is this one
pub laid_is : (s m : List Row) {rows : List Row} → Asc rows → ((q : Row) → q ∈ rows → Counts s m q) → ((q : Row) → Counts s m q → q ∈ rows) → laid s m ≡ rows
laid_is s m a f g = asc_unique (laid_asc s m) a (λ q. (λ i. g q (in_laid s m i), λ i. laid_in s m (f q i)))

-- nothing laid over, and laid over nothing
pub laid_none : {s : List Row} → Asc s → laid s [] ≡ s
laid_none {s} a = laid_is s [] a (λ q i. inl i) (λ q c. ⊎_elim (λ (h : q ∈ s). h) (λ (h : (q ∈ []) × ((r : Row) → r ∈ s → first r ≡ first q → ⊥)). absurd (not_in_nil h.0)) c)

pub none_laid : {m : List Row} → Asc m → laid [] m ≡ m
none_laid {m} a = laid_is [] m a (λ q i. inr (i, λ r j e. not_in_nil j)) (λ q c. ⊎_elim (λ (h : q ∈ []). absurd (not_in_nil h)) (λ (h : (q ∈ m) × ((r : Row) → r ∈ [] → first r ≡ first q → ⊥)). h.0) c)

-- ---- the keys under a beginning

module _ {a : ℕ} {s m : List Row} (v : Width a s) (w : Width a m) where
  wide : Width a (laid s m)
  wide = laid_width v w

  -- a first key is that of some row
  pub key_first : {rows : List Row} → Width a rows → 0 < a → {k : ℕ} → k ∈ keys_under [] rows → (q : Row) × (q ∈ rows) × (first q ≡ k)
  key_first u h {k} i = let t = in_keys [] u h i in (k ∷ t.0, t.1, refl)

  pub first_key : {rows : List Row} → Width a rows → 0 < a → {q : Row} → q ∈ rows → first q ∈ keys_under [] rows
  first_key {rows} u h {q} i = go q i (u q i)
    where
      go : (q : Row) → q ∈ rows → length q ≡ a → first q ∈ keys_under [] rows
      go [] i e = absurd (omega arith)
      go (x ∷ q) i e = keys_in [] u h q i

  -- the first keys: the two tables' as one run
  pub laid_firsts : 0 < a → keys_under [] (laid s m) ≡ merge (keys_under [] s) (keys_under [] m)
  laid_firsts h =
      sym (merge_is (keys_ascend [] w h) (keys_ascend [] wide h) to
      (λ k i. let t = in_keys [] v h i in keys_in [] wide h t.0 (laid_in s m (inl t.1)))
      right)
    where
      to : (k : ℕ) → k ∈ keys_under [] (laid s m) → (k ∈ keys_under [] s) ⊎ (k ∈ keys_under [] m)
      to k i =
          let t = in_keys [] wide h i in
          ⊎_elim {C = (k ∈ keys_under [] s) ⊎ (k ∈ keys_under [] m)}
          (λ (j : (k ∷ t.0) ∈ s). inl (keys_in [] v h t.0 j))
          (λ (j : ((k ∷ t.0) ∈ m) × ((r : Row) → r ∈ s → first r ≡ k → ⊥)). inr (keys_in [] w h t.0 j.0))
          (in_laid s m t.1)

      by : (k : ℕ) → k ∈ keys_under [] m → (b : Bool) → owns s k ≡ b → k ∈ keys_under [] (laid s m)
      by k i true e = let t = owns_row s k e in subst (λ (x : ℕ). x ∈ keys_under [] (laid s m)) t.2 (first_key wide h (laid_in s m (inl t.1)))
      by k i false e = let t = in_keys [] w h i in keys_in [] wide h t.0 (laid_in s m (inr (t.1, owned s k e)))

      right : (k : ℕ) → k ∈ keys_under [] m → k ∈ keys_under [] (laid s m)
      right k i = by k i (owns s k) refl

  -- deeper: the keys of the first key's owner, the school's if it has it
  module _ (k : ℕ) (p : Row) (h : suc (length p) < a) where
    pub laid_school : owns s k ≡ true → keys_under (k ∷ p) (laid s m) ≡ keys_under (k ∷ p) s
    laid_school e =
        same_keys (keys_ascend (k ∷ p) wide h) (keys_ascend (k ∷ p) v h)
        (λ x i.
        let t = in_keys (k ∷ p) wide h i in
        let o = owns_row s k e in
        ⊎_elim {C = x ∈ keys_under (k ∷ p) s}
        (λ (j : (k ∷ (p ++ x ∷ t.0)) ∈ s). keys_in (k ∷ p) v h t.0 j)
        (λ (j : ((k ∷ (p ++ x ∷ t.0)) ∈ m) × ((r : Row) → r ∈ s → first r ≡ k → ⊥)). absurd (j.1 o.0 o.1 o.2))
        (in_laid s m t.1))
        (λ x i. let t = in_keys (k ∷ p) v h i in keys_in (k ∷ p) wide h t.0 (laid_in s m (inl t.1)))

    pub laid_maker : owns s k ≡ false → keys_under (k ∷ p) (laid s m) ≡ keys_under (k ∷ p) m
    laid_maker e =
        same_keys (keys_ascend (k ∷ p) wide h) (keys_ascend (k ∷ p) w h)
        (λ x i.
        let t = in_keys (k ∷ p) wide h i in
        ⊎_elim {C = x ∈ keys_under (k ∷ p) m}
        (λ (j : (k ∷ (p ++ x ∷ t.0)) ∈ s). absurd (owned s k e (k ∷ (p ++ x ∷ t.0)) j refl))
        (λ (j : ((k ∷ (p ++ x ∷ t.0)) ∈ m) × ((r : Row) → r ∈ s → first r ≡ k → ⊥)). keys_in (k ∷ p) w h t.0 j.0)
        (in_laid s m t.1))
        (λ x i. let t = in_keys (k ∷ p) w h i in keys_in (k ∷ p) wide h t.0 (laid_in s m (inr (t.1, owned s k e))))

    pub laid_keys : keys_under (k ∷ p) (laid s m) ≡ pick (owns s k) (keys_under (k ∷ p) s) (keys_under (k ∷ p) m)
    laid_keys = go (owns s k) refl
      where
        go : (b : Bool) → owns s k ≡ b → keys_under (k ∷ p) (laid s m) ≡ pick b (keys_under (k ∷ p) s) (keys_under (k ∷ p) m)
        go true e = laid_school e
        go false e = laid_maker e
