-- How a walk along both finds what is missing: where every listed row is right, the first row of all that is not the listed one at its place is the first that is not listed.
use Prim.Native.Nat.{ℕ, suc}
use mathlib.Core.Path.{◌≡◌, refl, sym, ap, subst, ◌∙◌}
use mathlib.Core.Logic.{⊎_elim}
use mathlib.Core.Bool.{Bool, true, false, ◌||◌}
use mathlib.Core.List.{List, [], ◌∷◌}
use Rattle.relation.specs.Order.{Row, pick}
use Rattle.relation.specs.Lists.{◌∈◌, hd, tl, not_in_nil, in_cons, amore}
use Rattle.relation.specs.Rows.{same}
use Rattle.relation.proofs.Lists.{in_get_or}
use Rattle.relation.proofs.Order.{irrefl, asym}
use Rattle.relation.proofs.Sorting.{same→eq, same_refl}
use Rattle.relation.proofs.Tests.{T_true, true_T, not_both}
use Rattle.query.specs.Checks.{some}
use Rattle.listing_verdict.specs.Verdict.{Verdict, accepted, missing, lacks}
use Rattle.listing_verdict.specs.Facts.{Earlier, InOrder, AllRight}
use Rattle.listing_verdict.proofs.Fails.{in_among, not_among, decided}
use Rattle.listing_verdict.proofs.Told.{ascend}

-- rows that are right ascend, and each is one of all
pub right_ascend : (order : List ℕ) (all rows : List Row) → AllRight order all rows → InOrder order rows
right_ascend order all rows f = ascend order rows (λ i h. (f (suc i) h).after i refl)

pub right_among : (order : List ℕ) (all rows : List Row) → AllRight order all rows → (r : Row) → r ∈ rows → r ∈ all
right_among order all rows f r m = let t = in_get_or [] m in subst (λ (q : Row). q ∈ all) t.2 (f t.0 t.1).among

-- the walk
unfoldable pub differs : List Row → List Row → Verdict
differs rows [] = accepted
differs [] (r ∷ all) = missing r
differs (x ∷ rows) (r ∷ all) = pick (same x r) (differs rows all) (missing r)

pub same_not : {a b : Row} → (a ≡ b → ⊥) → same a b ≡ false
same_not {a} {b} f = decided (same a b) (λ e. f (same→eq a b (true_T (same a b) e)))

pub eq_same : {a b : Row} → a ≡ b → same a b ≡ true
eq_same {a} e = subst (λ (x : Row). same a x ≡ true) e (T_true (same a a) (same_refl a))

-- a row that none of all is may be left out
lacks_tail : (x : Row) (rows all : List Row) → (x ∈ all → ⊥) → lacks (x ∷ rows) all ≡ lacks rows all
unfolding lacks some
lacks_tail x rows [] f = refl
lacks_tail x rows (r ∷ all) f =
    ap (λ (b : Bool). pick (b || some (same r) rows) (lacks (x ∷ rows) all) (missing r)) (same_not (λ e. f (hd (sym e))))
    ∙ ap (λ (v : Verdict). pick (some (same r) rows) v (missing r)) (lacks_tail x rows all (λ m. f (tl m)))

pub differs_is : (order : List ℕ) {rows all : List Row} → InOrder order rows → InOrder order all → ((r : Row) → r ∈ rows → r ∈ all) → differs rows all ≡ lacks rows all
unfolding differs lacks
differs_is order {all = []} s t f = refl
differs_is order {rows = []} {all = r ∷ all} s t f = sym (ap (λ (b : Bool). pick b (lacks [] all) (missing r)) (not_among r [] not_in_nil))
differs_is order {rows = x ∷ rows} {all = r ∷ all} (amore p s) (amore q t) f = go (λ g. differs_is order s t g) (same x r) refl
  where
    -- behind x, none is r
    rest : x ≡ r → (y : Row) → y ∈ rows → y ∈ all
    rest e y m = ⊎_elim {C = y ∈ all} (λ (d : y ≡ r). absurd (irrefl (subst (Earlier order x) (d ∙ sym e) (p y m)))) (λ (i : y ∈ all). i) (in_cons (f y (tl m)))

    -- where x is not r, x comes later than r, and so does what is behind it
    lost : (x ≡ r → ⊥) → r ∈ (x ∷ rows) → ⊥
    lost n m =
        let i : x ∈ all = ⊎_elim {C = x ∈ all} (λ (d : x ≡ r). absurd (n d)) (λ (i : x ∈ all). i) (in_cons (f x (hd refl))) in
        ⊎_elim {C = ⊥} (λ (d : r ≡ x). n (sym d)) (λ (j : r ∈ rows). asym (p r j) (q x i)) (in_cons m)

    go : (((y : Row) → y ∈ rows → y ∈ all) → differs rows all ≡ lacks rows all) → (b : Bool) → same x r ≡ b → pick b (differs rows all) (missing r) ≡ lacks (x ∷ rows) (r ∷ all)
    go ih true e =
        let d : x ≡ r = same→eq x r (true_T (same x r) e) in
        ih (rest d)
        ∙ sym (ap (λ (b : Bool). pick b (lacks (x ∷ rows) all) (missing r)) (in_among {rows = x ∷ rows} (hd (sym d)))
        ∙ lacks_tail x rows all (λ m. irrefl (subst (Earlier order r) d (q x m))))
    go ih false e = sym (ap (λ (b : Bool). pick b (lacks (x ∷ rows) all) (missing r)) (not_among r (x ∷ rows) (lost (λ d. not_both (same x r) (eq_same d) e))))

-- where every listed row is right
pub right_differs : (order : List ℕ) (all rows : List Row) → InOrder order all → AllRight order all rows → differs rows all ≡ lacks rows all
right_differs order all rows s f = differs_is order (right_ascend order all rows f) s (right_among order all rows f)
