-- The computed tests mean what `Passes` says, and how a loop comes by their results.
-- Idea: each test is an `and` or an `or` of tests over a list; a test that a fact decides is true where the fact holds and false where it fails.
use Prim.Native.Nat.{ℕ, zero, suc, ◌<◌}
use native.Mathlib.Omega.{arith}
use native.Mathlib.Nat.{le_of_suc-le-suc}
use native.Mathlib.Decide.{ℕ_discrete}
use mathlib.Core.Path.{◌≡◌, refl, sym, ap, ◌∙◌}
use mathlib.Core.Logic.{◌⊎◌, inl, inr, ⊎_elim}
use mathlib.Core.Bool.{Bool, true, false, ◌&&◌, ◌||◌, not, false≢true}
use mathlib.Core.List.Memᴰ
use mathlib.Core.List.Sublistᴰ
use mathlib.Core.List.{List, [], ◌∷◌, map, cons-ne-nil, Sublistᴰ}
use lib.ListN.{length, get_or}
use lib.Dec.{eqb, ltb}
use borrow.Author.Tests.{eqb-true, eqb-false, eq-eqb, ltb-true, lt-ltb}
use Rattle.relation.specs.Order.{pick}
use Rattle.relation.specs.Lists.{◌∈◌, hd, tl, not_in_nil, in_cons, anone, amore}
use Rattle.query.specs.Meaning.{Atom, Distinct, Permutation, follows, Table, Passes}
use Rattle.query.specs.Meet.{has}
use Rattle.query.specs.Checks.{every, some, single, permutes, listed, covers}
use Rattle.query.proofs.Meet.{has_in, in_has, get_or_in, in_get_or}
use Rattle.query.proofs.Solved.{follow_in}

-- ---- tests together

both : (a b : Bool) → (a && b) ≡ true → (a ≡ true) × (b ≡ true)
both true b e = (refl, e)
both false b e = absurd (false≢true e)

both_and : (a b : Bool) → a ≡ true → b ≡ true → (a && b) ≡ true
both_and true b p q = q
both_and false b p q = p

-- a test that a fact decides is false where the fact fails
refuted : (b : Bool) {P : Type 0} → (b ≡ true → P) → (P → ⊥) → b ≡ false
refuted true f n = absurd (n (f refl))
refuted false f n = refl

module _ {A : Type 0} (p : A → Bool) where
  pub every_in : (l : List A) → every p l ≡ true → (x : A) → x ∈ l → p x ≡ true
  unfolding every
  every_in [] e x m = absurd (not_in_nil m)
  every_in (y ∷ l) e x m =
      let t = both (p y) (every p l) e in
      ⊎_elim (λ (d : x ≡ y). ap p d ∙ t.0) (λ (i : x ∈ l). every_in l t.1 x i) (in_cons m)

  in_every : (l : List A) → ((x : A) → x ∈ l → p x ≡ true) → every p l ≡ true
  unfolding every
  in_every [] f = refl
  in_every (y ∷ l) f = both_and (p y) (every p l) (f y (hd refl)) (in_every l (λ x m. f x (tl m)))

  pub some_in : (l : List A) → some p l ≡ true → (x : A) × (x ∈ l) × (p x ≡ true)
  unfolding some
  some_in [] e = absurd (false≢true e)
  some_in (y ∷ l) e = go (some_in l) (p y) refl e
    where
      go : (some p l ≡ true → (x : A) × (x ∈ l) × (p x ≡ true)) → (b : Bool) → p y ≡ b → (b || some p l) ≡ true → (x : A) × (x ∈ (y ∷ l)) × (p x ≡ true)
      go ih true q e = (y, hd refl, q)
      go ih false q e = let t = ih e in (t.0, tl t.1, t.2)

  pub in_some : {x : A} {l : List A} → x ∈ l → p x ≡ true → some p l ≡ true
  unfolding some
  in_some (hd {x = y} {xs = l} e) h = ap (λ (b : Bool). b || some p l) (ap p (sym e) ∙ h)
  in_some (tl {x = y} {xs = l} m) h = go (p y) (in_some m h)
    where
      go : (b : Bool) → some p l ≡ true → (b || some p l) ≡ true
      go true e = refl
      go false e = e

-- ---- 8

single_true : (l : List ℕ) → single l ≡ true → Distinct l
unfolding single
single_true [] e = anone
single_true (x ∷ l) e = go (single_true l) (has l x) refl e
  where
    go : (single l ≡ true → Distinct l) → (b : Bool) → has l x ≡ b → (not b && single l) ≡ true → Distinct (x ∷ l)
    go ih true q e = absurd (false≢true e)
    go ih false q e = amore (λ y m d. false≢true (sym q ∙ in_has (Memᴰ.cast d m))) (ih e)

true_single : {l : List ℕ} → Distinct l → single l ≡ true
unfolding single
true_single anone = refl
true_single (amore {r = x} {rs = l} f s) = go (true_single s) (has l x) refl
  where
    go : single l ≡ true → (b : Bool) → has l x ≡ b → (not b && single l) ≡ true
    go ih true q = absurd (f x (has_in l x q) refl)
    go ih false q = ih

pub permutes_true : (n : ℕ) (order : List ℕ) → permutes n order ≡ true → Permutation n order
unfolding permutes
permutes_true n order e =
    let t = both (eqb (length order) n) (every (λ (x : ℕ). ltb x n) order && single order) e in
    let u = both (every (λ (x : ℕ). ltb x n) order) (single order) t.1 in
    record {
      size = eqb-true (length order) n t.0;
      below = λ x m. ltb-true x n (every_in (λ (x : ℕ). ltb x n) order u.0 x m);
      single = single_true order u.1;
    }

pub true_permutes : (n : ℕ) (order : List ℕ) → Permutation n order → permutes n order ≡ true
unfolding permutes
true_permutes n order p =
    both_and (eqb (length order) n) (every (λ (x : ℕ). ltb x n) order && single order) (eq-eqb (length order) n p.size)
    (both_and (every (λ (x : ℕ). ltb x n) order) (single order) (in_every (λ (x : ℕ). ltb x n) order (λ x m. lt-ltb x n (p.below x m))) (true_single p.single))

pub permutes_false : (n : ℕ) (order : List ℕ) → (Permutation n order → ⊥) → permutes n order ≡ false
permutes_false n order = refuted (permutes n order) (permutes_true n order)

-- distinct by index
pub distinct_at : {l : List ℕ} → Distinct l → (i j : ℕ) → i < j → j < length l → get_or l i 0 ≡ get_or l j 0 → ⊥
distinct_at anone i j h g e = omega arith
distinct_at (amore {r = x} {rs = l} f s) i zero h g e = omega arith
distinct_at (amore {r = x} {rs = l} f s) zero (suc j) h g e = f (get_or l j 0) (get_or_in l j 0 (le_of_suc-le-suc g)) e
distinct_at (amore {r = x} {rs = l} f s) (suc i) (suc j) h g e = distinct_at s i j (omega arith) (le_of_suc-le-suc g) e

pub at_distinct : (l : List ℕ) → ((i j : ℕ) → i < j → j < length l → get_or l i 0 ≡ get_or l j 0 → ⊥) → Distinct l
at_distinct [] f = anone
at_distinct (x ∷ l) f =
    amore {rs = l} (λ y m e. let t = in_get_or 0 m in f 0 (suc t.0) (omega arith) (omega (arith, t.1)) (e ∙ sym t.2))
    (at_distinct l (λ i j h g. f (suc i) (suc j) (omega arith) (omega arith)))

-- ---- 10

-- where the order is a permutation, a list that follows it holds no number from n up
pub listed_is : {n : ℕ} {order : List ℕ} → Permutation n order → (arity : ℕ) (vars : List ℕ) → listed n order arity vars ≡ (eqb (length vars) arity && follows order vars)
unfolding listed
listed_is {n} {order} p arity vars = ap (λ (b : Bool). eqb (length vars) arity && b) (go (follows order vars) refl)
  where
    go : (b : Bool) → follows order vars ≡ b → (every (λ (x : ℕ). ltb x n) vars && b) ≡ b
    go true e = both_and (every (λ (x : ℕ). ltb x n) vars) true (in_every (λ (x : ℕ). ltb x n) vars (λ x m. lt-ltb x n (p.below x (follow_in order vars e m)))) refl
    go false e = none (every (λ (x : ℕ). ltb x n) vars)
      where
        none : (a : Bool) → (a && false) ≡ false
        none true = refl
        none false = refl

pub listed_true : (n : ℕ) (order : List ℕ) (arity : ℕ) (vars : List ℕ) → listed n order arity vars ≡ true → (length vars ≡ arity) × (follows order vars ≡ true)
unfolding listed
listed_true n order arity vars e =
    let t = both (eqb (length vars) arity) (every (λ (x : ℕ). ltb x n) vars && follows order vars) e in
    (eqb-true (length vars) arity t.0, (both (every (λ (x : ℕ). ltb x n) vars) (follows order vars) t.1).1)

-- what follows the order is the order with some variables left out, and the other way round
pub follows_sublist : (order vars : List ℕ) → follows order vars ≡ true → Sublistᴰ vars order
unfolding follows
follows_sublist order [] e = Sublistᴰ.nil-sublist order
follows_sublist [] (x ∷ xs) e = absurd (false≢true e)
follows_sublist (v ∷ vs) (x ∷ xs) e = go (follows_sublist vs xs) (follows_sublist vs (x ∷ xs)) (eqb x v) refl e
  where
    go : (follows vs xs ≡ true → Sublistᴰ xs vs) → (follows vs (x ∷ xs) ≡ true → Sublistᴰ (x ∷ xs) vs) → (b : Bool) → eqb x v ≡ b → pick b (follows vs xs) (follows vs (x ∷ xs)) ≡ true → Sublistᴰ (x ∷ xs) (v ∷ vs)
    go f g true q e = Sublistᴰ.cons-cons (eqb-true x v q) (f e)
    go f g false q e = Sublistᴰ.cons (g e)

pub sublist_follows : (order vars : List ℕ) → Sublistᴰ vars order → follows order vars ≡ true
unfolding follows
sublist_follows order [] s = refl
sublist_follows [] (x ∷ xs) s = absurd (cons-ne-nil x xs (Sublistᴰ.eq-nil s))
sublist_follows (v ∷ vs) (x ∷ xs) s = go (sublist_follows vs xs) (sublist_follows vs (x ∷ xs)) (eqb x v) refl (Sublistᴰ.cases_cons-cons s)
  where
    go : (Sublistᴰ xs vs → follows vs xs ≡ true) → (Sublistᴰ (x ∷ xs) vs → follows vs (x ∷ xs) ≡ true) → (b : Bool) → eqb x v ≡ b → Sublistᴰ (x ∷ xs) vs ⊎ ((x ≡ v) × Sublistᴰ xs vs) → pick b (follows vs xs) (follows vs (x ∷ xs)) ≡ true
    go f g true q (inl t) = f (Sublistᴰ.trans (Sublistᴰ.cons (Sublistᴰ.refl xs)) t)
    go f g true q (inr t) = f t.1
    go f g false q (inl t) = g t
    go f g false q (inr t) = absurd (eqb-false x v q t.0)

-- ---- 11

-- each variable below n is in some list
abbrev pub Covered : ℕ → List (List ℕ) → Type 0
Covered n lists = (x : ℕ) → x < n → (l : List ℕ) × (l ∈ lists) × (x ∈ l)

pub covers_true : (n : ℕ) (lists : List (List ℕ)) → covers n lists ≡ true → Covered n lists
unfolding covers
covers_true zero lists e x h = absurd (omega arith)
covers_true (suc n) lists e x h = go (covers_true n lists t.1) (ℕ_discrete x n)
  where
    t : (some (λ (l : List ℕ). has l n) lists ≡ true) × (covers n lists ≡ true)
    t = both (some (λ (l : List ℕ). has l n) lists) (covers n lists) e

    go : Covered n lists → Dec (x ≡ n) → (l : List ℕ) × (l ∈ lists) × (x ∈ l)
    go ih (yes d) = let u = some_in (λ (l : List ℕ). has l n) lists t.0 in (u.0, u.1, Memᴰ.cast d (has_in u.0 n u.2))
    go ih (no d) = ih x (omega arith)

pub true_covers : (n : ℕ) (lists : List (List ℕ)) → Covered n lists → covers n lists ≡ true
unfolding covers
true_covers zero lists f = refl
true_covers (suc n) lists f =
    both_and (some (λ (l : List ℕ). has l n) lists) (covers n lists)
    (let u = f n (omega arith) in in_some (λ (l : List ℕ). has l n) u.1 (in_has u.2))
    (true_covers n lists (λ x h. f x (omega arith)))

pub covers_false : (n : ℕ) (lists : List (List ℕ)) (x : ℕ) → x < n → ((l : List ℕ) → l ∈ lists → x ∈ l → ⊥) → covers n lists ≡ false
covers_false n lists x h f = refuted (covers n lists) (covers_true n lists) (λ c. let u = c x h in f u.0 u.1 u.2)

-- ---- together

pub passes_of : (n : ℕ) (order : List ℕ) (atoms : List Atom) → permutes n order ≡ true → ((a : Atom) → a ∈ atoms → follows order a.vars ≡ true) → covers n (map (λ (a : Atom). a.vars) atoms) ≡ true → ((a : Atom) → a ∈ atoms → Table a) → Passes n order atoms
passes_of n order atoms p f c t = record {
  permutation = permutes_true n order p;
  follow = f;
  covered = λ x h.
      let u = covers_true n (map (λ (a : Atom). a.vars) atoms) c x h in
      let v = Memᴰ.of_map (λ (a : Atom). a.vars) atoms u.1 in
      (v.0, v.1, rw v.2 u.2);
  tables = t;
}

-- and a query that passes passes the tests
pub passes_tests : {n : ℕ} {order : List ℕ} {atoms : List Atom} → Passes n order atoms → (permutes n order ≡ true) × ((a : Atom) → a ∈ atoms → listed n order (length a.vars) a.vars ≡ true) × (covers n (map (λ (a : Atom). a.vars) atoms) ≡ true)
passes_tests {n} {order} {atoms} q = (
  true_permutes n order q.permutation,
  λ a m. listed_is q.permutation (length a.vars) a.vars ∙ both_and (eqb (length a.vars) (length a.vars)) (follows order a.vars) (eq-eqb (length a.vars) (length a.vars) refl) (q.follow a m),
  true_covers n (map (λ (a : Atom). a.vars) atoms) (λ x h. let u = q.covered x h in (u.0.vars, Memᴰ.map (λ (a : Atom). a.vars) u.1, u.2)),
)
