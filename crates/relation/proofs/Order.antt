-- Rows of words in lexicographic order: the test `before`, and that it is a strict order that tells any two rows apart.
use Prim.Native.Nat.{ℕ, zero, suc, ◌≤◌, ◌<◌}
use mathlib.Core.Path.{◌≡◌, refl, sym, ◌∙◌, subst}
use mathlib.Core.Bool.{Bool, true, false}
use mathlib.Core.Logic.{◌⊎◌, inl, inr, ⊎_elim}
use mathlib.Core.List.{[], ◌∷◌, ◌++◌}
use native.Mathlib.Omega.{arith}
use native.Mathlib.Decide.{dec_lt}
use lib.ListN.{length, take}
use lib.Dec.{T, ltb, eqb, ltb→lt, lt→ltb, eqb→eq, eqb_refl}
use Rattle.relation.specs.Order.{Row, pick, before, ◌≺◌, nil≺, word≺, rest≺}

pub pick_true {ℓ} : {A : Type ℓ} (b : Bool) (x y : A) → T b → pick b x y ≡ x
pick_true true x y t = refl
pick_true false x y t = absurd t

pub pick_false {ℓ} : {A : Type ℓ} (b : Bool) (x y : A) → (T b → ⊥) → pick b x y ≡ y
pick_false true x y t = absurd (t tt)
pick_false false x y t = refl

-- a test holds or fails
pub test : (b : Bool) → T b ⊎ (T b → ⊥)
test true = inl tt
test false = inr (λ x. x)

nat_tri : (x y : ℕ) → (x < y) ⊎ ((x ≡ y) ⊎ (y < x))
nat_tri x y = go (dec_lt x y) (dec_lt y x)
  where
    go : Dec (x < y) → Dec (y < x) → (x < y) ⊎ ((x ≡ y) ⊎ (y < x))
    go (yes h) e = inl h
    go (no h) (yes g) = inr (inr g)
    go (no h) (no g) = inr (inl (omega arith))

-- the test decides it
pub ≺→before : {a b : Row} → a ≺ b → T (before a b)
unfolding before
≺→before nil≺ = tt
≺→before (word≺ {x} {y} {xs} {ys} h) = rw (pick_true (ltb x y) true (pick (eqb x y) (before xs ys) false) (lt→ltb x y h)) tt
≺→before (rest≺ {x} {y} {xs} {ys} e h) =
    rw (pick_false (ltb x y) true (pick (eqb x y) (before xs ys) false) (λ t. omega (arith, ltb→lt x y t)), pick_true (eqb x y) (before xs ys) false (subst (λ (z : ℕ). T (eqb x z)) e (eqb_refl x)))
    (≺→before h)

pub before→≺ : (a b : Row) → T (before a b) → a ≺ b
unfolding before
before→≺ [] [] t = absurd t
before→≺ [] (y ∷ ys) t = nil≺
before→≺ (x ∷ xs) [] t = absurd t
before→≺ (x ∷ xs) (y ∷ ys) t = go (before→≺ xs ys) (test (ltb x y)) (test (eqb x y))
  where
    go : (T (before xs ys) → xs ≺ ys) → T (ltb x y) ⊎ (T (ltb x y) → ⊥) → T (eqb x y) ⊎ (T (eqb x y) → ⊥) → (x ∷ xs) ≺ (y ∷ ys)
    go ih (inl l) e = word≺ (ltb→lt x y l)
    go ih (inr n) (inl e) = rest≺ (eqb→eq x y e) (ih (subst T (pick_false (ltb x y) _ _ n ∙ pick_true (eqb x y) _ _ e) t))
    go ih (inr n) (inr m) = absurd (subst T (pick_false (ltb x y) _ _ n ∙ pick_false (eqb x y) _ _ m) t)

pub irrefl : {r : Row} → r ≺ r → ⊥
irrefl {r} = go r
  where
    go : (r : Row) → r ≺ r → ⊥
    go [] h = elim h [ ]
    go (x ∷ xs) (word≺ h) = omega arith
    go (x ∷ xs) (rest≺ e h) = go xs h

pub trans : {a b c : Row} → a ≺ b → b ≺ c → a ≺ c
trans nil≺ (word≺ h) = nil≺
trans nil≺ (rest≺ e h) = nil≺
trans (word≺ {x} h) (word≺ {y = z} g) = word≺ {x = x} {y = z} (omega arith)
trans (word≺ {x} h) (rest≺ {y = z} e g) = word≺ {x = x} {y = z} (omega arith)
trans (rest≺ {x} e h) (word≺ {y = z} g) = word≺ {x = x} {y = z} (omega arith)
trans (rest≺ e h) (rest≺ f g) = rest≺ (e ∙ f) (trans h g)

-- any two rows are equal, or one comes before the other
pub data Tri (a b : Row) : Type 0 where
  lt : a ≺ b → Tri a b
  eq : a ≡ b → Tri a b
  gt : b ≺ a → Tri a b

pub tri : (a b : Row) → Tri a b
tri [] [] = eq refl
tri [] (y ∷ ys) = lt nil≺
tri (x ∷ xs) [] = gt nil≺
tri (x ∷ xs) (y ∷ ys) = go (nat_tri x y) (tri xs ys)
  where
    go : (x < y) ⊎ ((x ≡ y) ⊎ (y < x)) → Tri xs ys → Tri (x ∷ xs) (y ∷ ys)
    go (inl l) t = lt (word≺ l)
    go (inr (inr g)) t = gt (word≺ g)
    go (inr (inl e)) (lt l) = lt (rest≺ e l)
    go (inr (inl e)) (eq f) = eq (cc)
    go (inr (inl e)) (gt g) = gt (rest≺ (sym e) g)

pub asym : {a b : Row} → a ≺ b → b ≺ a → ⊥
asym h g = irrefl (trans h g)

-- not after, then before: before
pub le_lt : {a b c : Row} → (b ≺ a → ⊥) → b ≺ c → a ≺ c
le_lt {a} {b} {c} n h = go (tri a b)
  where
    go : Tri a b → a ≺ c
    go (lt l) = trans l h
    go (eq e) = rw e h
    go (gt g) = absurd (n g)

pub lt_le : {a b c : Row} → a ≺ b → (c ≺ b → ⊥) → a ≺ c
lt_le {a} {b} {c} h n = go (tri b c)
  where
    go : Tri b c → a ≺ c
    go (lt l) = trans h l
    go (eq e) = rw (← e) h
    go (gt g) = absurd (n g)

pub le_le : {a b c : Row} → (b ≺ a → ⊥) → (c ≺ b → ⊥) → c ≺ a → ⊥
le_le n m h = n (le_lt m h)

-- what the tests choose
pub pick_before {ℓ} : {A : Type ℓ} {a b : Row} (x y : A) → a ≺ b → pick (before a b) x y ≡ x
pick_before {a} {b} x y h = pick_true (before a b) x y (≺→before h)

pub pick_not {ℓ} : {A : Type ℓ} {a b : Row} (x y : A) → (a ≺ b → ⊥) → pick (before a b) x y ≡ y
pick_not {a} {b} x y n = pick_false (before a b) x y (λ t. n (before→≺ a b t))

pub dec≺ : (a b : Row) → (a ≺ b) ⊎ (a ≺ b → ⊥)
dec≺ a b = go (tri a b)
  where
    go : Tri a b → (a ≺ b) ⊎ (a ≺ b → ⊥)
    go (lt l) = inl l
    go (eq e) = inr (λ l. irrefl (rw e at l))
    go (gt g) = inr (λ l. asym l g)

-- a row and a longer one
pub snoc_after : (t : Row) (k : ℕ) → t ≺ (t ++ (k ∷ []))
snoc_after [] k = nil≺
snoc_after (x ∷ xs) k = rest≺ refl (snoc_after xs k)

pub before_snoc : {p t : Row} (k : ℕ) → p ≺ t → p ≺ (t ++ (k ∷ []))
before_snoc {t = t} k h = trans h (snoc_after t k)

-- of one length: before the longer one is before, or equal
pub snoc_inv : (p t : Row) (k : ℕ) → length p ≡ length t → p ≺ (t ++ (k ∷ [])) → (p ≺ t) ⊎ (p ≡ t)
snoc_inv [] [] k e h = inr refl
snoc_inv [] (y ∷ ys) k e h = inl nil≺
snoc_inv (x ∷ xs) [] k e h = absurd (omega arith)
snoc_inv (x ∷ xs) (y ∷ ys) k e (word≺ h) = inl (word≺ h)
snoc_inv (x ∷ xs) (y ∷ ys) k e (rest≺ d h) =
    ⊎_elim (λ (l : xs ≺ ys). inl (rest≺ d l)) (λ (f : xs ≡ ys). inr (cc)) (snoc_inv xs ys k (omega arith) h)

-- a longer row that does not go on from t, and is before t's going on, is before t
pub snoc_gap : (q t : Row) (k : ℕ) → (take (length t) q ≡ t → ⊥) → q ≺ (t ++ (k ∷ [])) → q ≺ t
snoc_gap q [] k n h = absurd (n refl)
snoc_gap [] (y ∷ ys) k n h = nil≺
snoc_gap (x ∷ xs) (y ∷ ys) k n (word≺ h) = word≺ h
snoc_gap (x ∷ xs) (y ∷ ys) k n (rest≺ d h) = rest≺ d (snoc_gap xs ys k (λ (e : take (length ys) xs ≡ ys). n (cc)) h)

-- beginnings keep the order, or become equal
take_mono : (d : ℕ) {a b : Row} → a ≺ b → (take d a ≺ take d b) ⊎ (take d a ≡ take d b)
take_mono zero h = inr refl
take_mono (suc d) nil≺ = inl nil≺
take_mono (suc d) (word≺ h) = inl (word≺ h)
take_mono (suc d) (rest≺ {x} {y} {xs} {ys} e h) =
    ⊎_elim (λ (l : take d xs ≺ take d ys). inl (rest≺ e l)) (λ (f : take d xs ≡ take d ys). inr (cc)) (take_mono d h)

pub take_le : (d : ℕ) {a b : Row} → (b ≺ a → ⊥) → take d b ≺ take d a → ⊥
take_le d {a} {b} n h = go (tri a b)
  where
    go : Tri a b → ⊥
    go (lt l) = ⊎_elim (λ (m : take d a ≺ take d b). asym m h) (λ (e : take d a ≡ take d b). irrefl (rw e at h)) (take_mono d l)
    go (eq e) = irrefl (rw e at h)
    go (gt g) = n g

-- a row is not before its own beginning
pub take_not_after : (d : ℕ) (q : Row) → q ≺ take d q → ⊥
take_not_after zero q h = elim h [ ]
take_not_after (suc d) [] h = elim h [ ]
take_not_after (suc d) (x ∷ xs) (word≺ h) = omega arith
take_not_after (suc d) (x ∷ xs) (rest≺ e h) = take_not_after d xs h

-- a beginning before t that is as long as t puts the row before t
pub take_before : (d : ℕ) (q t : Row) → length t ≤ d → take d q ≺ t → q ≺ t
take_before zero q [] e h = elim h [ ]
take_before zero q (y ∷ ys) e h = absurd (omega arith)
take_before (suc d) [] t e h = h
take_before (suc d) (x ∷ xs) [] e h = elim h [ ]
take_before (suc d) (x ∷ xs) (y ∷ ys) e (word≺ h) = word≺ h
take_before (suc d) (x ∷ xs) (y ∷ ys) e (rest≺ f h) = rest≺ f (take_before d xs ys (omega arith) h)

-- how many leading words two rows share
unfoldable pub shared : Row → Row → ℕ
shared [] ys = 0
shared (x ∷ xs) [] = 0
shared (x ∷ xs) (y ∷ ys) = pick (eqb x y) (suc (shared xs ys)) 0

pub shared_take : (a b : Row) (d : ℕ) → d ≤ shared a b → take d a ≡ take d b
unfolding shared
shared_take a b zero h = refl
shared_take [] ys (suc d) h = absurd (omega arith)
shared_take (x ∷ xs) [] (suc d) h = absurd (omega arith)
shared_take (x ∷ xs) (y ∷ ys) (suc d) h = go (shared_take xs ys d) (test (eqb x y))
  where
    go : (d ≤ shared xs ys → take d xs ≡ take d ys) → T (eqb x y) ⊎ (T (eqb x y) → ⊥) → ◌≡◌ {A = Row} (x ∷ take d xs) (y ∷ take d ys)
    go ih (inl e) =
        let p : x ≡ y = eqb→eq x y e in
        let q : take d xs ≡ take d ys = ih (omega (arith, h, pick_true {A = ℕ} (eqb x y) (suc (shared xs ys)) 0 e)) in
        cc
    go ih (inr n) = absurd (omega (arith, h, pick_false {A = ℕ} (eqb x y) (suc (shared xs ys)) 0 n))

pub shared_apart : (a b : Row) (d : ℕ) → shared a b < d → d ≤ length a → d ≤ length b → take d a ≡ take d b → ⊥
unfolding shared
shared_apart a b zero h g k e = omega arith
shared_apart [] ys (suc d) h g k e = omega arith
shared_apart (x ∷ xs) [] (suc d) h g k e = omega arith
shared_apart (x ∷ xs) (y ∷ ys) (suc d) h g k e = go (shared_apart xs ys d) (test (eqb x y))
  where
    p : x ≡ y
    p = cc

    q : take d xs ≡ take d ys
    q = cc

    go : (shared xs ys < d → d ≤ length xs → d ≤ length ys → take d xs ≡ take d ys → ⊥) → T (eqb x y) ⊎ (T (eqb x y) → ⊥) → ⊥
    go ih (inl t) = ih (omega (arith, h, pick_true {A = ℕ} (eqb x y) (suc (shared xs ys)) 0 t)) (omega arith) (omega arith) q
    go ih (inr n) = n (subst (λ (z : ℕ). T (eqb x z)) p (eqb_refl x))
