-- The keys that runs have in common: what is in the meet, that it ascends, and that it depends only on which runs there are.
-- Idea: an ascending list is determined by its members, and a key is in the meet exactly when it is in every run.
use Prim.Native.Nat.{ℕ, ◌<◌}
use native.Mathlib.Omega.{arith}
use mathlib.Core.Path.{◌≡◌, refl, sym, subst, ap, ◌∙◌}
use mathlib.Core.Logic.{⊎_elim}
use mathlib.Core.Bool.{Bool, true, false, false≢true}
use mathlib.Core.List.Memᴰ
use mathlib.Core.List.{List, [], ◌∷◌, map}
use lib.ListN.{length, get_or}
use lib.Dec.{eqb}
use borrow.Author.Tests.{eqb-true, eq-eqb}
use Rattle.relation.specs.Order.{pick}
use Rattle.relation.specs.Lists.{◌∈◌, hd, tl, not_in_nil, in_cons, Ascends, anone, amore}
use Rattle.relation.proofs.Lists.{same_members}
pub use Rattle.relation.proofs.Lists.{get_or_in, in_get_or}
use Rattle.query.specs.Meet.{has, in_all, keep, meet, Runs, All}

pub has_in : (xs : List ℕ) (k : ℕ) → has xs k ≡ true → k ∈ xs
unfolding has
has_in [] k e = absurd (false≢true e)
has_in (x ∷ xs) k e = go (has_in xs k) (eqb x k) refl e
  where
    go : (has xs k ≡ true → k ∈ xs) → (b : Bool) → eqb x k ≡ b → pick b true (has xs k) ≡ true → k ∈ (x ∷ xs)
    go ih true q e = hd (sym (eqb-true x k q))
    go ih false q e = tl (ih e)

pub in_has : {k : ℕ} {xs : List ℕ} → k ∈ xs → has xs k ≡ true
unfolding has
in_has {k} (hd {x = x} {xs = xs} e) = ap (λ (b : Bool). pick b true (has xs k)) (eq-eqb x k (sym e))
in_has {k} (tl {x = x} {xs = xs} m) = go (eqb x k) (in_has m)
  where
    go : (b : Bool) → has xs k ≡ true → pick b true (has xs k) ≡ true
    go true e = refl
    go false e = e

pub has_not : (xs : List ℕ) (k : ℕ) → (k ∈ xs → ⊥) → has xs k ≡ false
has_not xs k n = go (has xs k) refl
  where
    go : (b : Bool) → has xs k ≡ b → b ≡ false
    go true e = absurd (n (has_in xs k e))
    go false e = refl

pub in_keep : (p : ℕ → Bool) (xs : List ℕ) {k : ℕ} → k ∈ keep p xs → (k ∈ xs) × (p k ≡ true)
unfolding keep
in_keep p [] m = absurd (not_in_nil m)
in_keep p (x ∷ xs) {k} m = go (λ m'. in_keep p xs m') (p x) refl m
  where
    go : (k ∈ keep p xs → (k ∈ xs) × (p k ≡ true)) → (b : Bool) → p x ≡ b → k ∈ pick b (x ∷ keep p xs) (keep p xs) → (k ∈ (x ∷ xs)) × (p k ≡ true)
    go ih true q m = ⊎_elim (λ (e : k ≡ x). (hd e, ap p e ∙ q)) (λ (m' : k ∈ keep p xs). (tl (ih m').0, (ih m').1)) (in_cons m)
    go ih false q m = (tl (ih m).0, (ih m).1)

keep_in : (p : ℕ → Bool) {k : ℕ} {xs : List ℕ} → k ∈ xs → p k ≡ true → k ∈ keep p xs
unfolding keep
keep_in p {k} (hd {x = x} {xs = xs} e) q = subst (λ (b : Bool). k ∈ pick b (x ∷ keep p xs) (keep p xs)) (sym q ∙ ap p e) (hd e)
keep_in p {k} (tl {x = x} {xs = xs} m) q = go (p x) (keep_in p m q)
  where
    go : (b : Bool) → k ∈ keep p xs → k ∈ pick b (x ∷ keep p xs) (keep p xs)
    go true m = tl m
    go false m = m

pub keep_ascends : {R : ℕ → ℕ → Type 0} (p : ℕ → Bool) {xs : List ℕ} → Ascends R xs → Ascends R (keep p xs)
unfolding keep
keep_ascends p anone = anone
keep_ascends {R} p (amore {r = x} {rs = xs} f s) = go (keep_ascends p s) (p x)
  where
    go : Ascends R (keep p xs) → (b : Bool) → Ascends R (pick b (x ∷ keep p xs) (keep p xs))
    go ih true = amore (λ y m. f y (in_keep p xs m).0) ih
    go ih false = ih

in_all_all : (rs : List (List ℕ)) (k : ℕ) → in_all rs k ≡ true → (r : List ℕ) → r ∈ rs → k ∈ r
unfolding in_all
in_all_all [] k e r m = absurd (not_in_nil m)
in_all_all (s ∷ rs) k e r m = go (in_all_all rs k) (has s k) refl e
  where
    go : (in_all rs k ≡ true → (r : List ℕ) → r ∈ rs → k ∈ r) → (b : Bool) → has s k ≡ b → pick b (in_all rs k) false ≡ true → k ∈ r
    go ih true q e = ⊎_elim (λ (d : r ≡ s). rw d (has_in s k q)) (λ (m' : r ∈ rs). ih e r m') (in_cons m)
    go ih false q e = absurd (false≢true e)

all_in_all : (rs : List (List ℕ)) (k : ℕ) → ((r : List ℕ) → r ∈ rs → k ∈ r) → in_all rs k ≡ true
unfolding in_all
all_in_all [] k f = refl
all_in_all (s ∷ rs) k f = ap (λ (b : Bool). pick b (in_all rs k) false) (in_has (f s (hd refl))) ∙ all_in_all rs k (λ r m. f r (tl m))

-- a key of the meet is in every run, and a key of every run is in the meet
pub meet_all : (rs : List (List ℕ)) {k : ℕ} → k ∈ meet rs → (r : List ℕ) → r ∈ rs → k ∈ r
unfolding meet
meet_all [] m r i = absurd (not_in_nil m)
meet_all (s ∷ rs) {k} m r i =
    ⊎_elim
    (λ (d : r ≡ s). rw d (in_keep (in_all rs) s m).0)
    (λ (j : r ∈ rs). in_all_all rs k (in_keep (in_all rs) s m).1 r j)
    (in_cons i)

pub all_meet : (rs : List (List ℕ)) {k : ℕ} {s : List ℕ} → s ∈ rs → ((r : List ℕ) → r ∈ rs → k ∈ r) → k ∈ meet rs
unfolding meet
all_meet [] i f = absurd (not_in_nil i)
all_meet (r ∷ rs) {k} i f = keep_in (in_all rs) (f r (hd refl)) (all_in_all rs k (λ r m. f r (tl m)))

pub meet_ascends : (rs : List (List ℕ)) → ((r : List ℕ) → r ∈ rs → Ascends ◌<◌ r) → Ascends ◌<◌ (meet rs)
unfolding meet
meet_ascends [] f = anone
meet_ascends (r ∷ rs) f = keep_ascends (in_all rs) (f r (hd refl))

-- two ascending lists of keys with the same keys are equal
pub same_keys : {xs ys : List ℕ} → Ascends ◌<◌ xs → Ascends ◌<◌ ys → ((k : ℕ) → k ∈ xs → k ∈ ys) → ((k : ℕ) → k ∈ ys → k ∈ xs) → xs ≡ ys
same_keys = same_members (λ a b h g. omega arith)

pub none_left : (l : List ℕ) → ((k : ℕ) → k ∈ l → ⊥) → l ≡ []
none_left [] f = refl
none_left (x ∷ l) f = absurd (f x (hd refl))

-- the meet depends only on which runs there are: not on their sequence, nor on how often one stands there
meet_same : (rs ss : List (List ℕ)) → ((r : List ℕ) → r ∈ rs → Ascends ◌<◌ r) → ((r : List ℕ) → r ∈ rs → r ∈ ss) → ((r : List ℕ) → r ∈ ss → r ∈ rs) → meet rs ≡ meet ss
unfolding meet
meet_same rs ss a f g =
    same_keys
    (meet_ascends rs a)
    (meet_ascends ss (λ r m. a r (g r m)))
    (λ k m. one rs ss f g k m)
    (λ k m. one ss rs g f k m)
  where
    one : (rs ss : List (List ℕ)) → ((r : List ℕ) → r ∈ rs → r ∈ ss) → ((r : List ℕ) → r ∈ ss → r ∈ rs) → (k : ℕ) → k ∈ meet rs → k ∈ meet ss
    one [] ss f g k m = absurd (not_in_nil m)
    one (r ∷ rs) ss f g k m = all_meet ss (f r (hd refl)) (λ s i. meet_all (r ∷ rs) m s (g s i))

-- the same where the runs are named by numbers, as a ring of indices names them
pub meet_map : (run : ℕ → List ℕ) (xs ys : List ℕ) → ((x : ℕ) → x ∈ xs → Ascends ◌<◌ (run x)) → ((x : ℕ) → x ∈ xs → x ∈ ys) → ((x : ℕ) → x ∈ ys → x ∈ xs) → meet (map run xs) ≡ meet (map run ys)
meet_map run xs ys a f g =
    meet_same (map run xs) (map run ys)
    (λ r m. let t = Memᴰ.of_map run xs m in subst (Ascends ◌<◌) t.2 (a t.0 t.1))
    (λ r m. let t = Memᴰ.of_map run xs m in rw (← t.2) (Memᴰ.map run (f t.0 t.1)))
    (λ r m. let t = Memᴰ.of_map run ys m in rw (← t.2) (Memᴰ.map run (g t.0 t.1)))

-- ---- the same by index, as an engine's array has the runs

-- what holds of each run by its index holds of each run
by_index : (P : List ℕ → Type 0) (rs : List (List ℕ)) → ((i : ℕ) → i < length rs → P (get_or rs i [])) → (r : List ℕ) → r ∈ rs → P r
by_index P rs f r m = let t = in_get_or [] m in subst P t.2 (f t.0 t.1)

pub meet_to : (rs : List (List ℕ)) {k : ℕ} → k ∈ meet rs → All rs k
meet_to rs m i h = meet_all rs m (get_or rs i []) (get_or_in rs i [] h)

pub meet_of : (rs : List (List ℕ)) {k : ℕ} → 0 < length rs → All rs k → k ∈ meet rs
meet_of rs {k} h f = all_meet rs (get_or_in rs 0 [] h) (by_index (λ (r : List ℕ). k ∈ r) rs f)

pub meet_asc : (rs : List (List ℕ)) → Runs rs → Ascends ◌<◌ (meet rs)
meet_asc rs f = meet_ascends rs (by_index (Ascends ◌<◌) rs f)
