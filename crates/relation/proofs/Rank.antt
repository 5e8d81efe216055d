-- The place of a row among ascending rows: how many come before it; and what placing a new row does to a list and to places.
use Prim.Native.Nat.{ℕ, zero, suc, ◌≤◌, ◌<◌}
use mathlib.Core.Path.{◌≡◌, refl, sym, ap, ◌∙◌, subst}
use mathlib.Core.Bool.{Bool, true, false}
use mathlib.Core.Logic.{◌⊎◌, inl, inr, ⊎_elim}
use mathlib.Core.List.{List, [], ◌∷◌, ◌++◌, map}
use native.Mathlib.Omega.{arith}
use lib.ListN.{length, take, get_or, drop}
use Rattle.relation.specs.Order.{Row, pick, before, ◌≺◌}
use Rattle.relation.specs.Lists.{◌∈◌, hd, tl, not_in_nil, in_cons, anone, amore}
use Rattle.relation.specs.Rows.{Asc, put}
use Rattle.relation.proofs.Order.{irrefl, trans, Tri, lt, eq, gt, tri, asym, pick_before, pick_not, dec≺, snoc_after, before_snoc, snoc_inv, snoc_gap, take_not_after, take_before}
use Rattle.relation.proofs.Sorting.{put_lt, put_gt}

-- how many of the ascending rows come before p
unfoldable pub rank : Row → List Row → ℕ
rank p [] = 0
rank p (q ∷ qs) = pick (before q p) (suc (rank p qs)) 0

-- x put at place n
unfoldable pub ins {ℓ} : {A : Type ℓ} → ℕ → A → List A → List A
ins n x xs = take n xs ++ x ∷ drop n xs

-- from place n on each one more
unfoldable pub bump : ℕ → List ℕ → List ℕ
bump n xs = take n xs ++ map suc (drop n xs)

pub rank_lt : (p q : Row) (qs : List Row) → q ≺ p → rank p (q ∷ qs) ≡ suc (rank p qs)
unfolding rank
rank_lt p q qs h = pick_before (suc (rank p qs)) 0 h

pub rank_not : (p q : Row) (qs : List Row) → (q ≺ p → ⊥) → rank p (q ∷ qs) ≡ 0
unfolding rank
rank_not p q qs h = pick_not (suc (rank p qs)) 0 h

pub rank_le : (p : Row) (qs : List Row) → rank p qs ≤ length qs
unfolding rank
rank_le p [] = omega arith
rank_le p (q ∷ qs) = go (before q p) (rank_le p qs)
  where
    go : (b : Bool) → rank p qs ≤ length qs → pick b (suc (rank p qs)) 0 ≤ suc (length qs)
    go true h = omega arith
    go false h = omega arith

-- rows that tell a and b apart in no member give them one place
rank_cong : (a b : Row) (qs : List Row) → ((q : Row) → q ∈ qs → (q ≺ a → q ≺ b) × (q ≺ b → q ≺ a)) → rank a qs ≡ rank b qs
unfolding rank
rank_cong a b [] f = refl
rank_cong a b (q ∷ qs) f = go (dec≺ q a) (rank_cong a b qs (λ x m. f x (tl m)))
  where
    go : (q ≺ a) ⊎ (q ≺ a → ⊥) → rank a qs ≡ rank b qs → rank a (q ∷ qs) ≡ rank b (q ∷ qs)
    go (inl h) ih = rank_lt a q qs h ∙ ap suc ih ∙ sym (rank_lt b q qs ((f q (hd refl)).0 h))
    go (inr n) ih = rank_not a q qs n ∙ sym (rank_not b q qs (λ h. n ((f q (hd refl)).1 h)))

-- all before: the place is the end
pub rank_end : (p : Row) (qs : List Row) → ((q : Row) → q ∈ qs → q ≺ p) → rank p qs ≡ length qs
unfolding rank
rank_end p [] f = refl
rank_end p (q ∷ qs) f = rank_lt p q qs (f q (hd refl)) ∙ ap suc (rank_end p qs (λ x m. f x (tl m)))

-- a new row stands at its place
pub put_ins : (r : Row) (qs : List Row) → (r ∈ qs → ⊥) → put r qs ≡ ins (rank r qs) r qs
unfolding put rank ins
put_ins r [] n = refl
put_ins r (q ∷ qs) n = go (tri r q) (put_ins r qs (λ m. n (tl m)))
  where
    go : Tri r q → put r qs ≡ ins (rank r qs) r qs → put r (q ∷ qs) ≡ ins (rank r (q ∷ qs)) r (q ∷ qs)
    go (lt l) ih = put_lt r q qs l ∙ ap (λ (n : ℕ). ins n r (q ∷ qs)) (sym (rank_not r q qs (λ g. asym l g)))
    go (eq e) ih = absurd (n (hd e))
    go (gt g) ih = put_gt r q qs g ∙ ap (λ (l : List Row). q ∷ l) ih ∙ ap (λ (n : ℕ). ins n r (q ∷ qs)) (sym (rank_lt r q qs g))

-- a member's place is where it stands
pub rank_at : {r : Row} {qs : List Row} → Asc qs → r ∈ qs → (rank r qs < length qs) × (get_or qs (rank r qs) [] ≡ r)
unfolding rank
rank_at anone m = absurd (not_in_nil m)
rank_at {r} (amore {r = q} {rs = qs} f s) (hd e) =
    let z : rank r (q ∷ qs) ≡ 0 = rank_not r q qs (λ l. irrefl (rw e at l)) in
    (omega arith, ap (λ (n : ℕ). get_or (q ∷ qs) n []) z ∙ sym e)
rank_at {r} (amore {r = q} {rs = qs} f s) (tl m) =
    let z : rank r (q ∷ qs) ≡ suc (rank r qs) = rank_lt r q qs (f r m) in
    (omega (arith, (rank_at s m).0), ap (λ (n : ℕ). get_or (q ∷ qs) n []) z ∙ (rank_at s m).1)

-- in ascending rows a new one adds one to the places behind it
pub rank_put : (p u : Row) {qs : List Row} → Asc qs → (u ∈ qs → ⊥) → rank p (put u qs) ≡ pick (before u p) (suc (rank p qs)) (rank p qs)
unfolding rank put
rank_put p u anone n = refl
rank_put p u (amore {r = q} {rs = qs} f s) n = go (tri u q) (dec≺ u p) (dec≺ q p) (rank_put p u s (λ m. n (tl m)))
  where
    go : Tri u q → (u ≺ p) ⊎ (u ≺ p → ⊥) → (q ≺ p) ⊎ (q ≺ p → ⊥) → rank p (put u qs) ≡ pick (before u p) (suc (rank p qs)) (rank p qs) → rank p (put u (q ∷ qs)) ≡ pick (before u p) (suc (rank p (q ∷ qs))) (rank p (q ∷ qs))
    go (eq e) a b ih = absurd (n (hd e))
    go (lt l) (inl a) b ih = ap (rank p) (put_lt u q qs l) ∙ rank_lt p u (q ∷ qs) a ∙ sym (pick_before _ _ a)
    go (lt l) (inr a) b ih =
        ap (rank p) (put_lt u q qs l) ∙ rank_not p u (q ∷ qs) a ∙ sym (rank_not p q qs (λ g. a (trans l g))) ∙ sym (pick_not _ _ a)
    go (gt g) (inl a) b ih =
        ap (rank p) (put_gt u q qs g) ∙ rank_lt p q (put u qs) (trans g a) ∙ ap suc (ih ∙ pick_before _ _ a) ∙
        ap suc (sym (rank_lt p q qs (trans g a))) ∙ sym (pick_before _ _ a)
    go (gt g) (inr a) (inl b) ih =
        ap (rank p) (put_gt u q qs g) ∙ rank_lt p q (put u qs) b ∙ ap suc (ih ∙ pick_not _ _ a) ∙ sym (rank_lt p q qs b) ∙ sym (pick_not _ _ a)
    go (gt g) (inr a) (inr b) ih =
        ap (rank p) (put_gt u q qs g) ∙ rank_not p q (put u qs) b ∙ sym (rank_not p q qs b) ∙ sym (pick_not _ _ a)

-- where the children of each of ps start among qs
unfoldable pub starts_in : List Row → List Row → List ℕ
unfolding rank
starts_in ps qs = map (λ p. rank p qs) ps

-- a new row among the children: later starts are one more
pub starts_put : (u : Row) {ps qs : List Row} → Asc ps → Asc qs → (u ∈ ps → ⊥) → (u ∈ qs → ⊥) → starts_in ps (put u qs) ≡ bump (rank u ps) (starts_in ps qs)
unfolding starts_in bump rank
starts_put u anone t np nq = refl
starts_put u {qs = qs} (amore {r = p} {rs = ps} f s) t np nq = go (tri p u) (starts_put u s t (λ m. np (tl m)) nq)
  where
    all_later : (us : List Row) → ((q : Row) → q ∈ us → u ≺ q) → map (λ p. rank p (put u qs)) us ≡ map suc (map (λ p. rank p qs) us)
    all_later [] g = refl
    all_later (x ∷ xs) g =
        let a : rank x (put u qs) ≡ suc (rank x qs) = rank_put x u t nq ∙ pick_before _ _ (g x (hd refl)) in
        let b : map (λ p. rank p (put u qs)) xs ≡ map suc (map (λ p. rank p qs) xs) = all_later xs (λ q m. g q (tl m)) in
        cc

    go : Tri p u → starts_in ps (put u qs) ≡ bump (rank u ps) (starts_in ps qs) → starts_in (p ∷ ps) (put u qs) ≡ bump (rank u (p ∷ ps)) (starts_in (p ∷ ps) qs)
    go (lt l) ih =
        let a : rank p (put u qs) ≡ rank p qs = rank_put p u t nq ∙ pick_not _ _ (λ g. asym l g) in
        let b : ◌≡◌ {A = List ℕ} (rank p (put u qs) ∷ starts_in ps (put u qs)) (rank p qs ∷ bump (rank u ps) (starts_in ps qs)) = cc in
        b ∙ ap (λ (n : ℕ). bump n (starts_in (p ∷ ps) qs)) (sym (rank_lt u p ps l))
    go (eq e) ih = absurd (np (hd (sym e)))
    go (gt g) ih =
        all_later (p ∷ ps) (λ q m. ⊎_elim (λ (e : q ≡ p). rw e g) (λ (w : q ∈ ps). trans g (f q w)) (in_cons m)) ∙
        ap (λ (n : ℕ). bump n (starts_in (p ∷ ps) qs)) (sym (rank_not u p ps (λ l. asym l g)))

pub map_ins {ℓ κ} : {A : Type ℓ} {B : Type κ} (f : A → B) (n : ℕ) (x : A) (xs : List A) → map f (ins n x xs) ≡ ins n (f x) (map f xs)
unfolding ins
map_ins f zero x xs = refl
map_ins f (suc n) x [] = refl
map_ins {B = B} f (suc n) x (y ∷ ys) = ap {B = List B} (λ l. f y ∷ l) (map_ins f n x ys)

-- a place put in among places that are one more from there on
pub ins_bump : (n m : ℕ) (xs : List ℕ) → n ≤ length xs → ins n m (bump n xs) ≡ take n xs ++ m ∷ map suc (drop n xs)
unfolding ins bump
ins_bump zero m xs h = refl
ins_bump (suc n) m [] h = absurd (omega arith)
ins_bump (suc n) m (x ∷ xs) h = ap {B = List ℕ} (λ l. x ∷ l) (ins_bump n m xs (omega arith))

pub ins_end {ℓ} : {A : Type ℓ} (x : A) (xs : List A) → ins (length xs) x xs ≡ xs ++ (x ∷ [])
unfolding ins
ins_end x [] = refl
ins_end {A = A} x (y ∷ ys) = ap {B = List A} (λ l. y ∷ l) (ins_end x ys)

pub bump_end : (xs : List ℕ) → bump (length xs) xs ≡ xs
unfolding bump
bump_end [] = refl
bump_end (x ∷ xs) = ap {B = List ℕ} (λ l. x ∷ l) (bump_end xs)

pub length_starts : (ps qs : List Row) → length (starts_in ps qs) ≡ length ps
unfolding starts_in
length_starts [] qs = refl
length_starts (p ∷ ps) qs = ap suc (length_starts ps qs)

-- the place of a going on from t: behind t if t is there, else t's own
pub rank_snoc_in : (t : Row) (k : ℕ) {ps : List Row} → Asc ps → ((p : Row) → p ∈ ps → length p ≡ length t) → t ∈ ps → rank (t ++ (k ∷ [])) ps ≡ suc (rank t ps)
unfolding rank
rank_snoc_in t k anone h m = absurd (not_in_nil m)
rank_snoc_in t k (amore {r = p} {rs = ps} f s) h (hd e) =
    rank_lt (t ++ (k ∷ [])) p ps (rw (← e) (snoc_after t k)) ∙ ap suc (none ps f (λ q m. h q (tl m))) ∙ ap suc (sym (rank_not t p ps (λ l. irrefl (rw e at l))))
  where
    none : (us : List Row) → ((q : Row) → q ∈ us → p ≺ q) → ((q : Row) → q ∈ us → length q ≡ length t) → rank (t ++ (k ∷ [])) us ≡ 0
    none [] g h = refl
    none (x ∷ xs) g h = rank_not (t ++ (k ∷ [])) x xs (λ l. ⊎_elim (λ (w : x ≺ t). asym w (rw e (g x (hd refl)))) (λ (w : x ≡ t). irrefl (rw (w ∙ e) at (g x (hd refl)))) (snoc_inv x t k (h x (hd refl)) l))
rank_snoc_in t k (amore {r = p} {rs = ps} f s) h (tl m) =
    rank_lt (t ++ (k ∷ [])) p ps (before_snoc k (f t m)) ∙ ap suc (rank_snoc_in t k s (λ q w. h q (tl w)) m) ∙ ap suc (sym (rank_lt t p ps (f t m)))

pub rank_snoc_out : (t : Row) (k : ℕ) (ps : List Row) → ((p : Row) → p ∈ ps → length p ≡ length t) → (t ∈ ps → ⊥) → rank (t ++ (k ∷ [])) ps ≡ rank t ps
rank_snoc_out t k ps h n =
    rank_cong (t ++ (k ∷ [])) t ps
    (λ q m. (λ l. ⊎_elim (λ (w : q ≺ t). w) (λ (e : q ≡ t). absurd (n (subst (λ (z : Row). z ∈ ps) e m))) (snoc_inv q t k (h q m) l), λ l. before_snoc k l))

-- where no row goes on from t, t and its going on have one place
pub rank_snoc_gap : (t : Row) (k : ℕ) (qs : List Row) → ((q : Row) → q ∈ qs → take (length t) q ≡ t → ⊥) → rank (t ++ (k ∷ [])) qs ≡ rank t qs
rank_snoc_gap t k qs n = rank_cong (t ++ (k ∷ [])) t qs (λ q m. (λ l. snoc_gap q t k (n q m) l, λ l. before_snoc k l))

-- t, not among the parents ps, has the place among the children qs that the parent at t's place has, or the end
pub start_place : (d : ℕ) (t : Row) (qs ps : List Row) → length t ≤ d → Asc ps → (t ∈ ps → ⊥) → ((q : Row) → q ∈ qs → (take d q ≺ t) ⊎ (take d q ∈ ps)) → rank t qs ≡ get_or (starts_in ps qs) (rank t ps) (length qs)
unfolding starts_in rank
start_place d t qs [] short s n f = rank_end t qs (λ q m. ⊎_elim (λ (l : take d q ≺ t). take_before d q t short l) (λ (v : take d q ∈ []). absurd (not_in_nil v)) (f q m))
start_place d t qs (p ∷ ps) short (amore ab s) n f = go (tri p t) (start_place d t qs ps short s (λ m. n (tl m)))
  where
    fewer : p ≺ t → (q : Row) → q ∈ qs → (take d q ≺ t) ⊎ (take d q ∈ ps)
    fewer l q m = ⊎_elim (λ (k : take d q ≺ t). inl k) (λ (v : take d q ∈ (p ∷ ps)). ⊎_elim (λ (e : take d q ≡ p). inl (rw e l)) (λ (u : take d q ∈ ps). inr u) (in_cons v)) (f q m)

    back : (q : Row) → q ∈ qs → q ≺ p → q ≺ t
    back q m l =
        ⊎_elim (λ (k : take d q ≺ t). take_before d q t short k)
        (λ (v : take d q ∈ (p ∷ ps)). ⊎_elim (λ (e : take d q ≡ p). absurd (take_not_after d q (rw e l))) (λ (u : take d q ∈ ps). absurd (take_not_after d q (trans l (ab (take d q) u)))) (in_cons v))
        (f q m)

    go : Tri p t → (((q : Row) → q ∈ qs → (take d q ≺ t) ⊎ (take d q ∈ ps)) → rank t qs ≡ get_or (starts_in ps qs) (rank t ps) (length qs)) → rank t qs ≡ get_or (starts_in (p ∷ ps) qs) (rank t (p ∷ ps)) (length qs)
    go (lt l) ih = ih (fewer l) ∙ ap (λ (k : ℕ). get_or (starts_in (p ∷ ps) qs) k (length qs)) (sym (rank_lt t p ps l))
    go (eq e) ih = absurd (n (hd (sym e)))
    go (gt g) ih = rank_cong t p qs (λ q m. (λ l. trans l g, back q m)) ∙ ap (λ (k : ℕ). get_or (starts_in (p ∷ ps) qs) k (length qs)) (sym (rank_not t p ps (λ l. asym l g)))

pub length_ins {ℓ} : {A : Type ℓ} (n : ℕ) (x : A) (xs : List A) → length (ins n x xs) ≡ suc (length xs)
unfolding ins
length_ins zero x xs = refl
length_ins (suc n) x [] = refl
length_ins (suc n) x (y ∷ ys) = ap suc (length_ins n x ys)

-- by places, for a loop that shifts words
get_or_ins_lt {ℓ} : {A : Type ℓ} (n : ℕ) (x : A) (xs : List A) (j : ℕ) (z : A) → n ≤ length xs → j < n → get_or (ins n x xs) j z ≡ get_or xs j z
unfolding ins
get_or_ins_lt zero x xs j z h k = absurd (omega arith)
get_or_ins_lt (suc n) x [] j z h k = absurd (omega arith)
get_or_ins_lt (suc n) x (y ∷ ys) zero z h k = refl
get_or_ins_lt (suc n) x (y ∷ ys) (suc j) z h k = get_or_ins_lt n x ys j z (omega arith) (omega arith)

get_or_ins_at {ℓ} : {A : Type ℓ} (n : ℕ) (x : A) (xs : List A) (z : A) → n ≤ length xs → get_or (ins n x xs) n z ≡ x
unfolding ins
get_or_ins_at zero x xs z h = refl
get_or_ins_at (suc n) x [] z h = absurd (omega arith)
get_or_ins_at (suc n) x (y ∷ ys) z h = get_or_ins_at n x ys z (omega arith)

get_or_ins_gt {ℓ} : {A : Type ℓ} (n : ℕ) (x : A) (xs : List A) (j : ℕ) (z : A) → n ≤ length xs → n ≤ j → get_or (ins n x xs) (suc j) z ≡ get_or xs j z
unfolding ins
get_or_ins_gt zero x xs j z h k = refl
get_or_ins_gt (suc n) x [] j z h k = absurd (omega arith)
get_or_ins_gt (suc n) x (y ∷ ys) zero z h k = absurd (omega arith)
get_or_ins_gt (suc n) x (y ∷ ys) (suc j) z h k = get_or_ins_gt n x ys j z (omega arith) (omega arith)
