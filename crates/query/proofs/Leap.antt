-- What the leapfrog does to the keys that runs have in common: a seek past keys that some run lacks keeps them all, agreement finds the first.
-- Idea: each step changes one run, so the members of the meet are compared run by run, and an ascending list is determined by its members.
use Prim.Native.Nat.{ℕ, zero, suc, ◌+◌, ◌≤◌, ◌<◌}
use native.Mathlib.Omega.{arith}
use native.Mathlib.Nat.{le_of_suc-le-suc}
use native.Mathlib.Decide.{ℕ_discrete}
use mathlib.Core.Path.{◌≡◌, refl, sym, subst, ap, ◌∙◌}
use mathlib.Core.Logic.{⊎_elim}
use mathlib.Core.List.Memᴰ
use mathlib.Core.List.{List, [], ◌∷◌, map}
use lib.ListN.{length, get_or, set, drop, length-set, length-map, get_or-map}
use lib.Seq.{get_or-set_same, get_or-set_other}
use Rattle.relation.specs.Lists.{◌∈◌, hd, tl, not_in_nil, in_cons, Ascends, amore}
use Rattle.relation.proofs.Lists.{ascends_head, ascends_tail}
use Rattle.relation.specs.Runs.{from}
use Rattle.relation.proofs.Runs.{from_in, in_from, from_ascends}
use Rattle.query.specs.Meet.{meet, All, Runs, Agree, total}
use Rattle.query.proofs.Meet.{get_or_in, meet_all, meet_to, meet_of, meet_asc, same_keys, none_left}

pub total_set : (rs : List (List ℕ)) (j : ℕ) (r : List ℕ) → j < length rs → total (set rs j r) + length (get_or rs j []) ≡ total rs + length r
unfolding total
total_set [] j r h = absurd (omega arith)
total_set (s ∷ rs) zero r h = omega arith
total_set (s ∷ rs) (suc j) r h = omega (arith, total_set rs j r (le_of_suc-le-suc h))

-- ---- many runs

-- one run is empty: nothing is in common
pub meet_nil : (rs : List (List ℕ)) → [] ∈ rs → meet rs ≡ []
meet_nil rs i = none_left (meet rs) (λ k m. not_in_nil (meet_all rs m [] i))

pub meet_none : (rs : List (List ℕ)) (j : ℕ) → j < length rs → get_or rs j [] ≡ [] → meet rs ≡ []
meet_none rs j h e = meet_nil rs (rw e at (get_or_in rs j [] h))

-- a change of run j: what holds of the run there now, and of the others still
at_set : (rs : List (List ℕ)) (j : ℕ) (r : List ℕ) (P : List ℕ → Type 0) → j < length rs → P r → ((i : ℕ) → i < length rs → (i ≡ j → ⊥) → P (get_or rs i [])) → (i : ℕ) → i < length rs → P (get_or (set rs j r) i [])
at_set rs j r P h p f i lt = go (ℕ_discrete i j)
  where
    go : Dec (i ≡ j) → P (get_or (set rs j r) i [])
    go (yes e) = subst P (sym (ap (λ (x : ℕ). get_or (set rs j r) x []) e ∙ get_or-set_same rs j r [] h)) p
    go (no n) = subst P (sym (get_or-set_other rs j i r [] n)) (f i lt n)

module _ (rs : List (List ℕ)) (c : Runs rs) (j : ℕ) (h : j < length rs) where
  put_runs : (r : List ℕ) → Ascends ◌<◌ r → Runs (set rs j r)
  put_runs r a i lt = at_set rs j r (Ascends ◌<◌) h a (λ i l n. c i l) i (rw (length-set rs j r) at lt)

  -- a key that all have once run j is r, and that was in run j before, was in all
  before_set : (r : List ℕ) {k : ℕ} → k ∈ meet (set rs j r) → k ∈ get_or rs j [] → k ∈ meet rs
  before_set r {k} m old = meet_of rs (omega arith) (λ g lt. back g lt (ℕ_discrete g j))
    where
      back : (g : ℕ) → g < length rs → Dec (g ≡ j) → k ∈ get_or rs g []
      back g lt (yes e) = rw e old
      back g lt (no n) = subst (λ (x : List ℕ). k ∈ x) (get_or-set_other rs j g r [] n) (meet_to (set rs j r) m g (rw (length-set rs j r) lt))

  in_set : (r : List ℕ) {k : ℕ} → k ∈ meet (set rs j r) → k ∈ r
  in_set r {k} m = subst (λ (x : List ℕ). k ∈ x) (get_or-set_same rs j r [] h) (meet_to (set rs j r) m j (rw (length-set rs j r) h))

  after_set : (r : List ℕ) {k : ℕ} → k ∈ meet rs → k ∈ r → k ∈ meet (set rs j r)
  after_set r {k} m new =
      meet_of (set rs j r) (rw (length-set rs j r) (omega arith))
      (λ g lt. at_set rs j r (λ (x : List ℕ). k ∈ x) h new (λ g l n. meet_to rs m g l) g (rw (length-set rs j r) at lt))

  -- a seek: some run has no key below t, so to drop those of run j changes nothing in common
  pub seek_runs : (t : ℕ) → Runs (set rs j (from t (get_or rs j [])))
  seek_runs t = put_runs (from t (get_or rs j [])) (from_ascends t (c j h))

  pub seek_meet : (t i : ℕ) → i < length rs → ((k : ℕ) → k ∈ get_or rs i [] → t ≤ k) → meet (set rs j (from t (get_or rs j []))) ≡ meet rs
  seek_meet t i hi least =
      let r = from t (get_or rs j []) in
      same_keys (meet_asc (set rs j r) (seek_runs t)) (meet_asc rs c)
      (λ k m. before_set r m (in_from t (get_or rs j []) (in_set r m)))
      (λ k m. after_set r m (from_in t (get_or rs j []) (least k (meet_to rs m i hi)) (meet_to rs m j h)))

  -- every run has x and run j begins with it: x is the first common key, and the others follow once run j has passed it
  next_runs : {x : ℕ} {xs : List ℕ} → get_or rs j [] ≡ x ∷ xs → Runs (set rs j xs)
  next_runs {x} {xs} e = put_runs xs (ascends_tail (subst (Ascends ◌<◌) e (c j h)))

  pub agree_meet : {x : ℕ} {xs : List ℕ} → All rs x → get_or rs j [] ≡ x ∷ xs → meet rs ≡ x ∷ meet (set rs j xs)
  agree_meet {x} {xs} all e =
      same_keys (meet_asc rs c)
      (amore (λ k m. ascends_head (subst (Ascends ◌<◌) e (c j h)) k (in_set xs m)) (meet_asc (set rs j xs) (next_runs e)))
      (λ k m. ⊎_elim (λ (d : k ≡ x). hd d) (λ (i : k ∈ xs). tl (after_set xs m i)) (in_cons (rw e at (meet_to rs m j h))))
      (λ k m. ⊎_elim
      (λ (d : k ≡ x). meet_of rs (omega arith) (λ g lt. Memᴰ.cast d (all g lt)))
      (λ (i : k ∈ meet (set rs j xs)). before_set xs i (rw e (tl (in_set xs i))))
      (in_cons m))

pub agree_all : (rs : List (List ℕ)) {x : ℕ} → Agree rs x → All rs x
agree_all rs {x} a i lt = rw (a i lt) (hd refl)

-- the meet of the tails
module _ (rs : List (List ℕ)) (c : Runs rs) (h : 0 < length rs) where
  drop_run : (i : ℕ) → get_or (map (drop 1) rs) i [] ≡ drop 1 (get_or rs i [])
  drop_run i = get_or-map (drop 1) rs i []

  tail_runs : {x : ℕ} → Agree rs x → Runs (map (drop 1) rs)
  tail_runs {x} a i lt =
      rw (drop_run i)
      (ascends_tail (subst (Ascends ◌<◌) (a i (rw (length-map rs (drop 1)) at lt)) (c i (rw (length-map rs (drop 1)) at lt))))

  -- x is the head of the meet, and the meet of the tails follows
  pub agree_tails : {x : ℕ} → Agree rs x → meet rs ≡ x ∷ meet (map (drop 1) rs)
  agree_tails {x} a =
      same_keys (meet_asc rs c)
      (amore (λ k m. over 0 h k (rest m 0 h)) (meet_asc (map (drop 1) rs) (tail_runs a)))
      (λ k m. go k m (ℕ_discrete k x))
      (λ k m. ⊎_elim
      (λ (d : k ≡ x). meet_of rs h (λ i lt. Memᴰ.cast d (agree_all rs a i lt)))
      (λ (m' : k ∈ meet (map (drop 1) rs)). meet_of rs h (λ i lt. rw (a i lt) (tl (rest m' i lt))))
      (in_cons m))
    where
      over : (i : ℕ) → i < length rs → (k : ℕ) → k ∈ drop 1 (get_or rs i []) → x < k
      over i lt = ascends_head (subst (Ascends ◌<◌) (a i lt) (c i lt))

      rest : {k : ℕ} → k ∈ meet (map (drop 1) rs) → (i : ℕ) → i < length rs → k ∈ drop 1 (get_or rs i [])
      rest m i lt = rw (drop_run i) at (meet_to (map (drop 1) rs) m i (rw (length-map rs (drop 1)) lt))

      left : {k : ℕ} → k ∈ meet rs → (k ≡ x → ⊥) → (i : ℕ) → i < length rs → k ∈ drop 1 (get_or rs i [])
      left {k} m n i lt = ⊎_elim (λ (e : k ≡ x). absurd (n e)) (λ (j : k ∈ drop 1 (get_or rs i [])). j) (in_cons (subst (λ (r : List ℕ). k ∈ r) (a i lt) (meet_to rs m i lt)))

      go : (k : ℕ) → k ∈ meet rs → Dec (k ≡ x) → k ∈ (x ∷ meet (map (drop 1) rs))
      go k m (yes e) = hd e
      go k m (no n) =
          tl
          (meet_of (map (drop 1) rs) (rw (length-map rs (drop 1)) h)
          (λ i lt. rw (drop_run i) (left m n i (rw (length-map rs (drop 1)) at lt))))
