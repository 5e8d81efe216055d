-- When one layer is sound: as the test's walk over its keys, and as the facts about its intervals and groups.
-- Idea: the walk meets each interval at its place; so a key that starts no group is above the one before it, and the other way round.
use Prim.Native.Nat.{ℕ, zero, suc, ◌+◌, ◌-◌, ◌≤◌, ◌<◌}
use mathlib.Core.Path.{◌≡◌, refl, ap, subst}
use mathlib.Core.Bool.{Bool, true, false, ◌&&◌}
use mathlib.Core.Logic.{◌⊎◌, inl, inr, ◌≢◌}
use mathlib.Core.List.{List, [], ◌∷◌}
use native.Mathlib.Omega.{arith}
use native.Mathlib.Decide.{dec_lt, ℕ_discrete}
use lib.ListN.{length, get_or, get_or-eq_default}
use lib.Dec.{T, ltb, eqb, ltb→lt, lt→ltb, eqb→eq, eqb_refl}
use native.Mathlib.Nat.{le_of_eq}
use Rattle.relation.specs.Order.{pick}
use Rattle.relation.specs.Undamaged.{Ordered, walk, sound}
use Rattle.relation.proofs.Order.{pick_true, pick_false, test}

pub data Walk : ℕ → ℕ → List ℕ → List ℕ → Type 0 where
  done : {at prev : ℕ} → Walk at prev [] []
  open' : {at prev s k : ℕ} {ss ks : List ℕ} → s ≡ at → Walk (suc at) k ss ks → Walk at prev (s ∷ ss) (k ∷ ks)
  step : {at prev k : ℕ} {ss ks : List ℕ} → prev < k → Walk (suc at) k ss ks → Walk at prev ss (k ∷ ks)

pub data Sound : List ℕ → List ℕ → Type 0 where
  bare : Sound [] []
  full : {s k : ℕ} {ss ks : List ℕ} → s ≡ 0 → Walk 1 k ss ks → Sound (s ∷ ss) (k ∷ ks)

pub both : (a b : Bool) → T (a && b) → T a × T b
both true b t = (tt, t)
both false b t = absurd t

pub both_and : (a b : Bool) → T a → T b → T (a && b)
both_and true b t u = u
both_and false b t u = absurd t

walk→ : (at prev : ℕ) (ss ks : List ℕ) → T (walk at prev ss ks) → Walk at prev ss ks
unfolding walk
walk→ at prev [] [] t = done
walk→ at prev (s ∷ ss) [] t = absurd t
walk→ at prev [] (k ∷ ks) t = let w = both (ltb prev k) (walk (suc at) k [] ks) t in step (ltb→lt prev k w.0) (walk→ (suc at) k [] ks w.1)
walk→ at prev (s ∷ ss) (k ∷ ks) t = go (test (eqb s at)) (both (pick (eqb s at) true (ltb prev k)) (walk (suc at) k (pick (eqb s at) ss (s ∷ ss)) ks) t) (λ (qs : List ℕ). walk→ (suc at) k qs ks)
  where
    go : T (eqb s at) ⊎ (T (eqb s at) → ⊥) → T (pick (eqb s at) true (ltb prev k)) × T (walk (suc at) k (pick (eqb s at) ss (s ∷ ss)) ks) → ((qs : List ℕ) → T (walk (suc at) k qs ks) → Walk (suc at) k qs ks) → Walk at prev (s ∷ ss) (k ∷ ks)
    go (inl e) w ih = open' (eqb→eq s at e) (ih ss (subst (λ (z : List ℕ). T (walk (suc at) k z ks)) (pick_true (eqb s at) ss (s ∷ ss) e) w.1))
    go (inr n) w ih =
        step (ltb→lt prev k (subst T (pick_false (eqb s at) true (ltb prev k) n) w.0))
        (ih (s ∷ ss) (subst (λ (z : List ℕ). T (walk (suc at) k z ks)) (pick_false (eqb s at) ss (s ∷ ss) n) w.1))

-- the starts that are left lie at `at` or behind
pub walk_starts : {at prev : ℕ} {ss ks : List ℕ} → Walk at prev ss ks → 0 < length ss → at ≤ get_or ss 0 0
walk_starts done h = absurd (omega arith)
walk_starts (open' e w) h = omega arith
walk_starts (step l w) h = omega (arith, walk_starts w h)

→walk : {at prev : ℕ} {ss ks : List ℕ} → Walk at prev ss ks → T (walk at prev ss ks)
unfolding walk
→walk done = tt
→walk (open' {at} {prev} {s} {k} {ss} {ks} e w) =
    let t : T (eqb s at) = subst (λ (z : ℕ). T (eqb s z)) e (eqb_refl s) in
    both_and (pick (eqb s at) true (ltb prev k)) (walk (suc at) k (pick (eqb s at) ss (s ∷ ss)) ks)
    (rw (pick_true (eqb s at) true (ltb prev k) t) tt)
    (rw (pick_true (eqb s at) ss (s ∷ ss) t) (→walk w))
→walk (step {at} {prev} {k} {ss} {ks} l w) = go ss w (→walk w)
  where
    go : (qs : List ℕ) → Walk (suc at) k qs ks → T (walk (suc at) k qs ks) → T (walk at prev qs (k ∷ ks))
    go [] v t = both_and (ltb prev k) (walk (suc at) k [] ks) (lt→ltb prev k l) t
    go (s ∷ qs) v t =
        let n : T (eqb s at) → ⊥ = λ e. omega (arith, eqb→eq s at e, walk_starts v (omega arith)) in
        both_and (pick (eqb s at) true (ltb prev k)) (walk (suc at) k (pick (eqb s at) qs (s ∷ qs)) ks)
        (rw (pick_false (eqb s at) true (ltb prev k) n) (lt→ltb prev k l))
        (rw (pick_false (eqb s at) qs (s ∷ qs) n) t)

pub sound→ : (ints keys : List ℕ) → T (sound ints keys) → Sound ints keys
unfolding sound
sound→ [] [] t = bare
sound→ [] (k ∷ ks) t = absurd t
sound→ (s ∷ ss) [] t = absurd t
sound→ (s ∷ ss) (k ∷ ks) t = let w = both (eqb s 0) (walk 1 k ss ks) t in full (eqb→eq s 0 w.0) (walk→ 1 k ss ks w.1)

pub →sound : {ints keys : List ℕ} → Sound ints keys → T (sound ints keys)
unfolding sound
→sound bare = tt
→sound (full {s} {k} {ss} {ks} e w) = both_and (eqb s 0) (walk 1 k ss ks) (subst (λ (z : ℕ). T (eqb s z)) e (eqb_refl s)) (→walk w)

-- the facts of a layer seen from place `at`, after the key prev
record From (at prev : ℕ) (ss ks : List ℕ) : Type 0 where
  start : 0 < length ss → at ≤ get_or ss 0 0
  ascend : (i : ℕ) → suc i < length ss → get_or ss i 0 < get_or ss (suc i) 0
  inside : (i : ℕ) → suc i ≡ length ss → get_or ss i 0 < at + length ks
  groups : (j : ℕ) → j < length ks → ((i : ℕ) → i < length ss → get_or ss i 0 ≢ at + j) → get_or (prev ∷ ks) j 0 < get_or ks j 0

rising : (ss : List ℕ) → ((i : ℕ) → suc i < length ss → get_or ss i 0 < get_or ss (suc i) 0) → (i : ℕ) → i < length ss → get_or ss 0 0 + i ≤ get_or ss i 0
rising ss f zero h = omega arith
rising ss f (suc i) h = omega (arith, f i h, rising ss f i (omega arith))

from_walk : {at prev : ℕ} {ss ks : List ℕ} → Walk at prev ss ks → From at prev ss ks
from_walk done = record { start = λ h. absurd (omega arith); ascend = λ i h. absurd (omega arith); inside = λ i h. absurd (omega arith); groups = λ j h n. absurd (omega arith) }
from_walk (open' {at} {prev} {s} {k} {ss} {ks} e w) = go (from_walk w)
  where
    go : From (suc at) k ss ks → From at prev (s ∷ ss) (k ∷ ks)
    go f = record {
      start = λ h. omega arith;
      ascend = asc;
      inside = ins;
      groups = grp;
    }
      where
        asc : (i : ℕ) → suc i < suc (length ss) → get_or (s ∷ ss) i 0 < get_or ss i 0
        asc zero h = omega (arith, f.start (omega arith))
        asc (suc i) h = f.ascend i (omega arith)

        ins : (i : ℕ) → suc i ≡ suc (length ss) → get_or (s ∷ ss) i 0 < at + suc (length ks)
        ins zero h = omega arith
        ins (suc i) h = omega (arith, f.inside i (omega arith))

        grp : (j : ℕ) → j < suc (length ks) → ((i : ℕ) → i < suc (length ss) → get_or (s ∷ ss) i 0 ≢ at + j) → get_or (prev ∷ k ∷ ks) j 0 < get_or (k ∷ ks) j 0
        grp zero h n = absurd (n zero (omega arith) (omega arith))
        grp (suc j) h n = f.groups j (omega arith) (λ i l e. n (suc i) (omega arith) (omega arith))
from_walk (step {at} {prev} {k} {ss} {ks} l w) = go (from_walk w)
  where
    go : From (suc at) k ss ks → From at prev ss (k ∷ ks)
    go f = record {
      start = λ h. omega (arith, f.start h);
      ascend = f.ascend;
      inside = λ i h. omega (arith, f.inside i h);
      groups = grp;
    }
      where
        grp : (j : ℕ) → j < suc (length ks) → ((i : ℕ) → i < length ss → get_or ss i 0 ≢ at + j) → get_or (prev ∷ k ∷ ks) j 0 < get_or (k ∷ ks) j 0
        grp zero h n = l
        grp (suc j) h n = f.groups j (omega arith) (λ i l e. n i l (omega arith))

walk_from : (at prev : ℕ) (ss ks : List ℕ) → From at prev ss ks → Walk at prev ss ks
walk_from at prev [] [] f = done
walk_from at prev (s ∷ ss) [] f = absurd (omega (arith, f.start (omega arith), rising (s ∷ ss) f.ascend (length ss) (omega arith), f.inside (length ss) refl))
walk_from at prev [] (k ∷ ks) f =
    step (f.groups zero (omega arith) (λ i h. absurd (omega arith)))
    (walk_from (suc at) k [] ks
    (record { start = λ h. absurd (omega arith); ascend = λ i h. absurd (omega arith); inside = λ i h. absurd (omega arith); groups = λ j h n. f.groups (suc j) (omega arith) (λ i l. absurd (omega arith)) }))
walk_from at prev (s ∷ ss) (k ∷ ks) f = go (ℕ_discrete s at) (λ (qs : List ℕ). walk_from (suc at) k qs ks)
  where
    next : s ≡ at → From (suc at) k ss ks
    next e = record {
      start = λ h. omega (arith, f.ascend zero (omega arith));
      ascend = λ i h. f.ascend (suc i) (omega arith);
      inside = λ i h. omega (arith, f.inside (suc i) (omega arith));
      groups = λ j h n. f.groups (suc j) (omega arith) (notin j n);
    }
      where
        notin : (j : ℕ) → ((i : ℕ) → i < length ss → get_or ss i 0 ≢ suc at + j) → (i : ℕ) → i < suc (length ss) → get_or (s ∷ ss) i 0 ≢ at + suc j
        notin j n zero h x = omega arith
        notin j n (suc i) h x = n i (omega arith) (omega arith)

    same : (s ≡ at → ⊥) → From (suc at) k (s ∷ ss) ks
    same n = record {
      start = λ h. omega (arith, f.start (omega arith));
      ascend = f.ascend;
      inside = λ i h. omega (arith, f.inside i h);
      groups = λ j h m. f.groups (suc j) (omega arith) (λ i l x. m i l (omega arith));
    }

    go : Dec (s ≡ at) → ((qs : List ℕ) → From (suc at) k qs ks → Walk (suc at) k qs ks) → Walk at prev (s ∷ ss) (k ∷ ks)
    go (yes e) ih = open' e (ih ss (next e))
    go (no n) ih = step (f.groups zero (omega arith) (λ i h x. n (omega (arith, rising (s ∷ ss) f.ascend i h, f.start (omega arith), x)))) (ih (s ∷ ss) (same n))

-- the same with one test for each key: one that starts no group is greater than the one before it
record Marked (ints keys : List ℕ) : Type 0 where
  start : 0 < length ints → get_or ints 0 0 ≡ 0
  ascend : (i : ℕ) → suc i < length ints → get_or ints i 0 < get_or ints (suc i) 0
  inside : (i : ℕ) → suc i ≡ length ints → get_or ints i 0 < length keys
  groups : (j : ℕ) → suc j < length keys → ((i : ℕ) → i < length ints → get_or ints i 0 ≢ suc j) → get_or keys j 0 < get_or keys (suc j) 0

sound_marked : {ints keys : List ℕ} → Sound ints keys → Marked ints keys
sound_marked bare = record { start = λ h. absurd (omega arith); ascend = λ i h. absurd (omega arith); inside = λ i h. absurd (omega arith); groups = λ j h n. absurd (omega arith) }
sound_marked (full {s} {k} {ss} {ks} e w) = go (from_walk w)
  where
    go : From 1 k ss ks → Marked (s ∷ ss) (k ∷ ks)
    go f = record { start = λ h. e; ascend = asc; inside = ins; groups = λ j h n. f.groups j (omega arith) (λ i l x. n (suc i) (omega arith) (omega arith)) }
      where
        asc : (i : ℕ) → suc i < suc (length ss) → get_or (s ∷ ss) i 0 < get_or ss i 0
        asc zero h = omega (arith, f.start (omega arith))
        asc (suc i) h = f.ascend i (omega arith)

        ins : (i : ℕ) → suc i ≡ suc (length ss) → get_or (s ∷ ss) i 0 < suc (length ks)
        ins zero h = omega arith
        ins (suc i) h = omega (arith, f.inside i (omega arith))

marked_sound : (ints keys : List ℕ) → Marked ints keys → (length ints ≡ 0 → length keys ≡ 0) → Sound ints keys
marked_sound [] [] f n = bare
marked_sound [] (k ∷ ks) f n = absurd (omega (arith, n refl))
marked_sound (s ∷ ss) [] f n = absurd (omega (arith, f.inside (length ss) refl))
marked_sound (s ∷ ss) (k ∷ ks) f n = full zero_start (walk_from 1 k ss ks (record {
  start = λ h. omega (arith, f.ascend zero (omega arith));
  ascend = λ i h. f.ascend (suc i) (omega arith);
  inside = λ i h. omega (arith, f.inside (suc i) (omega arith));
  groups = λ j h m. f.groups j (omega arith) (notin j m);
}))
  where
    zero_start : s ≡ 0
    zero_start = f.start (omega arith)

    notin : (j : ℕ) → ((i : ℕ) → i < length ss → get_or ss i 0 ≢ 1 + j) → (i : ℕ) → i < suc (length ss) → get_or (s ∷ ss) i 0 ≢ suc j
    notin j m zero h x = omega (arith, zero_start)
    notin j m (suc i) h x = m i (omega arith) (omega arith)

-- then keys ascend strictly in each group
in_groups : {ints keys : List ℕ} → Marked ints keys → (i j : ℕ) → i < length ints → get_or ints i 0 ≤ j → suc j < get_or ints (suc i) (length keys) → get_or keys j 0 < get_or keys (suc j) 0
in_groups {ints} {keys} o i j h lo hi = o.groups j (bound (dec_lt (suc i) (length ints))) apart
  where
    climb : (m n : ℕ) → m + n < length ints → get_or ints m 0 ≤ get_or ints (m + n) 0
    climb m zero l = le_of_eq (ap (λ (x : ℕ). get_or ints x 0) (let e : m ≡ m + 0 = omega arith in e))
    climb m (suc n) l =
        omega (
          arith,
          climb m n (omega arith),
          o.ascend (m + n) (omega arith),
          ap (λ (x : ℕ). get_or ints x 0) (let e : suc (m + n) ≡ m + suc n = omega arith in e),
        )

    upper : (x : ℕ) → suc i < length ints → get_or ints (suc i) x ≡ get_or ints (suc i) 0
    upper x l = any ints (suc i) x l
      where
        any : (l : List ℕ) (n x : ℕ) → n < length l → get_or l n x ≡ get_or l n 0
        any [] n x q = absurd (omega arith)
        any (y ∷ ys) zero x q = refl
        any (y ∷ ys) (suc n) x q = any ys n x (omega arith)

    bound : Dec (suc i < length ints) → suc j < length keys
    bound (yes l) =
        let c : get_or ints (suc i) 0 ≤ get_or ints (suc i + (length ints - 1 - suc i)) 0 = climb (suc i) (length ints - 1 - suc i) (omega arith) in
        let e : get_or ints (suc i + (length ints - 1 - suc i)) 0 ≡ get_or ints (length ints - 1) 0 = ap (λ (x : ℕ). get_or ints x 0) (let e : suc i + (length ints - 1 - suc i) ≡ length ints - 1 = omega arith in e) in
        omega (arith, upper (length keys) l, o.inside (length ints - 1) (omega arith))
    bound (no n) = omega (arith, get_or-eq_default ints (length keys) {n = suc i} (omega arith))

    apart : (m : ℕ) → m < length ints → get_or ints m 0 ≢ suc j
    apart m l e = go (dec_lt i m)
      where
        go : Dec (i < m) → ⊥
        go (yes g) =
            let b : get_or ints (suc i) 0 ≤ get_or ints (suc i + (m - suc i)) 0 = climb (suc i) (m - suc i) (omega arith) in
            let c : get_or ints (suc i + (m - suc i)) 0 ≡ get_or ints m 0 = ap (λ (x : ℕ). get_or ints x 0) (let e : suc i + (m - suc i) ≡ m = omega arith in e) in
            omega (arith, upper (length keys) (omega arith))
        go (no n) =
            let b : get_or ints m 0 ≤ get_or ints (m + (i - m)) 0 = climb m (i - m) (omega arith) in
            let c : get_or ints (m + (i - m)) 0 ≡ get_or ints i 0 = ap (λ (x : ℕ). get_or ints x 0) (let e : m + (i - m) ≡ i = omega arith in e) in
            omega arith

-- and back
from_groups : (ints keys : List ℕ) → (0 < length keys → 0 < length ints) → (0 < length ints → get_or ints 0 0 ≡ 0) → ((i j : ℕ) → i < length ints → get_or ints i 0 ≤ j → suc j < get_or ints (suc i) (length keys) → get_or keys j 0 < get_or keys (suc j) 0) → (j : ℕ) → suc j < length keys → ((i : ℕ) → i < length ints → get_or ints i 0 ≢ suc j) → get_or keys j 0 < get_or keys (suc j) 0
from_groups ints keys some start f j h n = down (length ints - 1) (omega (arith, many)) (omega (arith, get_or-eq_default ints (length keys) {n = suc (length ints - 1)} (omega arith)))
  where
    any : (l : List ℕ) (n x : ℕ) → n < length l → get_or l n x ≡ get_or l n 0
    any [] n x q = absurd (omega arith)
    any (y ∷ ys) zero x q = refl
    any (y ∷ ys) (suc n) x q = any ys n x (omega arith)

    many : 0 < length ints
    many = some (omega arith)

    -- going down from a group whose successor starts behind suc j
    down : (i : ℕ) → i < length ints → suc j < get_or ints (suc i) (length keys) → get_or keys j 0 < get_or keys (suc j) 0
    down zero l u = f zero j l (omega (arith, start many)) u
    down (suc i) l u = go (dec_lt j (get_or ints (suc i) 0)) (down i (omega arith))
      where
        go : Dec (j < get_or ints (suc i) 0) → (suc j < get_or ints (suc i) (length keys) → get_or keys j 0 < get_or keys (suc j) 0) → get_or keys j 0 < get_or keys (suc j) 0
        go (yes b) ih = ih (omega (arith, any ints (suc i) (length keys) l, n (suc i) l))
        go (no b) ih = f (suc i) j l (omega arith) u

pub sound_ordered : {ints keys : List ℕ} → Sound ints keys → Ordered ints keys
sound_ordered s = let m = sound_marked s in record { start = m.start; ascend = m.ascend; inside = m.inside; groups = in_groups m }

pub ordered_sound : (ints keys : List ℕ) → Ordered ints keys → (length ints ≡ 0 → length keys ≡ 0) → Sound ints keys
ordered_sound ints keys o n =
    marked_sound ints keys
    (record { start = o.start; ascend = o.ascend; inside = o.inside; groups = from_groups ints keys (λ h. some (dec_lt 0 (length ints)) h) o.start o.groups })
    n
  where
    some : Dec (0 < length ints) → 0 < length keys → 0 < length ints
    some (yes h) k = h
    some (no h) k = absurd (omega (arith, n (omega arith)))

pub sound_empty : {ints keys : List ℕ} → Sound ints keys → length ints ≡ 0 → length keys ≡ 0
sound_empty bare h = refl
sound_empty (full e w) h = absurd (omega arith)

pub sound_one : {ints keys : List ℕ} → Sound ints keys → length ints ≡ 1 → ints ≡ 0 ∷ []
sound_one bare h = absurd (omega arith)
sound_one (full {s} {ss = []} e w) h = ap {B = List ℕ} (λ z. z ∷ []) e
sound_one (full {s} {ss = t ∷ ts} e w) h = absurd (omega arith)
