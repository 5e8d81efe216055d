-- The ring in atom order: its first k are the atoms below k, so a leapfrog of k runs may begin on it.
use Rattle.std.proofs.Common.{◌≡◌, ℕ, zero, suc, ◌+◌, ◌<◌, ◌≤◌, List, [], ◌∷◌, length, get_or, take, refl, subst, ⊎_elim, arith}
use native.Mathlib.Decide.{ℕ_discrete}
use Rattle.relation.specs.Lists.{◌∈◌, not_in_nil, in_cons, Ascends, anone, amore}
use Rattle.leapfrog_search.specs.declared.Landed.{Landed}
use Rattle.leapfrog_search.specs.declared.Landed.TheVariants.{Key}
use Rattle.ring_sort.specs.Sorted.{key_at}
use Rattle.leapfrog_search.specs.Leapfrog.{Ready, Agreed, Ended}
use Rattle.leapfrog_join.proofs.Laws.{order_apart, agreed_here}
use Rattle.replay_leapfrogs.specs.Runs.{in_order, Run}

-- m numbers from n on
abbrev up_from : ℕ → ℕ → List ℕ
up_from zero n = []
up_from (suc m) n = n ∷ up_from m (suc n)

up_least : (k m n : ℕ) (a : ℕ) → a ∈ take k (up_from m n) → n ≤ a
up_least zero m n a i = absurd (not_in_nil i)
up_least (suc k) zero n a i = absurd (not_in_nil i)
up_least (suc k) (suc m) n a i = ⊎_elim (λ (e : a ≡ n). omega arith) (λ (o : a ∈ take k (up_from m (suc n))). omega (arith, up_least k m (suc n) a o)) (in_cons i)

up_below : (k m n : ℕ) (a : ℕ) → a ∈ take k (up_from m n) → a < n + k
up_below zero m n a i = absurd (not_in_nil i)
up_below (suc k) zero n a i = absurd (not_in_nil i)
up_below (suc k) (suc m) n a i = ⊎_elim (λ (e : a ≡ n). omega arith) (λ (o : a ∈ take k (up_from m (suc n))). omega (arith, up_below k m (suc n) a o)) (in_cons i)

up_ascends : (k m n : ℕ) → Ascends ◌<◌ (take k (up_from m n))
up_ascends zero m n = anone
up_ascends (suc k) zero n = anone
up_ascends (suc k) (suc m) n = amore (λ a i. up_least k m (suc n) a i) (up_ascends k m (suc n))

pub order_ascends : (k : ℕ) → Ascends ◌<◌ (take k in_order)
order_ascends k = up_ascends k 8 0

-- what holds below j, and of j, holds below j + 1
pub one_more : {P : ℕ → Type 0} {j : ℕ} → ((a : ℕ) → a < j → P a) → P j → (a : ℕ) → a < j + 1 → P a
one_more {P} {j} f h a l = go (ℕ_discrete a j)
  where
    go : Dec (a ≡ j) → P a
    go (yes e) = rw e h
    go (no n) = f a (omega arith)

pub order_ready : {pool at end : List ℕ} {k : ℕ} → 0 < k → k ≤ 8 → length at ≡ 8 → ((a : ℕ) → a < k → Run pool (get_or at a 0) (get_or end a 0)) → Ready pool at end in_order k
order_ready {pool} {at} {end} {k} s f l g = record {
  positive = s;
  few = f;
  size = refl;
  places = l;
  apart = order_apart in_order k f (order_ascends k);
  each = λ a m.
      let b : a < k = omega (arith, up_below k 8 0 a m) in
      let r = g a b in
      record { atom = omega arith; inside = r.nonempty; ends = r.inside; ascends = r.ascends };
}

-- what an init asks of a ring in atom order
pub begin_asks : {pool at end ring : List ℕ} {k : ℕ} → ring ≡ in_order → Ready pool at end in_order k → Ready pool at end ring k × Ascends ◌<◌ (take k ring)
begin_asks {pool} {at} {end} {ring} {k} e g = (rw e g, rw e (order_ascends k))

-- what a next or a seek asks, where the last call found a key
pub ended_here : {pool at end ring : List ℕ} {k x p : ℕ} {landed : Landed} → landed ≡ Key x p → Ended pool at end ring k landed → Agreed pool at end ring k (key_at pool at (get_or ring p 0)) p
ended_here {pool} {at} {end} {ring} {k} e g = agreed_here (subst (λ (h : Landed). Ended pool at end ring k h) e g)
