-- The runs of a ring that is ready, as the definition of the algorithms asks them; and what a call that does what the definition says leaves.
use mathlib.Core.Path.{◌≡◌, sym, subst, ap, ◌∙◌}
use mathlib.Core.List.{List, [], ◌∷◌, ◌++◌}
use Prim.Native.Nat.{ℕ, suc, ◌+◌, ◌*◌, ◌≤◌, ◌<◌}
use native.Mathlib.Decide.{ℕ_discrete}
use native.Mathlib.Nat.{suc-mul, mul-le-mul_right}
use native.Mathlib.Omega.{arith}
use lib.Arith.{lt_of_le-ne}
use lib.ListN.{length, get_or}
use Rattle.relation.specs.Lists.{Ascends}
use Rattle.query.specs.Meet.{total, Runs, Agree}
use Rattle.query.specs.Ring.{Round}
use Rattle.leapfrog.specs.Search.{Went, run_at, first, place_after, place_before, Comes}
use Rattle.leapfrog.proofs.Steps.{after_round, after_next, before_after, cons_some}
use Rattle.leapfrog.proofs.Good.{first_at}
use Rattle.leapfrog.proofs.Search.{Ring}
use Rattle.leapfrog_search.specs.declared.Landed.{Landed}
use Rattle.leapfrog_search.specs.declared.Searched.{Searched}
use Rattle.leapfrog_search.specs.declared.Landed.TheVariants.{Key, Nothing}
use Rattle.ring_sort.specs.Sorted.{key_at}
use Rattle.leapfrog_search.specs.Ring.{Follows}
use Rattle.leapfrog_search.specs.Leapfrog.{run_of, runs_in, OnKey, Ready, Ordered, Agreed, Moved, answered, Ran, Left}
use Rattle.leapfrog_search.proofs.Parts.{part_length, part_cons, part_none}
use Rattle.leapfrog_search.proofs.Runs.{atom_place, ring_in, enough, runs_length, runs_at, ready_length, ready_at, ready_runs, ready_heads, stands_at}

-- ---- places

pub follows_after : {k p q : ℕ} → Follows k p q → place_after k p ≡ q
follows_after {k} {p} {q} f = go (ℕ_discrete (p + 1) k)
  where
    go : Dec (p + 1 ≡ k) → place_after k p ≡ q
    go (yes e) = after_round k p e ∙ sym (f.round e)
    go (no n) = after_next k p n ∙ sym (f.next (omega (arith, f.from)))

pub follows_before : {k p q : ℕ} → Follows k p q → place_before k q ≡ p
follows_before {k} {p} {q} f = ap (place_before k) (sym (follows_after f)) ∙ before_after k p f.from

-- ---- a ring that is ready

pub round_same : {κ κ' : ℕ → ℕ} {k p : ℕ} → p < k → ((j : ℕ) → j < k → κ' j ≡ κ j) → Round κ k p → Round κ' k p
round_same h f r = record {
  up = λ i j a b c. omega (arith, r.up i j a b c, f i (omega arith), f j c);
  wrapped = λ i j a b. omega (arith, r.wrapped i j a b, f i (omega arith), f j (omega arith));
  over = λ i j a b c. omega (arith, r.over i j a b c, f i c, f j (omega arith));
}

-- runs of at most n keys each
pub few : (rs : List (List ℕ)) (n : ℕ) → ((i : ℕ) → i < length rs → length (run_at rs i) ≤ n) → total rs ≤ length rs * n
unfolding total
few [] n f = omega arith
few (s ∷ rs) n f = omega (arith, f 0 (omega arith), few rs n (λ i l. f (suc i) (omega arith)), suc-mul (length rs) n)

module _ {pool at end ring : List ℕ} {k : ℕ} (r : Ready pool at end ring k) where
  pub ready_key : (j : ℕ) → j < k → first_at (runs_in pool at end ring k) j ≡ key_at pool at (get_or ring j 0)
  ready_key j l = ap first (ready_heads r j l)

  pub ready_some : (j : ℕ) → j < length (runs_in pool at end ring k) → run_at (runs_in pool at end ring k) j ≡ [] → ⊥
  ready_some j l = cons_some (run_at (runs_in pool at end ring k) j) (ready_heads r j (omega (arith, ready_length r)))

  pub ready_ring : {p : ℕ} → Ordered pool at ring k p → p < k → Ring (runs_in pool at end ring k) p
  ready_ring {p} o h = record {
    ascend = ready_runs r;
    nonempty = ready_some;
    round = rw (ready_length r) (round_same h ready_key o);
    place = rw (ready_length r) h;
  }

  -- how many keys there may be
  pub ready_few : total (runs_in pool at end ring k) ≤ 8 * length pool
  ready_few = omega (arith, few (runs_in pool at end ring k) (length pool) short, mul-le-mul_right {m = length (runs_in pool at end ring k)} {n = 8} (length pool) (omega (arith, ready_length r, r.few)))
    where
      short : (i : ℕ) → i < length (runs_in pool at end ring k) → length (run_at (runs_in pool at end ring k) i) ≤ length pool
      short i l =
          let m : i < k = omega (arith, ready_length r) in
          rw (ready_at r i m) (omega (arith, part_length pool (get_or at (get_or ring i 0) 0) (get_or end (get_or ring i 0) 0) (stands_at r i m).ends, (stands_at r i m).ends))

-- ---- what a call leaves, from what the definition gives

module _ {pool at₀ end ring : List ℕ} {k : ℕ} (r : Ready pool at₀ end ring k) {at : List ℕ} (m : Moved end ring k at₀ at) where
  module _ (j : ℕ) (l : j < k) where
    run : run_at (runs_in pool at end ring k) j ≡ run_of pool at end (get_or ring j 0)
    run = runs_at pool at end ring k (enough r) j l

    within : get_or at (get_or ring j 0) 0 ≤ get_or end (get_or ring j 0) 0
    within = m.within (get_or ring j 0) (ring_in r j l)

    -- its run has a key, or it has ended
    left_key : (run_at (runs_in pool at end ring k) j ≡ [] → ⊥) → get_or at (get_or ring j 0) 0 < get_or end (get_or ring j 0) 0
    left_key n = lt_of_le-ne within (λ e. n (run ∙ part_none pool (get_or at (get_or ring j 0) 0) (get_or end (get_or ring j 0) 0) e))

    left_gone : run_at (runs_in pool at end ring k) j ≡ [] → get_or at (get_or ring j 0) 0 ≡ get_or end (get_or ring j 0) 0
    left_gone e = omega (arith, within, part_length pool (get_or at (get_or ring j 0) 0) (get_or end (get_or ring j 0) 0) (stands_at r j l).ends, ap length (sym run ∙ e))

    left_first : (i : get_or at (get_or ring j 0) 0 < get_or end (get_or ring j 0) 0) → first (run_at (runs_in pool at end ring k) j) ≡ key_at pool at (get_or ring j 0)
    left_first i = ap first (run ∙ part_cons pool (get_or at (get_or ring j 0) 0) (get_or end (get_or ring j 0) 0) i (stands_at r j l).ends)

  size : length (runs_in pool at end ring k) ≡ k
  size = runs_length pool at end ring k (enough r)

  pub left_agreed : {x p : ℕ} → p < k → Runs (runs_in pool at end ring k) → Agree (runs_in pool at end ring k) x → Agreed pool at end ring k x p
  left_agreed {x} {p} h s g = record {
    ready = record {
      positive = r.positive;
      few = r.few;
      size = r.size;
      places = m.places;
      apart = r.apart;
      each = λ b i.
          let t = atom_place pool at end ring k (enough r) i in
          subst (OnKey pool at end) t.2 (on_key t.0 t.1);
    };
    place = h;
    all = λ b i.
        let t = atom_place pool at end ring k (enough r) i in
        subst (λ (b : ℕ). key_at pool at b ≡ x) t.2 (sym (left_first t.0 t.1 (stays t.0 t.1)) ∙ ap first (g t.0 (omega (arith, size, t.1))));
  }
    where
      stays : (j : ℕ) → j < k → get_or at (get_or ring j 0) 0 < get_or end (get_or ring j 0) 0
      stays j l = left_key j l (cons_some (run_at (runs_in pool at end ring k) j) (g j (omega (arith, size))))

      on_key : (j : ℕ) → j < k → OnKey pool at end (get_or ring j 0)
      on_key j l = record {
        atom = (stands_at r j l).atom;
        inside = stays j l;
        ends = (stands_at r j l).ends;
        ascends = subst (Ascends ◌<◌) (run j l) (s j (omega (arith, size)));
      }

  left_by : {common passed : List ℕ} {w : Went} {extra : ℕ} (common' : List ℕ) → common ≡ passed ++ common' → Comes extra (runs_in pool at₀ end ring k) common' w → (h : Landed) (n : ℕ) → w ≡ answered (runs_in pool at end ring k) h n → Left pool end ring k at₀ at common passed h
  left_by {common} {passed} {w} {extra} common' e c (Key x p) n d =
      let i = subst (Comes extra (runs_in pool at₀ end ring k) common') d c in
      record { ended = left_agreed (omega (arith, i.inside, ready_length r)) i.ascend i.ended; keys = e ∙ ap (λ (l : List ℕ). passed ++ l) i.keys; moved = m }
  left_by {common} {passed} {w} {extra} common' e c (Nothing p) n d =
      let i = subst (Comes extra (runs_in pool at₀ end ring k) common') d c in
      let h : p < k = omega (arith, i.inside, ready_length r) in
      record { ended = record { place = h; gone = left_gone p h i.ended }; keys = e ∙ ap (λ (l : List ℕ). passed ++ l) i.keys; moved = m }

-- of the common keys it has passed `passed`, and no other
pub ran_left : {pool at₀ end ring : List ℕ} {k : ℕ} {at : List ℕ} {w : Went} {a : Searched} {common common' : List ℕ} {extra : ℕ} (passed : List ℕ) → Ready pool at₀ end ring k → common ≡ passed ++ common' → Comes extra (runs_in pool at₀ end ring k) common' w → Ran pool end ring k at₀ at w a → Left pool end ring k at₀ at common passed a.landed
ran_left {a = a} {common' = common'} passed r e c d = left_by r d.moved common' e c a.landed a.seeks d.same
