-- What callers cite: what it means that a ring agrees, what the calls leave of the common keys, and that a ring may be replaced by another with the same atoms.
-- Idea: everything but the sequence of places is said of atoms, so it holds of any ring that has the same ones.
use mathlib.Core.Path.{◌≡◌, refl, sym, ap, ap₂, ◌∙◌}
use mathlib.Core.List.{List, [], ◌∷◌, map}
use Prim.Native.Nat.{ℕ, ◌+◌, ◌-◌, ◌≤◌, ◌<◌}
use native.Mathlib.Omega.{arith}
use lib.ListN.{length, get_or, take, drop}
use lib.Seq.{get_or-take, length-take-le}
use Rattle.relation.specs.Lists.{◌∈◌, hd, tl, Ascends}
use Rattle.relation.proofs.Runs.{from_drop}
use Rattle.relation.specs.Runs.{from}
use Rattle.query.specs.Meet.{meet, total, Agree}
use Rattle.query.proofs.Meet.{meet_map}
use Rattle.query.proofs.Leap.{agree_tails}
use Rattle.leapfrog_search.specs.declared.Landed.{Landed}
use Rattle.leapfrog.specs.Search.{Went, search_of, next_of, seek_to}
use Rattle.leapfrog.proofs.Search.{ring_comes, search_seeks_bounded}
use Rattle.leapfrog.proofs.Onward.{Agreeing, next_comes, next_keys, seek_comes}
use Rattle.leapfrog_search.specs.declared.Landed.TheVariants.{Key, Nothing}
use Rattle.leapfrog_search.specs.declared.Searched.{Searched}
use Rattle.ring_sort.specs.Sorted.{key_at}
use Rattle.leapfrog_search.specs.Ring.{SameAtoms}
use Rattle.leapfrog_search.specs.Leapfrog.{part, run_of, runs_in, Ready, Ordered, Agreed, Moved, answered, Ran, Left}
use Rattle.ring_sort.proofs.Lists.{ascends_get_or, ascends_apart}
use Rattle.leapfrog_search.proofs.Parts.{part_length, part_at, part_drop}
use Rattle.leapfrog_search.proofs.Runs.{ring_in, ready_length, ready_runs, ready_heads, seek_from}
use Rattle.leapfrog_search.proofs.Defined.{ready_ring, ran_left}

-- a ring in atom order has different atoms
pub order_apart : (ring : List ℕ) (k : ℕ) → k ≤ length ring → Ascends ◌<◌ (take k ring) → (i j : ℕ) → i < k → j < k → get_or ring i 0 ≡ get_or ring j 0 → i ≡ j
order_apart ring k h s i j l m e =
    ascends_apart (λ a o. omega arith) s i j 0 (omega (arith, length-take-le k ring h)) (omega (arith, length-take-le k ring h))
    (get_or-take k ring i 0 l ∙ (e ∙ sym (get_or-take k ring j 0 m)))

-- ---- a ring that agrees on x

module _ {pool at end ring : List ℕ} {k x p : ℕ} (g : Agreed pool at end ring k x p) where
  pub agreed_key : (j : ℕ) → j < k → key_at pool at (get_or ring j 0) ≡ x
  agreed_key j l = g.all (get_or ring j 0) (ring_in g.ready j l)

  -- the same, said of the key at p, as the next call asks it
  pub agreed_here : Agreed pool at end ring k (key_at pool at (get_or ring p 0)) p
  agreed_here = rw (agreed_key p g.place) g

  -- every run begins with x
  pub agreed_runs : Agree (runs_in pool at end ring k) x
  agreed_runs i l =
      let m : i < k = omega (arith, ready_length g.ready) in
      let e = ready_heads g.ready i m ∙ ap (λ (y : ℕ). y ∷ part pool (get_or at (get_or ring i 0) 0 + 1) (get_or end (get_or ring i 0) 0)) (agreed_key i m) in
      e ∙ ap (λ (r : List ℕ). x ∷ drop 1 r) (sym e)

  -- x is the first of the keys in common
  pub agreed_first : meet (runs_in pool at end ring k) ≡ x ∷ meet (map (drop 1) (runs_in pool at end ring k))
  agreed_first = agree_tails (runs_in pool at end ring k) (ready_runs g.ready) (omega (arith, ready_length g.ready, g.ready.positive)) agreed_runs

  pub agreed_agreeing : Agreeing (runs_in pool at end ring k) x p
  agreed_agreeing = record { ascend = ready_runs g.ready; agree = agreed_runs; place = omega (arith, ready_length g.ready, g.place) }

  pub agreed_ordered : Ordered pool at ring k p
  agreed_ordered = record {
    up = λ i j a b c. omega (arith, agreed_key i (omega arith), agreed_key j c);
    wrapped = λ i j a b. omega (arith, agreed_key i (omega (arith, g.place)), agreed_key j (omega (arith, g.place)));
    over = λ i j a b c. omega (arith, agreed_key i c, agreed_key j (omega (arith, g.place)));
  }

-- ---- what the calls leave of the common keys: laws of the definition

pub search_left : {pool at₀ end ring : List ℕ} {k p : ℕ} {at : List ℕ} {r : Searched} → Ready pool at₀ end ring k → Ordered pool at₀ ring k p → p < k → Ran pool end ring k at₀ at (search_of (runs_in pool at₀ end ring k) p) r → Left pool end ring k at₀ at (meet (runs_in pool at₀ end ring k)) [] r.landed
search_left g o h d = ran_left [] g refl (ring_comes (ready_ring g o h)) d

-- the seeks of a search are at most the keys not yet passed in its runs
pub search_few : {pool at₀ end ring : List ℕ} {k p : ℕ} {at : List ℕ} {r : Searched} → Ready pool at₀ end ring k → Ordered pool at₀ ring k p → p < k → Ran pool end ring k at₀ at (search_of (runs_in pool at₀ end ring k) p) r → r.seeks ≤ total (runs_in pool at₀ end ring k)
search_few {pool} {end = end} {ring} {k} {at = at} {r = r} g o h d = omega (arith, search_seeks_bounded (ready_ring g o h), ap (λ (w : Went). w.seeks) d.same, answered_seeks r.landed)
  where
    answered_seeks : (h : Landed) → (answered (runs_in pool at end ring k) h r.seeks).seeks ≡ r.seeks
    answered_seeks (Key x p) = refl
    answered_seeks (Nothing p) = refl

module _ {pool at₀ end ring : List ℕ} {k p x : ℕ} {at : List ℕ} {r : Searched} (g : Agreed pool at₀ end ring k x p) where
  pub went_next : Ran pool end ring k at₀ at (next_of (runs_in pool at₀ end ring k) p) r → Left pool end ring k at₀ at (meet (runs_in pool at₀ end ring k)) (x ∷ []) r.landed
  went_next d = ran_left (x ∷ []) g.ready (next_keys (agreed_agreeing g)) (next_comes (agreed_agreeing g)) d

  pub went_seek : (t : ℕ) → Ran pool end ring k at₀ at (seek_to t (runs_in pool at₀ end ring k) p) r → Left pool end ring k at₀ at (from t (meet (runs_in pool at₀ end ring k))) [] r.landed
  went_seek t d = ran_left [] g.ready (sym (seek_from (runs_in pool at₀ end ring k) (ready_runs g.ready) p t (omega (arith, ready_length g.ready, g.place)))) (seek_comes (agreed_agreeing g) t) d

-- where all stand on x, each run is what the seek of x leaves of the run as it was
pub agreed_from : {pool at₀ at end ring : List ℕ} {k x p : ℕ} → Ready pool at₀ end ring k → Moved end ring k at₀ at → Agreed pool at end ring k x p → runs_in pool at end ring k ≡ map (from x) (runs_in pool at₀ end ring k)
unfolding runs_in
agreed_from {pool} {at₀} {at} {end} {ring} {k} {x} r m g = cut (take k ring) (λ a i. i)
  where
    one : (a : ℕ) → a ∈ take k ring → run_of pool at end a ≡ from x (run_of pool at₀ end a)
    one a i =
        let o = r.each a i in
        let e : get_or at₀ a 0 + (get_or at a 0 - get_or at₀ a 0) ≡ get_or at a 0 = omega (arith, m.forward a) in
        let l = part_length pool (get_or at₀ a 0) (get_or end a 0) o.ends in
        let h : get_or at a 0 < get_or end a 0 = (g.ready.each a i).inside in
        let stands : get_or (run_of pool at₀ end a) (get_or at a 0 - get_or at₀ a 0) 0 ≡ x = part_at pool (get_or at₀ a 0) (get_or end a 0) (get_or at a 0 - get_or at₀ a 0) (omega (arith, m.forward a)) ∙ (ap (λ (y : ℕ). get_or pool y 0) e ∙ g.all a i) in
        sym
        (from_drop x (run_of pool at₀ end a) (get_or at a 0 - get_or at₀ a 0) (omega arith) (λ j b. omega (arith, stands, ascends_get_or o.ascends j (get_or at a 0 - get_or at₀ a 0) 0 b (omega (arith, l, m.forward a)))) (λ b. omega (arith, stands))
        ∙ (part_drop pool (get_or at₀ a 0) (get_or end a 0) (get_or at a 0 - get_or at₀ a 0) (omega arith) o.ends ∙ ap (λ (y : ℕ). part pool y (get_or end a 0)) e))

    cut : (l : List ℕ) → ((a : ℕ) → a ∈ l → a ∈ take k ring) → map (run_of pool at end) l ≡ map (from x) (map (run_of pool at₀ end) l)
    cut [] f = refl
    cut (a ∷ l) f = ap₂ (λ (y : List ℕ) (ys : List (List ℕ)). y ∷ ys) (one a (f a (hd refl))) (cut l (λ b i. f b (tl i)))

-- ---- another ring with the same atoms

pub same_moved : {end ring ring' : List ℕ} {k : ℕ} {at₀ at : List ℕ} → SameAtoms ring ring' k → Moved end ring k at₀ at → Moved end ring' k at₀ at
same_moved s m = record { places = m.places; forward = m.forward; within = λ a i. m.within a (s.back a i); others = λ a n. m.others a (λ i. n (s.to a i)) }

module _ {ring ring' : List ℕ} {k : ℕ} (s : SameAtoms ring ring' k) {pool at end : List ℕ} where
  pub same_ready : Ready pool at end ring k → Ready pool at end ring' k
  same_ready r = record { positive = r.positive; few = r.few; size = s.size; places = r.places; apart = s.apart; each = λ a m. r.each a (s.back a m) }

  pub same_back : Ready pool at end ring k → SameAtoms ring' ring k
  same_back r = record { size = r.size; to = s.back; back = s.to; apart = r.apart }

  pub same_meet : Ready pool at end ring k → meet (runs_in pool at end ring k) ≡ meet (runs_in pool at end ring' k)
  unfolding runs_in
  same_meet r = meet_map (run_of pool at end) (take k ring) (take k ring') (λ a m. (r.each a m).ascends) s.to s.back

  pub same_agreed : {x p : ℕ} → Agreed pool at end ring k x p → (p' : ℕ) → p' < k → Agreed pool at end ring' k x p'
  same_agreed g p' l = record { ready = same_ready g.ready; place = l; all = λ a m. g.all a (s.back a m) }
