-- The runs of a ring, and what a step of one atom does to them. Idea: the atoms are different, so moving one changes one run, and the meet's laws for that apply.
use mathlib.Core.Path.{◌≡◌, refl, sym, subst, ap, ◌∙◌}
use mathlib.Core.Logic.{⊎_elim}
use mathlib.Core.List.{List, [], ◌∷◌}
use Prim.Native.Nat.{ℕ, ◌+◌, ◌≤◌, ◌<◌}
use native.Mathlib.Decide.{ℕ_discrete}
use native.Mathlib.Nat.{eq-or-lt_of_le}
use native.Mathlib.Omega.{arith}
use lib.ListN.{length, get_or, set, take, length-set, length-map}
use lib.Seq.{get_or-take, get_or-set_same, get_or-set_other, length-take-le, ext_get_or}
use Rattle.relation.specs.Lists.{◌∈◌, Ascends}
use Rattle.query.specs.Meet as meets
use Rattle.relation.specs.Runs.{from}
use Rattle.query.specs.Meet.{meet}
use Rattle.query.proofs.Meet.{in_get_or, meet_to, meet_of, meet_asc, same_keys}
use Rattle.relation.proofs.Runs.{in_from, from_in, from_ascends, from_least}
use Rattle.query.proofs.Leap.{seek_runs}
use Rattle.query.proofs.Ring.{Passed, step, turn}
use Rattle.ring_sort.specs.Sorted.{key_at}
use Rattle.leapfrog_search.specs.Ring.{Follows}
use Rattle.leapfrog_search.specs.Leapfrog.{part, run_of, runs_in, OnKey, Ready, Ordered, Moved, Reached}
use Rattle.ring_sort.proofs.Lists.{nth_in, set_each, get_or_map}
use Rattle.seek.specs.declared.SeekStrategy.{SeekStrategy}
use Rattle.seek.specs.declared.Probed.{Probed}
use Rattle.seek.specs.Seek.{probed_by}
use Rattle.leapfrog_search.proofs.Parts.{part_cons, seek_reached}

-- ---- the runs by place of the ring

module _ (pool at end ring : List ℕ) (k : ℕ) (h : k ≤ length ring) where
  pub runs_length : length (runs_in pool at end ring k) ≡ k
  unfolding runs_in
  runs_length = length-map (take k ring) (run_of pool at end) ∙ length-take-le k ring h

  pub runs_at : (j : ℕ) → j < k → get_or (runs_in pool at end ring k) j [] ≡ run_of pool at end (get_or ring j 0)
  unfolding runs_in
  runs_at j l =
      get_or_map (run_of pool at end) (take k ring) j 0 [] (omega (arith, length-take-le k ring h))
      ∙ ap (run_of pool at end) (get_or-take k ring j 0 l)

  -- an atom of the ring has a place there
  pub atom_place : {a : ℕ} → a ∈ take k ring → (j : ℕ) × (j < k) × (get_or ring j 0 ≡ a)
  atom_place m =
      let t = in_get_or 0 m in
      let l : t.0 < k = omega (arith, t.1, length-take-le k ring h) in
      (t.0, l, sym (get_or-take k ring t.0 0 l) ∙ t.2)

-- ---- a ring that is ready

module _ {pool at end ring : List ℕ} {k : ℕ} (r : Ready pool at end ring k) where
  pub enough : k ≤ length ring
  enough = omega (arith, r.few, r.size)

  pub ring_in : (j : ℕ) → j < k → get_or ring j 0 ∈ take k ring
  ring_in j l = nth_in ring k j 0 enough l

  pub stands_at : (j : ℕ) → j < k → OnKey pool at end (get_or ring j 0)
  stands_at j l = r.each (get_or ring j 0) (ring_in j l)

  pub ready_length : length (runs_in pool at end ring k) ≡ k
  ready_length = runs_length pool at end ring k enough

  pub ready_at : (j : ℕ) → j < k → get_or (runs_in pool at end ring k) j [] ≡ run_of pool at end (get_or ring j 0)
  ready_at = runs_at pool at end ring k enough

  pub ready_runs : meets.Runs (runs_in pool at end ring k)
  ready_runs i l =
      let m : i < k = omega (arith, ready_length) in
      rw (ready_at i m) (stands_at i m).ascends

  -- each run begins with the key on which its atom stands
  pub ready_heads : (j : ℕ) → j < k → get_or (runs_in pool at end ring k) j [] ≡ key_at pool at (get_or ring j 0) ∷ part pool (get_or at (get_or ring j 0) 0 + 1) (get_or end (get_or ring j 0) 0)
  ready_heads j l = ready_at j l ∙ part_cons pool (get_or at (get_or ring j 0) 0) (get_or end (get_or ring j 0) 0) (stands_at j l).inside (stands_at j l).ends

-- ---- one run is sought

-- the place where a seek ended, by whichever strategy: from there on the run has the keys not below the target
pub sought : {pool at end : List ℕ} {a : ℕ} → OnKey pool at end a → (strategy : SeekStrategy) (t : ℕ) {s : Probed} → s ≡ probed_by strategy (run_of pool at end a) t → Reached pool (get_or at a 0) (get_or end a 0) t (get_or at a 0 + s.offset)
sought {pool} {at} {end} {a} o strategy t e =
    subst (λ (s : Probed). Reached pool (get_or at a 0) (get_or end a 0) t (get_or at a 0 + s.offset)) (sym e)
    (seek_reached pool (get_or at a 0) (get_or end a 0) (omega (arith, o.inside)) o.ends o.ascends strategy t)

-- a seek of a run to any target keeps of the common keys those from the target on
pub seek_from : (rs : List (List ℕ)) → meets.Runs rs → (j t : ℕ) → j < length rs → meet (set rs j (from t (get_or rs j []))) ≡ from t (meet rs)
seek_from rs c j t h =
    same_keys (meet_asc (set rs j run) (seek_runs rs c j h t)) (from_ascends t (meet_asc rs c))
    (λ k m. let i = in_from_t k m in from_in t (meet rs) (from_least t (c j h) i) (meet_of rs (omega arith) (λ g l. back k m g l (ℕ_discrete g j))))
    (λ k m. meet_of (set rs j run) (rw (length-set rs j run) (omega arith)) (to k m))
  where
    run : List ℕ
    run = from t (get_or rs j [])

    in_from_t : (k : ℕ) → k ∈ meet (set rs j run) → k ∈ run
    in_from_t k m = subst (λ (r : List ℕ). k ∈ r) (get_or-set_same rs j run [] h) (meet_to (set rs j run) m j (rw (length-set rs j run) h))

    back : (k : ℕ) → k ∈ meet (set rs j run) → (g : ℕ) → g < length rs → Dec (g ≡ j) → k ∈ get_or rs g []
    back k m g l (yes e) = rw e (in_from t (get_or rs j []) (in_from_t k m))
    back k m g l (no n) = subst (λ (r : List ℕ). k ∈ r) (get_or-set_other rs j g run [] n) (meet_to (set rs j run) m g (rw (length-set rs j run) l))

    to : (k : ℕ) → k ∈ from t (meet rs) → (g : ℕ) → g < length (set rs j run) → k ∈ get_or (set rs j run) g []
    to k m g l =
        set_each rs j run [] (λ (i : ℕ) (r : List ℕ). i < length rs → k ∈ r) h
        (λ b. from_in t (get_or rs j []) (from_least t (meet_asc rs c) m) (meet_to rs (in_from t (meet rs) m) j h))
        (λ i n b. meet_to rs (in_from t (meet rs) m) i b)
        g
        (rw (length-set rs j run) at l)

-- ---- one atom moves

-- the atom at place p of the ring is put at q
abbrev pub put : List ℕ → List ℕ → ℕ → ℕ → List ℕ
put at ring p q = set at (get_or ring p 0) q

module _ {pool at end ring : List ℕ} {k : ℕ} (r : Ready pool at end ring k) {p : ℕ} (h : p < k) (q : ℕ) where
  room : get_or ring p 0 < length at
  room = omega (arith, r.places, (stands_at r p h).atom)

  mine : get_or (put at ring p q) (get_or ring p 0) 0 ≡ q
  mine = get_or-set_same at (get_or ring p 0) q 0 room

  pub put_key : key_at pool (put at ring p q) (get_or ring p 0) ≡ get_or pool q 0
  put_key = ap (λ (y : ℕ). get_or pool y 0) mine

  other : (j : ℕ) → j < k → (j ≡ p → ⊥) → get_or (put at ring p q) (get_or ring j 0) 0 ≡ get_or at (get_or ring j 0) 0
  other j l n = get_or-set_other at (get_or ring p 0) (get_or ring j 0) q 0 (λ e. n (r.apart j p l h e))

  pub put_runs : runs_in pool (put at ring p q) end ring k ≡ set (runs_in pool at end ring k) p (part pool q (get_or end (get_or ring p 0) 0))
  put_runs =
      ext_get_or [] (runs_in pool (put at ring p q) end ring k) (set (runs_in pool at end ring k) p run)
      (runs_length pool (put at ring p q) end ring k (enough r) ∙ sym (length-set (runs_in pool at end ring k) p run ∙ ready_length r))
      (λ j l. same j (omega (arith, runs_length pool (put at ring p q) end ring k (enough r))) (ℕ_discrete j p))
    where
      run : List ℕ
      run = part pool q (get_or end (get_or ring p 0) 0)

      same : (j : ℕ) → j < k → Dec (j ≡ p) → get_or (runs_in pool (put at ring p q) end ring k) j [] ≡ get_or (set (runs_in pool at end ring k) p run) j []
      same j l (yes e) =
          rw e
          (runs_at pool (put at ring p q) end ring k (enough r) p h
          ∙ (ap (λ (y : ℕ). part pool y (get_or end (get_or ring p 0) 0)) mine ∙ sym (get_or-set_same (runs_in pool at end ring k) p run [] (omega (arith, ready_length r)))))
      same j l (no n) =
          runs_at pool (put at ring p q) end ring k (enough r) j l
          ∙ (ap (λ (y : ℕ). part pool y (get_or end (get_or ring j 0) 0)) (other j l n) ∙ (sym (ready_at r j l) ∙ sym (get_or-set_other (runs_in pool at end ring k) p j run [] n)))

  pub put_moved : get_or at (get_or ring p 0) 0 ≤ q → q ≤ get_or end (get_or ring p 0) 0 → Moved end ring k at (put at ring p q)
  put_moved f w = record {
    places = length-set at (get_or ring p 0) q ∙ r.places;
    forward = set_each at (get_or ring p 0) q 0 (λ (b y : ℕ). get_or at b 0 ≤ y) room f (λ b n. omega arith);
    within = set_each at (get_or ring p 0) q 0 (λ (b y : ℕ). b ∈ take k ring → y ≤ get_or end b 0) room (λ m. w) (λ b n m. omega (arith, (r.each b m).inside));
    others = set_each at (get_or ring p 0) q 0 (λ (b y : ℕ). (b ∈ take k ring → ⊥) → y ≡ get_or at b 0) room (λ n. absurd (n (ring_in r p h))) (λ b n o. refl);
  }

  -- to where a seek ended: its run is what the seek left of it
  pub put_sought : {t : ℕ} → Reached pool (get_or at (get_or ring p 0) 0) (get_or end (get_or ring p 0) 0) t q → runs_in pool (put at ring p q) end ring k ≡ set (runs_in pool at end ring k) p (from t (get_or (runs_in pool at end ring k) p []))
  put_sought {t} s = put_runs ∙ ap (set (runs_in pool at end ring k) p) (s.rest ∙ ap (from t) (sym (ready_at r p h)))

  pub put_ready : q < get_or end (get_or ring p 0) 0 → Ascends ◌<◌ (part pool q (get_or end (get_or ring p 0) 0)) → Ready pool (put at ring p q) end ring k
  put_ready i s = record {
    positive = r.positive;
    few = r.few;
    size = r.size;
    places = length-set at (get_or ring p 0) q ∙ r.places;
    apart = r.apart;
    each = λ a m. record {
      atom = (r.each a m).atom;
      inside = set_each at (get_or ring p 0) q 0 (λ (b y : ℕ). b ∈ take k ring → y < get_or end b 0) room (λ m. i) (λ b n m. (r.each b m).inside) a m;
      ends = (r.each a m).ends;
      ascends = set_each at (get_or ring p 0) q 0 (λ (b y : ℕ). b ∈ take k ring → Ascends ◌<◌ (part pool y (get_or end b 0))) room (λ m. s) (λ b n m. (r.each b m).ascends) a m;
    };
  }

  -- to a key that is not below any other: the ring is ordered from the next place
  pub put_ordered : ((j : ℕ) → j < k → key_at pool at (get_or ring j 0) ≤ get_or pool q 0) → Ordered pool at ring k p → (p' : ℕ) → Follows k p p' → Ordered pool (put at ring p q) ring k p'
  put_ordered most o p' f =
      ⊎_elim
      (λ (e : p + 1 ≡ k). rw (f.round e) (turn passed e o))
      (λ l. rw (f.next l) (step passed l o))
      (eq-or-lt_of_le {n = p + 1} {m = k} (omega arith))
    where
      passed : Passed (λ (j : ℕ). key_at pool at (get_or ring j 0)) (λ (j : ℕ). key_at pool (put at ring p q) (get_or ring j 0)) k p
      passed = record {
        others = λ j l n. ap (λ (y : ℕ). get_or pool y 0) (other j l n);
        most = λ j l. rw put_key (most j l);
      }

pub moved_on : {end ring : List ℕ} {k : ℕ} {at₀ at at' : List ℕ} → Moved end ring k at₀ at → Moved end ring k at at' → Moved end ring k at₀ at'
moved_on m n = record {
  places = n.places;
  forward = λ a. omega (arith, m.forward a, n.forward a);
  within = n.within;
  others = λ a o. n.others a o ∙ m.others a o;
}
