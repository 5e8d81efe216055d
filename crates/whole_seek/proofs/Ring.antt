-- A ring that agrees, with the atom at one place sought: the others stand on the common key, so that atom has the greatest, and the search goes on from the next place.
use mathlib.Core.Path.{◌≡◌, refl, sym, subst, ap, ap₂, ◌∙◌}
use mathlib.Core.Bool.{Bool, true, false}
use mathlib.Core.Logic.{⊎_elim}
use mathlib.Core.List.{List, ◌∷◌, ◌++◌}
use Prim.Native.Nat.{ℕ, ◌+◌, ◌*◌, ◌≤◌, ◌<◌}
use native.Mathlib.Decide.{ℕ_discrete}
use native.Mathlib.Nat.{eq-or-lt_of_le}
use native.Mathlib.Omega.{arith}
use lib.ListN.{length, get_or, set, take}
use Rattle.relation.specs.Lists.{◌∈◌, hd, Ascends}
use Rattle.relation.specs.Runs.{from}
use Rattle.relation.proofs.Runs.{in_from, head_least}
use Rattle.query.proofs.Ring.{Passed, step, turn}
use Rattle.overlay.proofs.Stretch.{split}
use Rattle.leapfrog.specs.Search.{Went, out, run_at, place_after, more, stopped, search_of, go_on, seek_to}
use Rattle.leapfrog.proofs.Steps.{cons_some}
use Rattle.leapfrog.proofs.Search.{search_seeks_bounded}
use Rattle.ring_sort.specs.Sorted.{key_at}
use Rattle.leapfrog_search.specs.Ring.{Follows}
use Rattle.leapfrog_search.specs.Leapfrog.{part, Ordered, answered}
use Rattle.leapfrog_search.specs.declared.Landed.{Landed}
use Rattle.leapfrog_search.specs.declared.Landed.TheVariants.{Key, Nothing}
use Rattle.leapfrog_search.specs.declared.Searched.{Searched}
use Rattle.leapfrog_search.proofs.Parts.{part_cons}
use Rattle.leapfrog_search.proofs.Runs.{enough, ring_in}
use Rattle.leapfrog_search.proofs.Defined.{follows_after}
use Rattle.leapfrog_join.proofs.Laws.{agreed_ordered}
use Rattle.pieces.proofs.Longer.{go_out, go_some}
use Rattle.stretches.specs.Stand.{Stand, stand_of, tail_of, whole_of, wholes_in, Tailed, Laid}
use Rattle.stretches.specs.declared.State.{State}
use Rattle.stretches.specs.Whole.{WholeReady, WholeAgreed, Forward, Carried, WholeRan}
use Rattle.stretches.proofs.Pieces.{map_one}
use Rattle.stretches.proofs.Pausing.{whole_at, wholes_many, wholes_few, ready_held}
use Rattle.stretches.proofs.Carrying.{carried_on}
use Rattle.stretches.proofs.Laws.{whole_ring, whole_agreeing}
use Rattle.whole_seek.specs.Seek.{SoughtOne}

-- one seek more
more_answered : (runs : List (List ℕ)) (d : Landed) (n : ℕ) → more 1 (answered runs d n) ≡ answered runs d (n + 1)
more_answered runs (Key x p) n = ap (answered runs (Key x p)) (let e : 1 + n ≡ n + 1 = omega arith in e)
more_answered runs (Nothing p) n = ap (answered runs (Nothing p)) (let e : 1 + n ≡ n + 1 = omega arith in e)

module _ {pool : List ℕ} {s : State} {ends ring : List ℕ} {k x p : ℕ} (g : WholeAgreed pool s ends ring k x p) {t : ℕ} {s' : State} {b : Bool} (h : SoughtOne pool ends (get_or ring p 0) t s s' b) where
  ready : WholeReady pool s ends ring k
  ready = record { ready = g.agreed.ready; sized = g.sized; tailed = g.tailed }

  room : k ≤ length ring
  room = enough g.agreed.ready

  here : get_or ring p 0 ∈ take k ring
  here = ring_in g.agreed.ready p g.agreed.place

  -- by cases of whether it is the atom sought
  by : (P : ℕ → Type 0) → P (get_or ring p 0) → ((a : ℕ) → (a ≡ get_or ring p 0 → ⊥) → P a) → (a : ℕ) → P a
  by P y f a = go (ℕ_discrete a (get_or ring p 0))
    where
      go : Dec (a ≡ get_or ring p 0) → P a
      go (yes e) = subst P (sym e) y
      go (no n) = f a n

  carried : Carried pool ends ring k s s'
  carried = record {
    sized = h.sized;
    within = by (λ (a : ℕ). a ∈ take k ring → get_or s'.at a 0 ≤ get_or s'.end a 0) (λ i. h.within) (λ a n i. let l = (g.agreed.ready.each a i).inside in subst (λ (d : Stand). d.at ≤ d.end) (sym (h.others a n)) (omega arith));
    tailed = by (λ (a : ℕ). a ∈ take k ring → Tailed pool (stand_of s' ends a)) (λ i. h.tailed) (λ a n i. subst (Tailed pool) (sym (h.others a n)) (g.tailed a i));
    others = λ a n. h.others a (λ e. n (subst (λ (c : ℕ). c ∈ take k ring) (sym e) here));
    last = by (λ (a : ℕ). get_or s.left a 0 ≡ 0 → Forward (stand_of s ends a) (stand_of s' ends a)) h.last (λ a n e. subst (λ (d : Stand). Forward (stand_of s ends a) d) (sym (h.others a n)) (record { place = omega arith; end = refl; own = refl; left = e }));
    laid = λ a i lo school. by (λ (a : ℕ). Laid pool lo school (stand_of s ends a) → Laid pool lo school (stand_of s' ends a)) (h.laid lo school) (λ a n l. subst (Laid pool lo school) (sym (h.others a n)) l) a;
  }

  wholes_set : wholes_in pool s' ends ring k ≡ set (wholes_in pool s ends ring k) p (from t (whole_of pool (stand_of s ends (get_or ring p 0))))
  unfolding wholes_in
  wholes_set = map_one (λ (a : ℕ). whole_of pool (stand_of s ends a)) (λ (a : ℕ). whole_of pool (stand_of s' ends a)) ring k p (from t (whole_of pool (stand_of s ends (get_or ring p 0)))) room g.agreed.place g.agreed.ready.apart h.whole (λ a n. ap (whole_of pool) (h.others a n))

  wholes : wholes_in pool s' ends ring k ≡ set (wholes_in pool s ends ring k) p (from t (run_at (wholes_in pool s ends ring k) p))
  wholes = wholes_set ∙ ap (λ (r : List ℕ). set (wholes_in pool s ends ring k) p (from t r)) (sym (whole_at pool s ends ring k room p g.agreed.place))

  -- it has no key from the target on
  pub seek_none : b ≡ false → WholeRan pool ends ring k s s' (seek_to t (wholes_in pool s ends ring k) p) (record { landed = Nothing p; seeks = 1 })
  unfolding seek_to
  seek_none e = record {
    same =
        ap (more 1)
        (go_out (wholes_in pool s ends ring k) p (from t (run_at (wholes_in pool s ends ring k) p)) (ap (from t) (whole_at pool s ends ring k room p g.agreed.place) ∙ h.none e)
        ∙ ap (λ (rs : List (List ℕ)). stopped rs p out) (sym wholes));
    agreed = tt;
    carried = carried;
  }

  -- it stands on one
  module _ (e : b ≡ true) where
    abbrev y : ℕ
    y = key_at pool s'.at (get_or ring p 0)

    comes : from t (whole_of pool (stand_of s ends (get_or ring p 0))) ≡ y ∷ (part pool (get_or s'.at (get_or ring p 0) 0 + 1) (get_or s'.end (get_or ring p 0) 0) ++ tail_of pool (stand_of s' ends (get_or ring p 0)))
    comes = sym h.whole ∙ ap (λ (r : List ℕ). r ++ tail_of pool (stand_of s' ends (get_or ring p 0))) (part_cons pool (get_or s'.at (get_or ring p 0) 0) (get_or s'.end (get_or ring p 0) 0) (h.some e) h.high)

    pub seek_ready : WholeReady pool s' ends ring k
    seek_ready = record {
      ready = record {
        positive = g.agreed.ready.positive;
        few = g.agreed.ready.few;
        size = g.agreed.ready.size;
        places = h.sized.places;
        apart = g.agreed.ready.apart;
        each = λ a i. record {
          atom = (g.agreed.ready.each a i).atom;
          inside = by (λ (a : ℕ). a ∈ take k ring → get_or s'.at a 0 < get_or s'.end a 0) (λ i. h.some e) (λ a n i. subst (λ (d : Stand). d.at < d.end) (sym (h.others a n)) (g.agreed.ready.each a i).inside) a i;
          ends = by (λ (a : ℕ). a ∈ take k ring → get_or s'.end a 0 ≤ length pool) (λ i. h.high) (λ a n i. subst (λ (d : Stand). d.end ≤ length pool) (sym (h.others a n)) (g.agreed.ready.each a i).ends) a i;
          ascends = (split (part pool (get_or s'.at a 0) (get_or s'.end a 0)) (carried.tailed a i).ascends).0;
        };
      };
      sized = h.sized;
      tailed = carried.tailed;
    }

    -- the common key is the first of its run, so it is not above the new one
    least : x ≤ y
    least =
        let a = whole_agreeing g in
        let l : p < length (wholes_in pool s ends ring k) = omega (arith, wholes_many pool s ends ring k room, g.agreed.place) in
        let run = whole_at pool s ends ring k room p g.agreed.place in
        let m : y ∈ whole_of pool (stand_of s ends (get_or ring p 0)) = in_from t (whole_of pool (stand_of s ends (get_or ring p 0))) (subst (λ (r : List ℕ). y ∈ r) (sym comes) (hd refl)) in
        head_least (subst (Ascends ◌<◌) (a.agree p l) (a.ascend p l)) y (subst (λ (r : List ℕ). y ∈ r) (sym run ∙ a.agree p l) m)

    module _ {q : ℕ} (f : Follows k p q) where
      pub seek_ordered : Ordered pool s'.at ring k q
      seek_ordered =
          ⊎_elim
          (λ (e : p + 1 ≡ k). rw (f.round e) (turn passed e (agreed_ordered g.agreed)))
          (λ l. rw (f.next l) (step passed l (agreed_ordered g.agreed)))
          (eq-or-lt_of_le {n = p + 1} {m = k} (let l = g.agreed.place in omega arith))
        where
          passed : Passed (λ (j : ℕ). key_at pool s.at (get_or ring j 0)) (λ (j : ℕ). key_at pool s'.at (get_or ring j 0)) k p
          passed = record {
            others = λ j l n. ap (λ (d : Stand). get_or pool d.at 0) (h.others (get_or ring j 0) (λ i. n (g.agreed.ready.apart j p l g.agreed.place i)));
            most = λ j l. omega (arith, least, g.agreed.all (get_or ring j 0) (ring_in g.agreed.ready j l));
          }

      -- the definition goes the same way
      goes : go_on (wholes_in pool s ends ring k) p (from t (run_at (wholes_in pool s ends ring k) p)) ≡ search_of (wholes_in pool s' ends ring k) q
      goes =
          go_some (wholes_in pool s ends ring k) p (from t (run_at (wholes_in pool s ends ring k) p)) (cons_some (from t (run_at (wholes_in pool s ends ring k) p)) (ap (from t) (whole_at pool s ends ring k room p g.agreed.place) ∙ comes))
          ∙ ap₂ {C = Went} search_of (sym wholes) (ap (λ (m : ℕ). place_after m p) (wholes_many pool s ends ring k room) ∙ follows_after f)

      module _ {s'' : State} {r : Searched} (w : WholeRan pool ends ring k s' s'' (search_of (wholes_in pool s' ends ring k) q) r) where
        seeks_are : (d : Landed) → (answered (wholes_in pool s'' ends ring k) d r.seeks).seeks ≡ r.seeks
        seeks_are (Key x p) = refl
        seeks_are (Nothing p) = refl

        pub seek_few : r.seeks ≤ 16 * length pool
        seek_few = omega (arith, ap (λ (v : Went). v.seeks) w.same, seeks_are r.landed, search_seeks_bounded (whole_ring seek_ready seek_ordered f.to), wholes_few (ready_held seek_ready))

        pub seek_found : WholeRan pool ends ring k s s'' (seek_to t (wholes_in pool s ends ring k) p) (record { landed = r.landed; seeks = r.seeks + 1 })
        unfolding seek_to
        seek_found = record {
          same = ap (more 1) (goes ∙ w.same) ∙ more_answered (wholes_in pool s'' ends ring k) r.landed r.seeks;
          agreed = w.agreed;
          carried = carried_on carried w.carried;
        }
