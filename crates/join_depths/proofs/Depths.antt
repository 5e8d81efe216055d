-- The opening of a depth, from the plan's numbers to the theory: each atom that takes part can be opened where it stands, what is opened is the keys under its
-- words, and one without keys leaves no key in common.
use Prim.Native.Nat.{ℕ, zero, suc, ◌≤◌, ◌<◌}
use native.Mathlib.Omega.{arith}
use mathlib.Core.Path.{◌≡◌, refl, sym, subst, ap, ap₂, ◌∙◌}
use mathlib.Core.Bool.{true, false≢true}
use mathlib.Core.List.Memᴰ
use mathlib.Core.List.{List, [], ◌∷◌, map}
use lib.ListN.{length, get_or, take, drop}
use lib.Seq.{length-take-le, get_or-take, ext_get_or}
use Rattle.relation.specs.Order.{Row}
use Rattle.relation.specs.Lists.{◌∈◌, hd, tl, Ascends, anone, amore}
use Rattle.relation.specs.Layers.{keys_under}
use Rattle.query.specs.Meaning as meaning
use Rattle.query.specs.Descend.{standings, nobody, holders, Joinable}
use Rattle.query.proofs.Meet.{get_or_in}
use Rattle.query.proofs.Leap.{meet_nil}
use Rattle.query.proofs.Holders.{holders_some}
use Rattle.query.specs.Limits.{max_atoms}
use Rattle.leapfrog_search.specs.Leapfrog.{OnKey}
use Rattle.leapfrog_join.proofs.Laws.{order_apart}
use Rattle.stretches.specs.Stand.{Stand, stand_of, whole_of, wholes_in, Tailed}
use Rattle.stretches.specs.declared.State.{State}
use Rattle.stretches.specs.Whole.{WholeReady}
use Rattle.join_query.specs.Query.{atom_at, order_of, atoms_of, rows_at}
use Rattle.join_query.specs.declared.Query.{Query}
use Rattle.join_query.specs.declared.Tables.{Tables}
use Rattle.join_query.proofs.Accepted.{sized, names, atoms_at}
use Rattle.join_plan.specs.Plan.{Plan, takers}
use Rattle.join_plan.proofs.Plans.{takers_few}
use Rattle.join_openings.specs.Openings.{count_at, who_at, Openable, Opens, Refuses}
use Rattle.join_depths.specs.Depth.{PlacedIn, Stands, takes_part, twofold, WithinIn, Opened, common_at}
use Rattle.join_depths.proofs.Standing.{order_next, takers_are, count_is, who_is, taker, taker_at, taker_in, taker_place, takers_ascend}
use Rattle.join_depths.proofs.Takers.{takes, can_open, none_under, open_within, open_whole, open_tailed, open_key}

-- a list that ascends, by place
rises : {l : List ℕ} → Ascends ◌<◌ l → (i j : ℕ) → i < j → j < length l → get_or l i 0 < get_or l j 0
rises anone i j h k = absurd (omega arith)
rises (amore {r = r} {rs = rs} g s) i zero h k = absurd (omega arith)
rises (amore {r = r} {rs = rs} g s) zero (suc j) h k = g (get_or rs j 0) (get_or_in rs j 0 (omega arith))
rises (amore {r = r} {rs = rs} g s) (suc i) (suc j) h k = rises s i j (omega arith) (omega arith)

module _ {pool : List ℕ} {ts : Tables} {q : Query} {plan : Plan} {ends : List ℕ} {n d : ℕ} (z₀ : State) {f : ℕ → Row} (s : Stands pool ts q plan ends n d z₀.at z₀.own f) (below : d < n) where
  few : count_at plan d ≤ max_atoms
  few = omega (arith, count_is s.based below, takers_few q d q.atom_count (omega (arith, s.based.accepted.whole, (names s.based.accepted).few)), (names s.based.accepted).few)

  pub openable : ((a : ℕ) → get_or z₀.left a 0 ≡ 0) → Openable pool plan ends d z₀
  openable last = record {
    deep = omega (arith, (sized s.based.accepted).few, s.based.size);
    few = few;
    ascend = λ i j l h. omega (arith, who_is s.based below i (omega arith), who_is s.based below j h, rises (takers_ascend s.based below) i j l (omega (arith, count_is s.based below)));
    each = λ j h. can_open z₀ s below j h (last (who_at plan d j));
  }

  -- ---- all that take part are opened

  module _ {z : State} {ring by_atom : List ℕ} (p : Opens pool plan ends d (count_at plan d) z₀ z ring by_atom) where
    abbrev k : ℕ
    k = count_at plan d

    -- a ring in atom order has them
    pub ring_takers : (r : List ℕ) → length r ≡ max_atoms → ((j : ℕ) → j < k → get_or r j 0 ≡ who_at plan d j) → take k r ≡ takers q d
    ring_takers r l e =
        let c = count_is s.based below in
        let m : length (take k r) ≡ k = length-take-le k r (omega (arith, l, few)) in
        ext_get_or 0 (take k r) (takers q d) (m ∙ c) (λ j h. let g : j < k = omega arith in get_or-take k r j 0 g ∙ e j g ∙ who_is s.based below j g)

    pub opened : Opened pool ts q plan ends n d z by_atom f
    opened = record {
      based = s.based;
      below = below;
      ring = ring_takers by_atom p.arrays.by_atom_size p.by_atom_is;
      taking = λ i h e.
          let t = taker_place s.based below (record { atom = h; takes = e }) in
          subst (λ (i : ℕ). WithinIn (twofold q f i) pool ts q i (stand_of z ends i) (f i)) t.2 (open_within z₀ s below t.0 t.1 z (p.each t.0 t.1));
      staying = λ i h e.
          subst (λ (st : Stand). PlacedIn pool ts q i st.at st.own (f i))
          (sym (p.others i (λ j l w. false≢true (sym e ∙ subst (λ (i : ℕ). takes_part q d f i ≡ true) w (takes z₀ s below j l).takes))))
          (s.placed i h);
    }

    module _ (r : List ℕ) (l : length r ≡ max_atoms) (e : (j : ℕ) → j < k → get_or r j 0 ≡ who_at plan d j) where
      pub ring_ascends : Ascends ◌<◌ (take k r)
      ring_ascends = rw (ring_takers r l e) (takers_ascend s.based below)

      -- what holds of each that takes part
      each : (P : ℕ → Type 0) → ((j : ℕ) → j < k → P (who_at plan d j)) → (a : ℕ) → a ∈ take k r → P a
      each P g a m =
          let t = taker_place s.based below (taker s.based below (subst (λ (hs : List ℕ). a ∈ hs) (ring_takers r l e) m)) in
          subst P t.2 (g t.0 t.1)

      pub ring_ready : WholeReady pool z ends r k
      ring_ready = record {
        ready = record {
          positive = omega (
            arith,
            count_is s.based below,
            ap length (takers_are s.based below),
            holders_some (get_or (order_of q) d 0) (drop (suc d) (order_of q)) (standings f (atoms_of pool ts q)) (subst (λ (vs : List ℕ). Joinable vs (standings f (atoms_of pool ts q))) (order_next s.based below) s.based.joinable),
          );
          few = few;
          size = l;
          places = p.arrays.sized.places;
          apart = order_apart r k (omega (arith, l, few)) ring_ascends;
          each = each (OnKey pool z.at z.end) (λ j h. open_key z₀ s below j h z (p.each j h));
        };
        sized = p.arrays.sized;
        tailed = each (λ a. Tailed pool (stand_of z ends a)) (λ j h. open_tailed z₀ s below j h z (p.each j h));
      }

      -- the runs are the keys under the words
      pub ring_runs : wholes_in pool z ends r k ≡ map (λ (i : ℕ). keys_under (f i) (get_or (atoms_of pool ts q) i nobody).rows) (holders (get_or (order_of q) d 0) (standings f (atoms_of pool ts q)))
      unfolding wholes_in
      ring_runs =
          map_cong (take k r)
          (λ i m.
          let g = taker s.based below (subst (λ (hs : List ℕ). i ∈ hs) (ring_takers r l e) m) in
          each (λ i. whole_of pool (stand_of z ends i) ≡ keys_under (f i) (rows_at pool ts (atom_at q i))) (λ j h. open_whole z₀ s below j h z (p.each j h)) i m
          ∙ ap (λ (a : meaning.Atom). keys_under (f i) a.rows) (sym (atoms_at s.based.accepted i g.atom)))
          ∙ ap (map (λ (i : ℕ). keys_under (f i) (get_or (atoms_of pool ts q) i nobody).rows)) (ring_takers r l e ∙ sym (takers_are s.based below))
        where
          map_cong : {g h : ℕ → List ℕ} (l : List ℕ) → ((i : ℕ) → i ∈ l → g i ≡ h i) → map g l ≡ map h l
          map_cong [] e = refl
          map_cong (x ∷ l) e = ap₂ {C = List (List ℕ)} (λ b m. b ∷ m) (e x (hd refl)) (map_cong l (λ i m. e i (tl m)))

  -- ---- one refuses

  -- a run without keys, and so nothing in common
  pub refused_in : Refuses pool plan ends d z₀ → [] ∈ map (λ (i : ℕ). keys_under (f i) (get_or (atoms_of pool ts q) i nobody).rows) (holders (get_or (order_of q) d 0) (standings f (atoms_of pool ts q)))
  refused_in r =
      let j = r.which in
      let h = r.takes in
      let i = who_at plan d j in
      let g = taker_at s.based below j h in
      subst (λ (l : List ℕ). l ∈ map (λ (i : ℕ). keys_under (f i) (get_or (atoms_of pool ts q) i nobody).rows) (holders (get_or (order_of q) d 0) (standings f (atoms_of pool ts q))))
      (ap (λ (a : meaning.Atom). keys_under (f i) a.rows) (atoms_at s.based.accepted i g.atom) ∙ none_under z₀ s below j h r.none)
      (Memᴰ.map (λ (i : ℕ). keys_under (f i) (get_or (atoms_of pool ts q) i nobody).rows) (subst (λ (l : List ℕ). i ∈ l) (sym (takers_are s.based below)) (taker_in s.based below g)))

  pub refused_none : Refuses pool plan ends d z₀ → common_at pool ts q d f ≡ []
  refused_none r = meet_nil (map (λ (i : ℕ). keys_under (f i) (get_or (atoms_of pool ts q) i nobody).rows) (holders (get_or (order_of q) d 0) (standings f (atoms_of pool ts q)))) (refused_in r)
