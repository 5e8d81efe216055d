-- What the opening of a depth leaves, and that a step of the leapfrog keeps the atoms opened.
use Prim.Native.Nat.{ℕ, ◌+◌, ◌≤◌, ◌<◌}
use native.Mathlib.Omega.{arith}
use mathlib.Core.Path.{◌≡◌, sym, subst, ap, ◌∙◌}
use mathlib.Core.Bool.{Bool, true, false, false≢true}
use mathlib.Core.List.{List, [], map}
use lib.ListN.{get_or, take}
use Rattle.relation.specs.Order.{Row}
use Rattle.relation.specs.Lists.{◌∈◌, Ascends}
use Rattle.relation.specs.Layers.{keys_under}
use Rattle.relation.specs.Runs.{from}
use Rattle.query.specs.Meet.{meet}
use Rattle.query.specs.Solve.{runs}
use Rattle.query.specs.Descend.{standings, nobody, holders}
use Rattle.query.proofs.Under.{standings_runs}
use Rattle.column_trie.specs.Table.{rows_in}
use Rattle.leapfrog.specs.Search.{Went, init_of}
use Rattle.leapfrog.specs.Walk.{capped}
use Rattle.leapfrog.proofs.Begin.{init_none}
use Rattle.leapfrog_search.specs.declared.Landed.{Landed}
use Rattle.leapfrog_search.specs.declared.Landed.TheVariants.{Key, Nothing}
use Rattle.leapfrog_search.specs.declared.Searched.{Searched}
use Rattle.stretches.specs.Stand.{Stand, stand_of, wholes_in}
use Rattle.stretches.specs.declared.State.{State}
use Rattle.stretches.specs.Whole.{WholeReady, Forward, Carried, WholeBegun}
use Rattle.join_query.specs.Query.{atom_table, order_of, atoms_of}
use Rattle.join_query.specs.declared.Query.{Query}
use Rattle.join_query.specs.declared.Tables.{Tables}
use Rattle.join_query.proofs.Accepted.{tables}
use Rattle.join_plan.specs.Plan.{Plan}
use Rattle.join_openings.specs.Openings.{count_at, Opens, Refuses}
use Rattle.join_depths.specs.Depth.{owner_of, Owned, PlacedIn, Stands, Standing, takes_part, twofold, Within, WithinOne, starts_at, WithinIn, Opened, IfFound, DepthBegun, Leapt, AtKey, groups_at, since_of, Opening}
use Rattle.join_depths.proofs.Standing.{Taker, taker, taker_in}
use Rattle.join_depths.proofs.Depths.{opened, ring_takers, ring_ascends, ring_ready, ring_runs, refused_none, refused_in}
use Rattle.join_depths.proofs.Stepping.{first_agreed, first_keys, first_cut, first_carried, first_same, ran_leapt}

-- an atom in one table goes forward in its group
within_forward : {pool : List ℕ} {ts : Tables} {q : Query} {i : ℕ} {s s' : Stand} {p : Row} → WithinOne pool ts q i s p → Forward s s' → WithinOne pool ts q i s' p
within_forward {pool} {ts} {q} {i} {s} {s'} {p} w m =
    let back : s.own ≡ s'.own = sym m.own in
    record {
      owned = subst (λ (o : ℕ). Owned pool ts q i o p) back w.owned;
      last = m.left;
      within =
          let v = w.within in
          subst (λ (o : ℕ). Within pool (owner_of ts q i o) s'.at s'.end p) back
          (record { interval = v.interval; inside = v.inside; under = v.under; low = omega (arith, v.low, m.place); high = m.end ∙ v.high });
    }

-- places move on in what is left of their runs; atoms that take no part stay
pub opened_moved : {pool : List ℕ} {ts : Tables} {q : Query} {plan : Plan} {ends : List ℕ} {n d : ℕ} {z z' : State} {by_atom : List ℕ} {f : ℕ → Row} → Opened pool ts q plan ends n d z by_atom f → Carried pool ends by_atom (count_at plan d) z z' → Opened pool ts q plan ends n d z' by_atom f
opened_moved {pool} {ts} {q} {plan} {ends} {d = d} {z} {z'} {by_atom} {f = f} o m = record {
  based = o.based;
  below = o.below;
  ring = o.ring;
  taking = λ i h e. go i h e (twofold q f i) (o.taking i h e);
  staying = λ i h e.
      subst (λ (s : Stand). PlacedIn pool ts q i s.at s.own (f i))
      (sym (m.others i (λ j. false≢true (sym e ∙ (taker o.based o.below (subst (λ (l : List ℕ). i ∈ l) o.ring j)).takes))))
      (o.staying i h e);
}
  where
    go : (i : ℕ) → i < q.atom_count → takes_part q d f i ≡ true → (t : Bool) → WithinIn t pool ts q i (stand_of z ends i) (f i) → WithinIn t pool ts q i (stand_of z' ends i) (f i)
    go i h e true w =
        let t : Taker o.based o.below i = record { atom = h; takes = e } in
        m.laid i (subst (λ (l : List ℕ). i ∈ l) (sym o.ring) (taker_in o.based o.below t)) (starts_at ts q i) (keys_under [] (rows_in pool (atom_table ts q i))) w
    go i h e false w = within_forward w (m.last i w.last)

if_found : (landed : Landed) {A : Type 0} → A → IfFound landed A
if_found (Key x p) a = a
if_found (Nothing p) a = tt

module _ {pool : List ℕ} {plan : Plan} {ends : List ℕ} {n d : ℕ} (z₀ : State) (below : d < n) where
  -- one that has no keys refuses
  pub begun_refused : {z : State} {ring by_atom : List ℕ} → Refuses pool plan ends d z₀ → DepthBegun pool plan ends n d z₀.at z₀.own z ring by_atom (Nothing 0)
  begun_refused r = record { agreed = tt; same = tt; begins = λ ts q f s. record { keys = sym (refused_none z₀ s below r); opened = tt } }

  module _ (w : Standing pool plan ends n d z₀.at z₀.own) {z : State} {ring by_atom : List ℕ} (p : Opens pool plan ends d (count_at plan d) z₀ z ring by_atom) where
    pub begin_ready : WholeReady pool z ends ring (count_at plan d)
    begin_ready = ring_ready z₀ w.stands below p ring p.arrays.size p.ring_is

    pub begin_ascends : Ascends ◌<◌ (take (count_at plan d) ring)
    begin_ascends = ring_ascends z₀ w.stands below p ring p.arrays.size p.ring_is

    by_atom_ready : WholeReady pool z ends by_atom (count_at plan d)
    by_atom_ready = ring_ready z₀ w.stands below p by_atom p.arrays.by_atom_size p.by_atom_is

    alike : take (count_at plan d) ring ≡ take (count_at plan d) by_atom
    alike = ring_takers z₀ w.stands below p ring p.arrays.size p.ring_is ∙ sym (ring_takers z₀ w.stands below p by_atom p.arrays.by_atom_size p.by_atom_is)

    pub begun_opened : {z' : State} {ring' : List ℕ} {a : Searched} → WholeBegun pool ends (count_at plan d) ring ring' z z' a → DepthBegun pool plan ends n d z₀.at z₀.own z' ring' by_atom a.landed
    begun_opened {a = a} b = record {
      agreed = first_agreed begin_ready by_atom_ready alike begin_ascends b;
      same = if_found a.landed (first_same begin_ready by_atom_ready alike begin_ascends b);
      begins = λ ts q f s. record {
        keys = sym (first_keys begin_ready by_atom_ready alike begin_ascends b) ∙ ap meet (ring_runs z₀ s below p by_atom p.arrays.by_atom_size p.by_atom_is);
        opened = if_found a.landed (opened_moved (opened z₀ s below p) (first_carried begin_ready by_atom_ready alike begin_ascends b));
      };
    }

-- ---- the seeks

module _ {pool : List ℕ} {plan : Plan} {ends : List ℕ} {n d : ℕ} (z₀ : State) (below : d < n) where
  runs_are : {ts : Tables} {q : Query} {f : ℕ → Row} → Stands pool ts q plan ends n d z₀.at z₀.own f → runs (get_or (order_of q) d 0) (standings f (atoms_of pool ts q)) ≡ map (λ (i : ℕ). keys_under (f i) (get_or (atoms_of pool ts q) i nobody).rows) (holders (get_or (order_of q) d 0) (standings f (atoms_of pool ts q)))
  runs_are {ts} {q} {f} s = standings_runs (get_or (order_of q) d 0) f (atoms_of pool ts q) (tables s.based.accepted)

  pub opening_refused : {z : State} {ring by_atom : List ℕ} {seeks : ℕ} → seeks ≤ 18446744073709551615 → Refuses pool plan ends d z₀ → Opening pool plan ends n d z₀.at z₀.own z ring by_atom seeks (record { landed = Nothing 0; seeks = seeks })
  opening_refused {seeks = seeks} fits r = record {
    begun = begun_refused z₀ below r;
    starts = λ ts q f s.
        let e = ap init_of (runs_are s) ∙ init_none (map (λ (i : ℕ). keys_under (f i) (get_or (atoms_of pool ts q) i nobody).rows) (holders (get_or (order_of q) d 0) (standings f (atoms_of pool ts q)))) (refused_in z₀ s below r) in
        record { leapt = record { made = 0; answers = (ap (λ (w : Went). w.stop) e, ap (λ (w : Went). w.seeks) e); sum = omega arith }; cut = tt };
  }

  pub opening_opened : (w : Standing pool plan ends n d z₀.at z₀.own) {z : State} {ring by_atom : List ℕ} (p : Opens pool plan ends d (count_at plan d) z₀ z ring by_atom) {z' : State} {ring' : List ℕ} {a r : Searched} (before : ℕ) → r ≡ since_of before a → WholeBegun pool ends (count_at plan d) ring ring' z z' a → Opening pool plan ends n d z₀.at z₀.own z' ring' by_atom before r
  opening_opened w {z} {ring} {by_atom} p {z'} {ring'} {a} before e b =
      rw e
      (record {
        begun = begun_opened z₀ below w p b;
        starts = λ ts q f s. record {
          leapt =
              subst (λ (v : Went). Leapt v (wholes_in pool z' ends ring' (count_at plan d)) before a.landed (capped (before + a.seeks)))
              (ap init_of (ring_runs z₀ s below p ring p.arrays.size p.ring_is ∙ sym (runs_are s)))
              (ran_leapt before b.ran);
          cut = cuts s a.landed (first_cut (begin_ready z₀ below w p) (by_atom_ready z₀ below w p) (alike z₀ below w p) (begin_ascends z₀ below w p) b);
        };
      })
    where
      cuts : {ts : Tables} {q : Query} {f : ℕ → Row} → Stands pool ts q plan ends n d z₀.at z₀.own f → (landed : Landed) → AtKey landed (λ (x : ℕ). wholes_in pool z' ends by_atom (count_at plan d) ≡ map (from x) (wholes_in pool z ends by_atom (count_at plan d))) → AtKey landed (λ (x : ℕ). wholes_in pool z' ends by_atom (count_at plan d) ≡ map (from x) (groups_at pool ts q d f))
      cuts s (Key x _) c = c ∙ ap (map (from x)) (ring_runs z₀ s below p by_atom p.arrays.by_atom_size p.by_atom_is ∙ sym (runs_are s))
      cuts s (Nothing _) c = tt
