-- Leapfrogs over whole runs: what the calls leave of the common keys and of each run, and that a ring may be replaced by another with the same atoms.
use Prim.Native.Nat.{ℕ, ◌+◌, ◌≤◌, ◌<◌}
use native.Mathlib.Omega.{arith}
use native.Mathlib.Nat.{le_refl}
use mathlib.Core.Path.{◌≡◌, refl, sym, subst, ap, ◌∙◌}
use mathlib.Core.List.{List, [], ◌∷◌, ◌++◌, map}
use lib.ListN.{length, get_or, take, drop}
use Rattle.relation.specs.Lists.{◌∈◌, Ascends}
use Rattle.relation.specs.Runs.{from}
use Rattle.query.specs.Meet.{meet, Runs}
use Rattle.query.proofs.Meet.{meet_map}
use Rattle.query.proofs.Leap.{agree_tails}
use Rattle.leapfrog.specs.Search.{Went, run_at, first, search_of, sorted_runs, init_of, next_of, Comes}
use Rattle.leapfrog.proofs.Steps.{cons_some}
use Rattle.leapfrog.proofs.Search.{ring_comes}
use Rattle.leapfrog.proofs.Onward.{next_comes, next_keys}
use Rattle.ring_sort.specs.Sorted.{key_at}
use Rattle.ring_sort.proofs.Lists.{nth_in}
use Rattle.leapfrog_search.specs.Ring.{SameAtoms}
use Rattle.leapfrog_search.specs.Leapfrog.{part, left_of, answered}
use Rattle.leapfrog_search.specs.declared.Landed.{Landed}
use Rattle.leapfrog_search.specs.declared.Landed.TheVariants.{Key, Nothing}
use Rattle.leapfrog_search.specs.declared.Searched.{Searched}
use Rattle.leapfrog_search.proofs.Parts.{part_cons}
use Rattle.leapfrog_search.proofs.Runs.{enough}
use Rattle.leapfrog_join.proofs.Laws.{agreed_here, same_ready, same_agreed}
use Rattle.leapfrog_join.proofs.Beginning.{some_none_not, sorted_runs_lem, front, begun_same, begun_ordered}
use Rattle.stretches.specs.Stand.{stand_of, tail_of, whole_of, wholes_in}
use Rattle.stretches.specs.declared.State.{State}
use Rattle.stretches.specs.Whole.{WholeReady, WholeAgreed, Carried, AgreedOn, WholeRan, WholeBegun}
use Rattle.stretches.proofs.Pausing.{wholes_many, whole_at, ready_held}
use Rattle.stretches.proofs.Laws.{wholes_runs, whole_cut, whole_ring, whole_agreeing}
use Rattle.join_depths.specs.Depth.{AgreedAt, AtKey}

-- ---- a ring that is ready

module _ {pool : List ℕ} {z : State} {ends ring : List ℕ} {k : ℕ} (r : WholeReady pool z ends ring k) where
  room : k ≤ length ring
  room = enough r.ready

  -- one that stands on a key begins with it
  whole_key : (a : ℕ) → a ∈ take k ring → whole_of pool (stand_of z ends a) ≡ key_at pool z.at a ∷ (part pool (get_or z.at a 0 + 1) (get_or z.end a 0) ++ tail_of pool (stand_of z ends a))
  whole_key a m = ap (λ (l : List ℕ). l ++ tail_of pool (stand_of z ends a)) (part_cons pool (get_or z.at a 0) (get_or z.end a 0) (r.ready.each a m).inside (r.ready.each a m).ends)

  ready_some : (j : ℕ) → j < length (wholes_in pool z ends ring k) → run_at (wholes_in pool z ends ring k) j ≡ [] → ⊥
  ready_some j l =
      let m : j < k = omega (arith, wholes_many pool z ends ring k room) in
      cons_some (run_at (wholes_in pool z ends ring k) j) (whole_at pool z ends ring k room j m ∙ whole_key (get_or ring j 0) (nth_in ring k j 0 room m))

  pub ready_wholes : Runs (wholes_in pool z ends ring k)
  ready_wholes = wholes_runs (ready_held r)

-- ---- a ring that agrees on x

module _ {pool : List ℕ} {z : State} {ends ring : List ℕ} {k x p : ℕ} (g : WholeAgreed pool z ends ring k x p) where
  pub whole_ready : WholeReady pool z ends ring k
  whole_ready = record { ready = g.agreed.ready; sized = g.sized; tailed = g.tailed }

  -- x is the first of the keys in common
  pub whole_first : meet (wholes_in pool z ends ring k) ≡ x ∷ meet (map (drop 1) (wholes_in pool z ends ring k))
  whole_first = let a = whole_agreeing g in agree_tails (wholes_in pool z ends ring k) a.ascend (omega (arith, a.place)) a.agree

  -- the same, said of the key at p, as the next call asks it
  pub whole_here : WholeAgreed pool z ends ring k (key_at pool z.at (get_or ring p 0)) p
  whole_here = record { agreed = agreed_here g.agreed; sized = g.sized; tailed = g.tailed }

-- ---- another ring with the same atoms

module _ {ring ring' : List ℕ} {k : ℕ} (s : SameAtoms ring ring' k) {pool ends : List ℕ} where
  pub same_wholes : {z : State} → WholeReady pool z ends ring k → meet (wholes_in pool z ends ring k) ≡ meet (wholes_in pool z ends ring' k)
  unfolding wholes_in
  same_wholes {z} r = meet_map (λ (a : ℕ). whole_of pool (stand_of z ends a)) (take k ring) (take k ring') (λ a m. (r.tailed a m).ascends) s.to s.back

  pub same_whole_ready : {z : State} → WholeReady pool z ends ring k → WholeReady pool z ends ring' k
  same_whole_ready r = record { ready = same_ready s r.ready; sized = r.sized; tailed = λ a m. r.tailed a (s.back a m) }

  pub same_whole_agreed : {z : State} {x p : ℕ} → WholeAgreed pool z ends ring k x p → (p' : ℕ) → p' < k → WholeAgreed pool z ends ring' k x p'
  same_whole_agreed g p' l = record { agreed = same_agreed s g.agreed p' l; sized = g.sized; tailed = λ a m. g.tailed a (s.back a m) }

  pub same_carried : {z₀ z : State} → Carried pool ends ring k z₀ z → Carried pool ends ring' k z₀ z
  same_carried c = record {
    sized = c.sized;
    within = λ a m. c.within a (s.back a m);
    tailed = λ a m. c.tailed a (s.back a m);
    others = λ a n. c.others a (λ m. n (s.to a m));
    last = c.last;
    laid = λ a m. c.laid a (s.back a m);
  }

-- ---- what a call leaves

-- of the common keys it has passed `passed`, and no other; where it found a key, each run is cut there
pub record WholeLeft (pool ends ring : List ℕ) (k : ℕ) (z₀ z : State) (common passed : List ℕ) (landed : Landed) : Type 0 where
  pub agreed : AgreedAt pool z ends ring k landed
  pub keys : common ≡ passed ++ left_of (wholes_in pool z ends ring k) landed
  pub cut : AtKey landed (λ (x : ℕ). (a : ℕ) → a ∈ take k ring → whole_of pool (stand_of z ends a) ≡ from x (whole_of pool (stand_of z₀ ends a)))
  pub carried : Carried pool ends ring k z₀ z

module _ {pool ends ring : List ℕ} {k : ℕ} {z₀ z : State} (r : WholeReady pool z₀ ends ring k) where
  left_by : {common passed common' : List ℕ} {extra : ℕ} {w : Went} → common ≡ passed ++ common' → Comes extra (wholes_in pool z₀ ends ring k) common' w → Carried pool ends ring k z₀ z → (h : Landed) (n : ℕ) → w ≡ answered (wholes_in pool z ends ring k) h n → AgreedOn pool z ring k h → WholeLeft pool ends ring k z₀ z common passed h
  left_by {common} {passed} {common'} {extra} e c y (Key x p) n d g =
      record {
        agreed = record { agreed = g; sized = y.sized; tailed = y.tailed };
        keys = e ∙ ap (λ (l : List ℕ). passed ++ l) (subst (Comes extra (wholes_in pool z₀ ends ring k) common') d c).keys;
        cut = whole_cut (ready_held r) z c d;
        carried = y;
      }
  left_by {common} {passed} {common'} {extra} e c y (Nothing p) n d g =
      let i = subst (Comes extra (wholes_in pool z₀ ends ring k) common') d c in
      record { agreed = tt; keys = e ∙ ap (λ (l : List ℕ). passed ++ l) i.keys; cut = tt; carried = y }

  pub whole_left : {common passed common' : List ℕ} {extra : ℕ} {w : Went} {a : Searched} → common ≡ passed ++ common' → Comes extra (wholes_in pool z₀ ends ring k) common' w → WholeRan pool ends ring k z₀ z w a → WholeLeft pool ends ring k z₀ z common passed a.landed
  whole_left {a = a} e c d = left_by e c d.carried a.landed a.seeks d.same d.agreed

-- the next key
pub whole_next_left : {pool ends ring : List ℕ} {k x p : ℕ} {z₀ z : State} {a : Searched} → WholeAgreed pool z₀ ends ring k x p → WholeRan pool ends ring k z₀ z (next_of (wholes_in pool z₀ ends ring k) p) a → WholeLeft pool ends ring k z₀ z (meet (wholes_in pool z₀ ends ring k)) (x ∷ []) a.landed
whole_next_left g d = whole_left (whole_ready g) (next_keys (whole_agreeing g)) (next_comes (whole_agreeing g)) d

-- the first key
module _ {pool ends ring ring' : List ℕ} {k : ℕ} {z₀ z : State} {a : Searched} (r : WholeReady pool z₀ ends ring k) (asc : Ascends ◌<◌ (take k ring)) (b : WholeBegun pool ends k ring ring' z₀ z a) where
  pub sorted_same : SameAtoms ring ring' k
  sorted_same = begun_same r.ready asc b.order

  sorted_ready : WholeReady pool z₀ ends ring' k
  sorted_ready = same_whole_ready sorted_same r

  -- the runs of the sorted ring are the sorted runs
  sorted_wholes : init_of (wholes_in pool z₀ ends ring k) ≡ search_of (wholes_in pool z₀ ends ring' k) 0
  unfolding init_of wholes_in
  sorted_wholes =
      simp (some_none_not (wholes_in pool z₀ ends ring k) (ready_some r))
      (ap (λ (rs : List (List ℕ)). search_of rs 0)
      (ap (sorted_runs (map run (take k ring))) (wholes_many pool z₀ ends ring k (room r))
      ∙ (sym (sorted_runs_lem run (key_at pool z₀.at) ring k k (λ c m. ap first (whole_key r c m)) (le_refl k) (room r))
      ∙ ap (map run) (sym (front (key_at pool z₀.at) ring ring' k (room r) b.order)))))
    where
      run : ℕ → List ℕ
      run c = whole_of pool (stand_of z₀ ends c)

  pub whole_begun_left : WholeLeft pool ends ring' k z₀ z (meet (wholes_in pool z₀ ends ring k)) [] a.landed
  whole_begun_left =
      let l = whole_left sorted_ready {passed = []} {a = a} refl (ring_comes (whole_ring sorted_ready (begun_ordered r.ready asc b.order) r.ready.positive))
      (record { same = sym sorted_wholes ∙ b.ran.same; agreed = b.ran.agreed; carried = b.ran.carried }) in
      record { agreed = l.agreed; keys = same_wholes sorted_same r ∙ l.keys; cut = l.cut; carried = l.carried }
