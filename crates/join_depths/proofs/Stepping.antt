-- The steps of a depth, from the leapfrog's answers: said of the ring in atom order, whichever ring was searched.
-- Idea: both rings have the same atoms, and what is said of runs and keys does not depend on their sequence.
use Prim.Native.Nat.{ℕ, ◌+◌, ◌<◌}
use mathlib.Core.Path.{◌≡◌, refl, sym, ap, ap₂, ◌∙◌}
use mathlib.Core.Logic.{◌⊎◌, inl, inr}
use mathlib.Core.Bool.{Bool, true, false}
use mathlib.Core.List.{List, [], ◌∷◌, ◌++◌, map}
use lib.ListN.{get_or, take}
use Rattle.relation.specs.Order.{pick}
use Rattle.relation.specs.Lists.{◌∈◌, hd, tl, Ascends}
use Rattle.relation.specs.Runs.{from}
use Rattle.query.specs.Meet.{meet}
use Rattle.ring_sort.specs.Sorted.{key_at}
use Rattle.leapfrog_search.specs.Ring.{SameAtoms}
use Rattle.leapfrog_search.specs.Leapfrog.{left_of, answered}
use Rattle.leapfrog_search.specs.declared.Landed.{Landed}
use Rattle.leapfrog_search.specs.declared.Landed.TheVariants.{Key, Nothing}
use Rattle.leapfrog_search.specs.declared.Searched.{Searched}
use Rattle.leapfrog_join.proofs.Laws.{same_back}
use Rattle.leapfrog.specs.Search.{Went, next_of}
use Rattle.leapfrog.specs.Walk.{capped}
use Rattle.stretches.specs.Stand.{stand_of, whole_of, wholes_in}
use Rattle.stretches.specs.declared.State.{State}
use Rattle.stretches.specs.Whole.{WholeReady, WholeAgreed, Carried, WholeRan, WholeBegun}
use Rattle.join_depths.specs.Depth.{AgreedAt, AtKey, Steps, Answers, Leapt, since_of, Onward}
use Rattle.join_depths.proofs.Wholes.{WholeLeft, whole_ready, whole_here, same_wholes, same_whole_agreed, same_carried, whole_next_left, sorted_same, whole_begun_left}

-- what a search of one ring leaves, said of another with the same atoms
module _ {pool ends ring by_atom : List ℕ} {k : ℕ} (s : SameAtoms ring by_atom k) {z₀ z : State} {common passed : List ℕ} where
  same_ended : (landed : Landed) → WholeLeft pool ends ring k z₀ z common passed landed → AgreedAt pool z ends by_atom k landed
  same_ended (Key x p) l = same_whole_agreed s l.agreed p l.agreed.agreed.place
  same_ended (Nothing p) l = tt

  same_keys : (landed : Landed) → WholeLeft pool ends ring k z₀ z common passed landed → common ≡ passed ++ left_of (wholes_in pool z ends by_atom k) landed
  same_keys (Key x p) l = l.keys ∙ ap (λ (ks : List ℕ). passed ++ ks) (same_wholes s (whole_ready l.agreed))
  same_keys (Nothing p) l = l.keys

  same_cut : (landed : Landed) → WholeLeft pool ends ring k z₀ z common passed landed → AtKey landed (λ (x : ℕ). wholes_in pool z ends by_atom k ≡ map (from x) (wholes_in pool z₀ ends by_atom k))
  unfolding wholes_in
  same_cut (Key x p) l = go (take k by_atom) (λ a m. l.cut a (s.back a m))
    where
      go : (l : List ℕ) → ((a : ℕ) → a ∈ l → whole_of pool (stand_of z ends a) ≡ from x (whole_of pool (stand_of z₀ ends a))) → map (λ (a : ℕ). whole_of pool (stand_of z ends a)) l ≡ map (from x) (map (λ (a : ℕ). whole_of pool (stand_of z₀ ends a)) l)
      go [] f = refl
      go (a ∷ l) f = ap₂ (λ (y : List ℕ) (ys : List (List ℕ)). y ∷ ys) (f a (hd refl)) (go l (λ b i. f b (tl i)))
  same_cut (Nothing p) l = tt

-- ---- the next key

module _ {pool ends by_atom : List ℕ} {z : State} {k x p : ℕ} (g : WholeAgreed pool z ends by_atom k x p) where
  steps_by : {ring : List ℕ} → SameAtoms ring by_atom k → {z' : State} {landed : Landed} → meet (wholes_in pool z ends by_atom k) ≡ meet (wholes_in pool z ends ring k) → WholeLeft pool ends ring k z z' (meet (wholes_in pool z ends ring k)) (x ∷ []) landed → Steps pool ends by_atom k z z' x landed
  steps_by b {landed = landed} e m = record { agreed = same_ended b landed m; keys = e ∙ same_keys b landed m; cut = same_cut b landed m; carried = same_carried b m.carried }

  -- at the last depth the ring goes on as it is
  module _ {ring : List ℕ} (s : SameAtoms by_atom ring k) where
    pub goes_on : WholeAgreed pool z ends ring k (key_at pool z.at (get_or ring p 0)) p
    goes_on = whole_here (same_whole_agreed s g p g.agreed.place)

    pub went_on : {z' : State} {r : Searched} → WholeRan pool ends ring k z z' (next_of (wholes_in pool z ends ring k) p) r → Steps pool ends by_atom k z z' x r.landed
    went_on {r = r} d = steps_by (same_back s g.agreed.ready) (same_wholes s (whole_ready g)) (whole_next_left {a = r} (same_whole_agreed s g p g.agreed.place) d)

  -- at another it is in atom order again
  anew : WholeAgreed pool z ends by_atom k x 0
  anew = record { agreed = record { ready = g.agreed.ready; place = g.agreed.ready.positive; all = g.agreed.all }; sized = g.sized; tailed = g.tailed }

  same_ring : SameAtoms by_atom by_atom k
  same_ring = record { size = g.agreed.ready.size; to = λ a m. m; back = λ a m. m; apart = g.agreed.ready.apart }

  pub begins_anew : WholeAgreed pool z ends by_atom k (key_at pool z.at (get_or by_atom 0 0)) 0
  begins_anew = whole_here anew

  pub went_anew : {z' : State} {r : Searched} → WholeRan pool ends by_atom k z z' (next_of (wholes_in pool z ends by_atom k) 0) r → Steps pool ends by_atom k z z' x r.landed
  went_anew {r = r} d = steps_by same_ring refl (whole_next_left {a = r} anew d)

-- ---- the seeks

-- a call that did what the definition says, its seeks added to those before
pub ran_leapt : {pool ends ring : List ℕ} {k : ℕ} {z₀ z : State} {w : Went} {r : Searched} (before : ℕ) → WholeRan pool ends ring k z₀ z w r → Leapt w (wholes_in pool z ends ring k) before r.landed (capped (before + r.seeks))
ran_leapt {pool} {ends} {ring} {k} {z = z} {w} {r} before d = record { made = r.seeks; answers = go r.landed d.same; sum = refl }
  where
    go : (h : Landed) → w ≡ answered (wholes_in pool z ends ring k) h r.seeks → Answers w (wholes_in pool z ends ring k) h r.seeks
    go (Key x p) c = c
    go (Nothing p) c = (ap (λ (v : Went). v.stop) c, ap (λ (v : Went). v.seeks) c)

-- either way: `turn` is the ring that is searched, from `start` on
module _ {pool ends ring by_atom : List ℕ} {z : State} {k p : ℕ} (g : WholeAgreed pool z ends by_atom k (key_at pool z.at (get_or by_atom 0 0)) p) (s : SameAtoms by_atom ring k) {turn : List ℕ} {start : ℕ} where
  pub turn_agreed : (last : Bool) → turn ≡ pick last ring by_atom → start ≡ pick last p 0 → WholeAgreed pool z ends turn k (key_at pool z.at (get_or turn start 0)) start
  turn_agreed true t b = rw (t, b) (goes_on g s)
  turn_agreed false t b = rw (t, b) (begins_anew g)

  pub turn_onward : (last : Bool) → turn ≡ pick last ring by_atom → start ≡ pick last p 0 → {z' : State} {r a : Searched} (before : ℕ) → a ≡ since_of before r → WholeRan pool ends turn k z z' (next_of (wholes_in pool z ends turn k) start) r → Onward pool ends ring by_atom k p last z z' before a
  turn_onward true t b before e d = rw e (let d' = rw (t, b) at d in record { steps = went_on g s d'; leapt = ran_leapt before d' })
  turn_onward false t b before e d = rw e (let d' = rw (t, b) at d in record { steps = went_anew g d'; leapt = ran_leapt before d' })

-- where the search starts, from the way that was gone
pub start_is : (last : Bool) {p start : ℕ} → ((last ≡ true) × (start ≡ p)) ⊎ ((last ≡ false) × (start ≡ 0)) → start ≡ pick last p 0
start_is last {p} (inl w) = w.1 ∙ ap (λ (b : Bool). pick b p 0) (sym w.0)
start_is last {p} (inr w) = w.1 ∙ ap (λ (b : Bool). pick b p 0) (sym w.0)

-- ---- the first key

module _ {pool ends by_atom ring ring' : List ℕ} {k : ℕ} {z : State} (r : WholeReady pool z ends ring k) (f : WholeReady pool z ends by_atom k) (e : take k ring ≡ take k by_atom) (asc : Ascends ◌<◌ (take k ring)) {z' : State} {a : Searched} (b : WholeBegun pool ends k ring ring' z z' a) where
  -- the ring in atom order, sorted and in atom order again
  both : SameAtoms by_atom ring k
  both = record { size = r.ready.size; to = λ a m. rw e m; back = λ a m. rw e at m; apart = r.ready.apart }

  sorts : SameAtoms ring ring' k
  sorts = sorted_same r asc b

  through : SameAtoms ring' by_atom k
  through = record { size = f.ready.size; to = λ a m. both.back a (sorts.back a m); back = λ a m. sorts.to a (both.to a m); apart = f.ready.apart }

  left : WholeLeft pool ends ring' k z z' (meet (wholes_in pool z ends ring k)) [] a.landed
  left = whole_begun_left r asc b

  pub first_agreed : AgreedAt pool z' ends by_atom k a.landed
  first_agreed = same_ended through a.landed left

  pub first_keys : meet (wholes_in pool z ends by_atom k) ≡ left_of (wholes_in pool z' ends by_atom k) a.landed
  first_keys = same_wholes both f ∙ same_keys through a.landed left

  pub first_cut : AtKey a.landed (λ (x : ℕ). wholes_in pool z' ends by_atom k ≡ map (from x) (wholes_in pool z ends by_atom k))
  first_cut = same_cut through a.landed left

  pub first_carried : Carried pool ends by_atom k z z'
  first_carried = same_carried through left.carried

  pub first_same : SameAtoms by_atom ring' k
  first_same = record { size = sorts.size; to = through.back; back = through.to; apart = sorts.apart }
