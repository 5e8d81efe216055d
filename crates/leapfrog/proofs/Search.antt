-- What a search comes to: it ends, on the first common key or where there is none, and makes no more seeks than it passes keys.
-- Idea: one induction on the fuel, over the steps; what holds of a ring while it is searched (Good) says what each step does.
use Prim.Native.Nat.{ℕ, zero, suc, ◌+◌, ◌≤◌, ◌<◌}
use native.Mathlib.Omega.{arith}
use native.Mathlib.Decide.{ℕ_discrete}
use mathlib.Core.Path.{◌≡◌, refl, sym, ap, ◌∙◌}
use mathlib.Core.Bool.{Bool, true, false}
use mathlib.Core.List.{List, [], ◌∷◌}
use lib.ListN.{length, set, drop, length-set}
use lib.Seq.{get_or-set_same, get_or-set_other, drop-drop}
use lib.Dec.{ltb}
use Rattle.relation.specs.Order.{pick}
use Rattle.relation.specs.Runs.{from}
use Rattle.query.specs.Meet.{meet, total, Runs}
use Rattle.query.specs.Ring.{Round}
use Rattle.leapfrog.specs.Search.{on, out, Went, run_at, place_before, more, stopped, search_from, search_of, Comes}
use Rattle.leapfrog.proofs.Steps.{step_found, step_out, step_on, after_before, before_in}
use Rattle.leapfrog.proofs.Good.{first_at, Good}
use Rattle.leapfrog.proofs.Good as good

-- ---- a seek leaves an end of its run

pub from_end : (t : ℕ) (xs : List ℕ) → (d : ℕ) × (from t xs ≡ drop d xs)
unfolding from
from_end t [] = (0, refl)
from_end t (x ∷ xs) = go (from_end t xs) (ltb x t)
  where
    go : (d : ℕ) × (from t xs ≡ drop d xs) → (b : Bool) → (d : ℕ) × (pick b (from t xs) (x ∷ xs) ≡ drop d (x ∷ xs))
    go ih true = (suc ih.0, ih.1)
    go ih false = (0, refl)

pub put_ends : (runs : List (List ℕ)) (p : ℕ) (s : List ℕ) (d : ℕ) → p < length runs → s ≡ drop d (run_at runs p) → (j : ℕ) → (d : ℕ) × (run_at (set runs p s) j ≡ drop d (run_at runs j))
put_ends runs p s d h e j = go (ℕ_discrete j p)
  where
    go : Dec (j ≡ p) → (d : ℕ) × (run_at (set runs p s) j ≡ drop d (run_at runs j))
    go (yes i) = (d, ap (run_at (set runs p s)) i ∙ (get_or-set_same runs p s [] h ∙ (e ∙ ap (λ (q : ℕ). drop d (run_at runs q)) (sym i))))
    go (no n) = (0, get_or-set_other runs p j s [] n)

-- a call that goes on from runs that one step left, with n seeks before
pub comes_on : {runs : List (List ℕ)} {p : ℕ} {s : List ℕ} {common common' : List ℕ} {w : Went} (n d : ℕ) → p < length runs → s ≡ drop d (run_at runs p) → common ≡ common' → n + total (set runs p s) ≤ total runs → Comes 0 (set runs p s) common' w → Comes 0 runs common (more n w)
comes_on {runs} {p} {s} {w = w} n d h e k t c = record {
  size = c.size ∙ length-set runs p s;
  inside = omega (arith, c.inside, length-set runs p s);
  ascend = c.ascend;
  ended = c.ended;
  keys = k ∙ c.keys;
  ends = λ j.
      let a = put_ends runs p s d h e j in
      let b = c.ends j in
      (a.0 + b.0, b.1 ∙ (ap (drop b.0) a.1 ∙ drop-drop b.0 a.0 (run_at runs j)));
  bound = omega (arith, c.bound);
}

-- ---- the search

found_comes : {runs : List (List ℕ)} {p most : ℕ} → Good runs p most → first_at runs p ≡ most → Comes 0 runs (meet runs) (stopped runs p (on most))
found_comes g e = record {
  size = refl;
  inside = good.here g;
  ascend = g.ascend;
  ended = good.agreed g e;
  keys = refl;
  ends = λ j. (0, refl);
  bound = omega arith;
}

pub out_comes : (runs : List (List ℕ)) (p : ℕ) (s : List ℕ) (d : ℕ) → p < length runs → s ≡ drop d (run_at runs p) → Runs (set runs p s) → (common : List ℕ) → common ≡ [] → s ≡ [] → Comes 0 (set runs p s) common (stopped (set runs p s) p out)
out_comes runs p s d h e a common k n = record {
  size = refl;
  inside = rw (length-set runs p s) h;
  ascend = a;
  ended = get_or-set_same runs p s [] h ∙ n;
  keys = k;
  ends = λ j. (0, refl);
  bound = omega arith;
}

pub dec_nil : (r : List ℕ) → Dec (r ≡ [])
dec_nil [] = yes refl
dec_nil (x ∷ xs) = no (λ e. let z = ap length e in omega arith)

-- the law with less fuel
abbrev Hyp : ℕ → Type 0
Hyp fuel = (rs : List (List ℕ)) (q m : ℕ) → total rs ≤ fuel → Good rs q m → Comes 0 rs (meet rs) (search_from fuel rs q m)

abbrev Same : ℕ → ℕ → Type 0
Same f f' = (rs : List (List ℕ)) (q m : ℕ) → total rs ≤ f → total rs ≤ f' → Good rs q m → search_from f rs q m ≡ search_from f' rs q m

pub search_comes : (fuel : ℕ) {runs : List (List ℕ)} {p most : ℕ} → total runs ≤ fuel → Good runs p most → Comes 0 runs (meet runs) (search_from fuel runs p most)
search_comes zero h g = absurd (omega (arith, good.filled g))
search_comes (suc fuel) {runs} {p} {most} h g = go (λ rs q m a b. search_comes fuel a b) (ℕ_discrete (first_at runs p) most)
  where
    sought : Hyp fuel → (first_at runs p ≡ most → ⊥) → Dec (from most (run_at runs p) ≡ []) → Comes 0 runs (meet runs) (search_from (suc fuel) runs p most)
    sought ih n (yes e) =
        rw (step_out fuel runs p most n e)
        (comes_on 1 (from_end most (run_at runs p)).0 (good.here g) (from_end most (run_at runs p)).1 refl (omega (arith, good.falls g n))
        (out_comes runs p (from most (run_at runs p)) (from_end most (run_at runs p)).0 (good.here g) (from_end most (run_at runs p)).1 (good.ascends g n) (meet runs) (good.nothing g n e) e))
    sought ih n (no e) =
        rw (step_on fuel runs p most n e)
        (comes_on 1 (from_end most (run_at runs p)).0 (good.here g) (from_end most (run_at runs p)).1 (sym (good.still g n)) (omega (arith, good.falls g n))
        (ih _ _ _ (omega (arith, good.falls g n)) (good.good_on g n e)))

    go : Hyp fuel → Dec (first_at runs p ≡ most) → Comes 0 runs (meet runs) (search_from (suc fuel) runs p most)
    go ih (yes e) = rw (step_found fuel runs p most e) (found_comes g e)
    go ih (no n) = sought ih n (dec_nil (from most (run_at runs p)))

-- any fuel that is enough comes to the same
pub any_fuel : (f f' : ℕ) {runs : List (List ℕ)} {p most : ℕ} → total runs ≤ f → total runs ≤ f' → Good runs p most → search_from f runs p most ≡ search_from f' runs p most
any_fuel zero f' h h' g = absurd (omega (arith, good.filled g))
any_fuel (suc f) zero h h' g = absurd (omega (arith, good.filled g))
any_fuel (suc f) (suc f') {runs} {p} {most} h h' g = go (λ rs q m a b c. any_fuel f f' a b c) (ℕ_discrete (first_at runs p) most)
  where
    sought : Same f f' → (first_at runs p ≡ most → ⊥) → Dec (from most (run_at runs p) ≡ []) → search_from (suc f) runs p most ≡ search_from (suc f') runs p most
    sought ih n (yes e) = step_out f runs p most n e ∙ sym (step_out f' runs p most n e)
    sought ih n (no e) = step_on f runs p most n e ∙ (ap (more 1) (ih _ _ _ (omega (arith, good.falls g n)) (omega (arith, good.falls g n)) (good.good_on g n e)) ∙ sym (step_on f' runs p most n e))

    go : Same f f' → Dec (first_at runs p ≡ most) → search_from (suc f) runs p most ≡ search_from (suc f') runs p most
    go ih (yes e) = step_found f runs p most e ∙ sym (step_found f' runs p most e)
    go ih (no n) = sought ih n (dec_nil (from most (run_at runs p)))

-- ---- a ring that is ordered from p

pub record Ring (runs : List (List ℕ)) (p : ℕ) : Type 0 where
  pub ascend : Runs runs
  pub nonempty : (j : ℕ) → j < length runs → run_at runs j ≡ [] → ⊥
  pub round : Round (first_at runs) (length runs) p
  pub place : p < length runs

pub ring_good : {runs : List (List ℕ)} {p : ℕ} → Ring runs p → Good runs p (first_at runs (place_before (length runs) p))
ring_good {runs} {p} r = record {
  ascend = r.ascend;
  nonempty = r.nonempty;
  round = r.round;
  last = place_before (length runs) p;
  inside = before_in (length runs) p r.place;
  follows = after_before (length runs) p r.place;
  is_most = refl;
}

-- Algorithm 2 from such a ring. Its seeks are at most the keys not yet passed: `bound`
pub ring_comes : {runs : List (List ℕ)} {p : ℕ} → Ring runs p → Comes 0 runs (meet runs) (search_of runs p)
unfolding search_of
ring_comes {runs} r = search_comes (total runs) (omega arith) (ring_good r)

-- "one search makes no more seeks than the keys not yet passed in its runs when it starts"
pub search_seeks_bounded : {runs : List (List ℕ)} {p : ℕ} → Ring runs p → (search_of runs p).seeks ≤ total runs
search_seeks_bounded r = omega (arith, (ring_comes r).bound)
