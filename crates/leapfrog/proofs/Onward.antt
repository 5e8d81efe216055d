-- From a key on which all stand: the run at p passes it, or is sought to a target, and the search goes on from the next place.
-- Idea: every other run begins with the least key, so the one that moved has the greatest, and the ring is ordered from the next place.
use Prim.Native.Nat.{ℕ, zero, suc, ◌+◌, ◌≤◌, ◌<◌}
use native.Mathlib.Omega.{arith}
use native.Mathlib.Decide.{ℕ_discrete}
use mathlib.Core.Path.{◌≡◌, refl, sym, subst, ap, ◌∙◌}
use mathlib.Core.List.{List, [], ◌∷◌}
use lib.ListN.{length, get_or, set, drop, length-set, length-drop}
use lib.Seq.{get_or-set_same, get_or-set_other}
use Rattle.relation.specs.Lists.{◌∈◌, hd, tl, Ascends, anone, amore}
use Rattle.relation.specs.Runs.{from}
use Rattle.relation.proofs.Runs.{head_least}
use Rattle.query.specs.Meet.{meet, total, Runs, Agree}
use Rattle.query.specs.Ring.{Round}
use Rattle.query.proofs.Leap.{total_set, meet_none, agree_meet, agree_all}
use Rattle.leapfrog.specs.Search.{Went, out, run_at, first, place_after, more, stopped, search_of, go_on, next_of, seek_to, Comes}
use Rattle.leapfrog.proofs.Steps.{none_not, none_is, some_cons, cons_some}
use Rattle.leapfrog.proofs.Good.{first_at, Good, here, put_good}
use Rattle.leapfrog.proofs.Search.{Ring, dec_nil, from_end, out_comes, comes_on, ring_comes}

pub good_ring : {runs : List (List ℕ)} {p most : ℕ} → Good runs p most → Ring runs p
good_ring g = record { ascend = g.ascend; nonempty = g.nonempty; round = g.round; place = here g }

-- every run ascends and begins with x
pub record Agreeing (runs : List (List ℕ)) (x p : ℕ) : Type 0 where
  pub ascend : Runs runs
  pub agree : Agree runs x
  pub place : p < length runs

ascends_drop : (d : ℕ) {xs : List ℕ} → Ascends ◌<◌ xs → Ascends ◌<◌ (drop d xs)
ascends_drop zero s = s
ascends_drop (suc d) anone = anone
ascends_drop (suc d) (amore f s) = ascends_drop d s

in_drop : (d : ℕ) (xs : List ℕ) {y : ℕ} → y ∈ drop d xs → y ∈ xs
in_drop zero xs m = m
in_drop (suc d) [] m = m
in_drop (suc d) (x ∷ xs) m = tl (in_drop d xs m)

put_ascend : (runs : List (List ℕ)) (p : ℕ) (s : List ℕ) → p < length runs → Runs runs → Ascends ◌<◌ s → Runs (set runs p s)
put_ascend runs p s h a b i l = go (ℕ_discrete i p)
  where
    go : Dec (i ≡ p) → Ascends ◌<◌ (get_or (set runs p s) i [])
    go (yes e) = rw (e, get_or-set_same runs p s [] h) b
    go (no n) = rw (get_or-set_other runs p i s [] n) (a i (omega (arith, length-set runs p s)))

more_none : (w : Went) → more 0 w ≡ w
more_none w = ap (λ (n : ℕ). record { runs = w.runs; place = w.place; stop = w.stop; seeks = n }) (nothing w.seeks)
  where
    nothing : (n : ℕ) → 0 + n ≡ n
    nothing n = omega arith

comes_past : (runs : List (List ℕ)) (p : ℕ) (s : List ℕ) (d : ℕ) {common : List ℕ} {w : Went} → p < length runs → s ≡ drop d (run_at runs p) → total (set runs p s) ≤ total runs → Comes 0 (set runs p s) common w → Comes 0 runs common w
comes_past runs p s d {common} {w} h e t c = subst (Comes 0 runs common) (more_none w) (comes_on 0 d h e refl (omega arith) c)

module _ {runs : List (List ℕ)} {x p : ℕ} (g : Agreeing runs x p) where
  pub keys : (j : ℕ) → j < length runs → first_at runs j ≡ x
  keys j l = ap first (g.agree j l)

  pub agreeing_round : Round (first_at runs) (length runs) p
  agreeing_round = record {
    up = λ i j a b c. omega (arith, keys i (omega arith), keys j c);
    wrapped = λ i j a b. omega (arith, keys i (omega (arith, g.place)), keys j (omega (arith, g.place)));
    over = λ i j a b c. omega (arith, keys i c, keys j (omega (arith, g.place)));
  }

  module _ {s : List ℕ} (d : ℕ) (e : s ≡ drop d (run_at runs p)) where
    left_ascends : Runs (set runs p s)
    left_ascends = put_ascend runs p s g.place g.ascend (subst (Ascends ◌<◌) (sym e) (ascends_drop d (g.ascend p g.place)))

    fewer : total (set runs p s) ≤ total runs
    fewer = omega (arith, total_set runs p s g.place, ap length e, length-drop d (run_at runs p))

    -- the ring from which the search goes on
    pub on_ring : (s ≡ [] → ⊥) → Ring (set runs p s) (place_after (length runs) p)
    on_ring n = good_ring (put_good runs p s g.place left_ascends n (λ j l. cons_some (run_at runs j) (g.agree j l)) (λ j l. omega (arith, keys j l, least)) agreeing_round)
      where
        mine : first s ∈ run_at runs p
        mine = in_drop d (run_at runs p) (subst (λ (r : List ℕ). first s ∈ r) e (subst (λ (r : List ℕ). first s ∈ r) (sym (some_cons s n)) (hd refl)))

        least : x ≤ first s
        least = head_least (subst (Ascends ◌<◌) (g.agree p g.place) (g.ascend p g.place)) (first s) (subst (λ (r : List ℕ). first s ∈ r) (g.agree p g.place) mine)

    pub on_out : s ≡ [] → go_on runs p s ≡ stopped (set runs p s) p out
    unfolding go_on
    on_out n = simp (none_is s n)

    pub on_on : (s ≡ [] → ⊥) → go_on runs p s ≡ search_of (set runs p s) (place_after (length runs) p)
    unfolding go_on
    on_on n = simp (none_not s n)

    pub on_comes : Comes 0 runs (meet (set runs p s)) (go_on runs p s)
    on_comes = go (dec_nil s)
      where
        go : Dec (s ≡ []) → Comes 0 runs (meet (set runs p s)) (go_on runs p s)
        go (yes n) = rw (on_out n) (comes_past runs p s d g.place e fewer (out_comes runs p s d g.place e left_ascends (meet (set runs p s)) (meet_none (set runs p s) p (rw (length-set runs p s) g.place) (get_or-set_same runs p s [] g.place ∙ n)) n))
        go (no n) = rw (on_on n) (comes_past runs p s d g.place e fewer (ring_comes (on_ring n)))

  -- Algorithm 3: the common keys are x, and those left
  pub next_comes : Comes 0 runs (meet (set runs p (drop 1 (run_at runs p)))) (next_of runs p)
  unfolding next_of
  next_comes = on_comes 1 refl

  pub next_keys : meet runs ≡ x ∷ meet (set runs p (drop 1 (run_at runs p)))
  next_keys = agree_meet runs g.ascend p g.place (agree_all runs g.agree) (g.agree p g.place)

  -- Algorithm 4, first but for its one seek more
  pub target_comes : (t : ℕ) → Comes 0 runs (meet (set runs p (from t (run_at runs p)))) (go_on runs p (from t (run_at runs p)))
  target_comes t = on_comes (from_end t (run_at runs p)).0 (from_end t (run_at runs p)).1

  pub seek_comes : (t : ℕ) → Comes 1 runs (meet (set runs p (from t (run_at runs p)))) (seek_to t runs p)
  unfolding seek_to
  seek_comes t =
      let c = target_comes t in
      record { size = c.size; inside = c.inside; ascend = c.ascend; ended = c.ended; keys = c.keys; ends = c.ends; bound = omega (arith, c.bound) }
