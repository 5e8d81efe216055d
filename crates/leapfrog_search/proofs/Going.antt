-- While the code searches: its runs are those of the definition's search, which from here comes to the same with the seeks made so far.
use mathlib.Core.Path.{◌≡◌, refl, sym, subst, ap, ◌∙◌}
use mathlib.Core.List.{List, [], ◌∷◌}
use Prim.Native.Nat.{ℕ, zero, suc, ◌+◌, ◌*◌, ◌≤◌, ◌<◌}
use native.Mathlib.Omega.{arith}
use lib.Arith.{lt_of_le-ne}
use lib.ListN.{length, get_or, set}
use Rattle.relation.specs.Lists.{Ascends}
use Rattle.relation.specs.Runs.{from}
use Rattle.relation.proofs.Runs.{from_ascends}
use Rattle.query.specs.Meet.{total}
use Rattle.leapfrog.specs.Search.{Went, on, out, run_at, first, place_after, place_before, more, stopped, search_from, search_of}
use Rattle.leapfrog.proofs.Steps.{step_found, step_out, step_on, cons_some}
use Rattle.leapfrog.proofs.Good.{first_at, Good}
use Rattle.leapfrog.proofs.Good as good
use Rattle.leapfrog.proofs.Search.{ring_good}
use Rattle.leapfrog_search.specs.declared.Landed.TheVariants.{Key, Nothing}
use Rattle.ring_sort.specs.Sorted.{key_at}
use Rattle.leapfrog_search.specs.Ring.{Follows}
use Rattle.leapfrog_search.specs.Leapfrog.{part, runs_in, OnKey, Ready, Ordered, Moved, Reached, answered}
use Rattle.leapfrog_search.proofs.Parts.{part_cons, part_none}
use Rattle.leapfrog_search.proofs.Runs.{stands_at, ready_length, ready_at, put, put_sought, put_moved, put_ready, moved_on}
use Rattle.leapfrog_search.proofs.Defined.{follows_after, follows_before, ready_key, ready_ring, ready_few}

pub record Going (pool at₀ end ring : List ℕ) (k start : ℕ) (at : List ℕ) (p most seeks : ℕ) : Type 0 where
  pub ready : Ready pool at end ring k
  pub good : Good (runs_in pool at end ring k) p most
  pub moved : Moved end ring k at₀ at
  pub fuel : ℕ
  pub enough : total (runs_in pool at end ring k) ≤ fuel
  pub same : search_of (runs_in pool at₀ end ring k) start ≡ more seeks (search_from fuel (runs_in pool at end ring k) p most)
  pub count : seeks + total (runs_in pool at end ring k) ≤ 8 * length pool

-- ---- counts

abbrev counted : Went → ℕ → Went
counted w n = record { runs = w.runs; place = w.place; stop = w.stop; seeks = n }

seeks_are : (w : Went) {n n' : ℕ} → n ≡ n' → counted w n ≡ counted w n'
seeks_are w e = ap (counted w) e

grown : (n : ℕ) → 0 < n → (m : ℕ) × (n ≡ suc m)
grown zero h = absurd (omega arith)
grown (suc m) h = (m, refl)

none_yet : (w : Went) → w ≡ more 0 w
none_yet w = seeks_are w (one w.seeks)
  where
    one : (n : ℕ) → n ≡ 0 + n
    one n = omega arith

one_more : (n : ℕ) (w : Went) → more n (more 1 w) ≡ more (n + 1) w
one_more n w = seeks_are w (sum w.seeks)
  where
    sum : (m : ℕ) → n + (1 + m) ≡ (n + 1) + m
    sum m = omega arith

pub begin : {pool at end ring : List ℕ} {k p : ℕ} (z : ℕ) → Ready pool at end ring k → Ordered pool at ring k p → Follows k z p → Going pool at end ring k p at p (key_at pool at (get_or ring z 0)) 0
unfolding search_of
begin {pool} {at} {end} {ring} {k} {p} z r o f = record {
  ready = r;
  good = subst (Good runs p) most (ring_good (ready_ring r o f.to));
  moved = record { places = r.places; forward = λ a. omega arith; within = λ a m. omega (arith, (r.each a m).inside); others = λ a n. refl };
  fuel = total runs;
  enough = omega arith;
  same = ap (search_from (total runs) runs p) most ∙ none_yet (search_from (total runs) runs p (key_at pool at (get_or ring z 0)));
  count = omega (arith, ready_few r);
}
  where
    runs : List (List ℕ)
    runs = runs_in pool at end ring k

    most : first_at (runs_in pool at end ring k) (place_before (length (runs_in pool at end ring k)) p) ≡ key_at pool at (get_or ring z 0)
    most = ap (λ (n : ℕ). first_at (runs_in pool at end ring k) (place_before n p)) (ready_length r) ∙ (ap (first_at (runs_in pool at end ring k)) (follows_before f) ∙ ready_key r z f.from)

module _ {pool at₀ end ring : List ℕ} {k start : ℕ} {at : List ℕ} {p most seeks : ℕ} (g : Going pool at₀ end ring k start at p most seeks) where
  pub here : p < k
  here = omega (arith, good.here g.good, ready_length g.ready)

  pub stands : OnKey pool at end (get_or ring p 0)
  stands = stands_at g.ready p here

  key : first_at (runs_in pool at end ring k) p ≡ key_at pool at (get_or ring p 0)
  key = ready_key g.ready p here

  -- the definition has fuel for this turn
  turn : (m : ℕ) × (g.fuel ≡ suc m)
  turn = grown g.fuel (omega (arith, good.filled g.good, g.enough))

  now_same : {w : Went} → search_from (suc turn.0) (runs_in pool at end ring k) p most ≡ w → search_of (runs_in pool at₀ end ring k) start ≡ more seeks w
  now_same e = g.same ∙ ap (more seeks) (ap (λ (f : ℕ). search_from f (runs_in pool at end ring k) p most) turn.1 ∙ e)

  pub found : key_at pool at (get_or ring p 0) ≡ most → search_of (runs_in pool at₀ end ring k) start ≡ answered (runs_in pool at end ring k) (Key most p) seeks
  found e = now_same (step_found turn.0 (runs_in pool at end ring k) p most (key ∙ e)) ∙ seeks_are (stopped (runs_in pool at end ring k) p (on most)) {n' = seeks} (omega arith)

  module _ {q : ℕ} (s : Reached pool (get_or at (get_or ring p 0) 0) (get_or end (get_or ring p 0) 0) most q) (differ : key_at pool at (get_or ring p 0) ≡ most → ⊥) where
    apart : first_at (runs_in pool at end ring k) p ≡ most → ⊥
    apart e = differ (sym key ∙ e)

    runs' : runs_in pool (put at ring p q) end ring k ≡ set (runs_in pool at end ring k) p (from most (run_at (runs_in pool at end ring k) p))
    runs' = put_sought g.ready here q s

    run' : from most (run_at (runs_in pool at end ring k) p) ≡ part pool q (get_or end (get_or ring p 0) 0)
    run' = ap (from most) (ready_at g.ready p here) ∙ sym s.rest

    pub falls : total (runs_in pool (put at ring p q) end ring k) < total (runs_in pool at end ring k)
    falls = rw runs' (omega (arith, good.falls g.good apart))

    pub room : seeks + 1 ≤ 8 * length pool
    room = omega (arith, falls, g.count)

    pub moved' : Moved end ring k at₀ (put at ring p q)
    moved' = moved_on g.moved (put_moved g.ready here q s.forward s.within)

    pub gone : q ≡ get_or end (get_or ring p 0) 0 → search_of (runs_in pool at₀ end ring k) start ≡ answered (runs_in pool (put at ring p q) end ring k) (Nothing p) (seeks + 1)
    gone e =
        now_same (step_out turn.0 (runs_in pool at end ring k) p most apart (run' ∙ part_none pool q (get_or end (get_or ring p 0) 0) e))
        ∙ (seeks_are (stopped (set (runs_in pool at end ring k) p (from most (run_at (runs_in pool at end ring k) p))) p out) {n' = seeks + 1} (omega arith)
        ∙ ap (λ (rs : List (List ℕ)). counted (stopped rs p out) (seeks + 1)) (sym runs'))

    -- else the search goes on from the next place
    pub on_going : (q ≡ get_or end (get_or ring p 0) 0 → ⊥) → (p' : ℕ) → Follows k p p' → Going pool at₀ end ring k start (put at ring p q) p' (get_or pool q 0) (seeks + 1)
    on_going n p' f = record {
      ready = put_ready g.ready here q inside (subst (Ascends ◌<◌) (sym s.rest) (from_ascends most stands.ascends));
      good = rw (runs', ← place', ← first') (good.good_on g.good apart nonempty);
      moved = moved';
      fuel = turn.0;
      enough = omega (arith, falls, g.enough, turn.1);
      same =
          now_same (step_on turn.0 (runs_in pool at end ring k) p most apart nonempty)
          ∙ (one_more seeks _
          ∙ ap (more (seeks + 1)) (rw (runs', ← place', ← first')));
      count = omega (arith, falls, g.count);
    }
      where
        inside : q < get_or end (get_or ring p 0) 0
        inside = lt_of_le-ne s.within n

        cons : from most (run_at (runs_in pool at end ring k) p) ≡ get_or pool q 0 ∷ part pool (q + 1) (get_or end (get_or ring p 0) 0)
        cons = run' ∙ part_cons pool q (get_or end (get_or ring p 0) 0) inside stands.ends

        nonempty : from most (run_at (runs_in pool at end ring k) p) ≡ [] → ⊥
        nonempty = cons_some (from most (run_at (runs_in pool at end ring k) p)) cons

        first' : first (from most (run_at (runs_in pool at end ring k) p)) ≡ get_or pool q 0
        first' = ap first cons

        place' : place_after (length (runs_in pool at end ring k)) p ≡ p'
        place' = ap (λ (m : ℕ). place_after m p) (ready_length g.ready) ∙ follows_after f
