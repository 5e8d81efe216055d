-- A step from a key on which all agree: the atom at p goes past that key, or seeks a target, and the search goes on from the next place.
-- Idea: every other atom stands on the least key, so the one that moved stands on the greatest, and what is left in common follows from one run's change.
use mathlib.Core.Path.{◌≡◌, refl, sym, subst, ap, ◌∙◌}
use mathlib.Core.List.{List, ◌∷◌}
use Prim.Native.Nat.{ℕ, ◌+◌, ◌≤◌, ◌<◌}
use native.Mathlib.Omega.{arith}
use lib.ListN.{length, get_or, set, drop}
use Rattle.relation.specs.Lists.{◌∈◌, hd, tl, Ascends}
use Rattle.relation.proofs.Lists.{ascends_tail}
use Rattle.relation.specs.Runs.{from}
use Rattle.relation.proofs.Runs.{head_least, in_from, from_ascends}
use Rattle.leapfrog.specs.Search.{Went, out, run_at, place_after, more, stopped, search_of, go_on}
use Rattle.leapfrog.proofs.Steps.{cons_some}
use Rattle.leapfrog.proofs.Onward.{Agreeing, on_out, on_on}
use Rattle.leapfrog_search.specs.declared.Searched.{Searched}
use Rattle.leapfrog_search.specs.declared.Landed.{Landed}
use Rattle.leapfrog_search.specs.declared.Landed.TheVariants.{Key, Nothing}
use Rattle.leapfrog_search.specs.Ring.{Follows}
use Rattle.leapfrog_search.specs.Leapfrog.{part, run_of, runs_in, OnKey, Ready, Ordered, Agreed, Moved, Reached, answered, Ran}
use Rattle.leapfrog_search.proofs.Parts.{part_cons, part_none}
use Rattle.leapfrog_join.proofs.Laws.{agreed_agreeing, agreed_ordered}
use Rattle.leapfrog_search.proofs.Defined.{follows_after}
use Rattle.leapfrog_search.proofs.Runs.{ring_in, stands_at, ready_length, ready_at, ready_heads, put, put_runs, put_moved, put_ready, put_ordered, moved_on}

-- a call that goes on from a step leaves what the definition gives from there
pub ran_on : {pool end ring : List ℕ} {k : ℕ} {at₀ at₁ at : List ℕ} {w w₁ : Went} {r : Searched} → Moved end ring k at₀ at₁ → w ≡ w₁ → Ran pool end ring k at₁ at w₁ r → Ran pool end ring k at₀ at w r
ran_on m e d = record { same = e ∙ d.same; moved = moved_on m d.moved }

-- with one seek before it
pub ran_more : {pool end ring : List ℕ} {k : ℕ} {at₀ at : List ℕ} {w : Went} {r : Searched} → Ran pool end ring k at₀ at w r → Ran pool end ring k at₀ at (more 1 w) (record { landed = r.landed; seeks = r.seeks + 1 })
ran_more {pool} {end} {ring} {k} {at = at} {r = r} d = record { same = ap (more 1) d.same ∙ one r.landed r.seeks; moved = d.moved }
  where
    sum : (n : ℕ) → 1 + n ≡ n + 1
    sum n = omega arith

    one : (h : Landed) (n : ℕ) → more 1 (answered (runs_in pool at end ring k) h n) ≡ answered (runs_in pool at end ring k) h (n + 1)
    one (Key x p) n = ap (answered (runs_in pool at end ring k) (Key x p)) (sum n)
    one (Nothing p) n = ap (answered (runs_in pool at end ring k) (Nothing p)) (sum n)

module _ {pool at end ring : List ℕ} {k x p : ℕ} (g : Agreed pool at end ring k x p) where
  pub stands : OnKey pool at end (get_or ring p 0)
  stands = stands_at g.ready p g.place

  agreeing : Agreeing (runs_in pool at end ring k) x p
  agreeing = agreed_agreeing g

  -- its run: the common key, and what follows
  run : run_of pool at end (get_or ring p 0) ≡ x ∷ part pool (get_or at (get_or ring p 0) 0 + 1) (get_or end (get_or ring p 0) 0)
  run =
      part_cons pool (get_or at (get_or ring p 0) 0) (get_or end (get_or ring p 0) 0) stands.inside stands.ends
      ∙ ap (λ (y : ℕ). y ∷ part pool (get_or at (get_or ring p 0) 0 + 1) (get_or end (get_or ring p 0) 0)) (g.all (get_or ring p 0) (ring_in g.ready p g.place))

  -- the place q to which it goes: what is left there is a part of the run
  module _ (q : ℕ) (f : get_or at (get_or ring p 0) 0 ≤ q) (w : q ≤ get_or end (get_or ring p 0) 0) where
    pub step_moved : Moved end ring k at (put at ring p q)
    step_moved = put_moved g.ready g.place q f w

    module _ (inside : q < get_or end (get_or ring p 0) 0) (s : Ascends ◌<◌ (part pool q (get_or end (get_or ring p 0) 0))) (y : (key : ℕ) → key ∈ part pool q (get_or end (get_or ring p 0) 0) → key ∈ run_of pool at end (get_or ring p 0)) where
      pub step_ready : Ready pool (put at ring p q) end ring k
      step_ready = put_ready g.ready g.place q inside s

      pub step_ordered : (p' : ℕ) → Follows k p p' → Ordered pool (put at ring p q) ring k p'
      step_ordered = put_ordered g.ready g.place q (λ j l. omega (arith, g.all (get_or ring j 0) (ring_in g.ready j l), new)) (agreed_ordered g)
        where
          new : x ≤ get_or pool q 0
          new = head_least (subst (Ascends ◌<◌) run stands.ascends) (get_or pool q 0) (subst (λ (r : List ℕ). get_or pool q 0 ∈ r) run (y (get_or pool q 0) (rw (part_cons pool q (get_or end (get_or ring p 0) 0) inside stands.ends) (hd refl))))

    -- where the run is left with s, an end of it, the definition goes the same way
    module _ {s : List ℕ} (d : ℕ) (e : s ≡ drop d (run_at (runs_in pool at end ring k) p)) (t : s ≡ part pool q (get_or end (get_or ring p 0) 0)) where
      runs' : set (runs_in pool at end ring k) p s ≡ runs_in pool (put at ring p q) end ring k
      runs' = ap (set (runs_in pool at end ring k) p) t ∙ sym (put_runs g.ready g.place q)

      pub step_out : q ≡ get_or end (get_or ring p 0) 0 → Ran pool end ring k at (put at ring p q) (go_on (runs_in pool at end ring k) p s) (record { landed = Nothing p; seeks = 0 })
      step_out n = record {
        same = on_out agreeing d e (t ∙ part_none pool q (get_or end (get_or ring p 0) 0) n) ∙ ap (λ (rs : List (List ℕ)). stopped rs p out) runs';
        moved = step_moved;
      }

      pub step_on : q < get_or end (get_or ring p 0) 0 → {p' : ℕ} → Follows k p p' → go_on (runs_in pool at end ring k) p s ≡ search_of (runs_in pool (put at ring p q) end ring k) p'
      step_on n {p'} f =
          on_on agreeing d e (cons_some s (t ∙ part_cons pool q (get_or end (get_or ring p 0) 0) n stands.ends))
          ∙ (ap (λ (rs : List (List ℕ)). search_of rs (place_after (length (runs_in pool at end ring k)) p)) runs'
          ∙ ap (search_of (runs_in pool (put at ring p q) end ring k)) (ap (λ (n : ℕ). place_after n p) (ready_length g.ready) ∙ follows_after f))

  -- ---- the step past the common key

  pub past_run : drop 1 (run_at (runs_in pool at end ring k) p) ≡ part pool (get_or at (get_or ring p 0) 0 + 1) (get_or end (get_or ring p 0) 0)
  past_run = ap (drop 1) (ready_heads g.ready p g.place)

  pub past_forward : get_or at (get_or ring p 0) 0 ≤ get_or at (get_or ring p 0) 0 + 1
  past_forward = omega arith

  pub past_within : get_or at (get_or ring p 0) 0 + 1 ≤ get_or end (get_or ring p 0) 0
  past_within = omega (arith, stands.inside)

  pub past_ascends : Ascends ◌<◌ (part pool (get_or at (get_or ring p 0) 0 + 1) (get_or end (get_or ring p 0) 0))
  past_ascends = ascends_tail (subst (Ascends ◌<◌) run stands.ascends)

  pub past_in : (key : ℕ) → key ∈ part pool (get_or at (get_or ring p 0) 0 + 1) (get_or end (get_or ring p 0) 0) → key ∈ run_of pool at end (get_or ring p 0)
  past_in key m = rw run (tl m)

  -- ---- a seek of target t

  module _ {t q : ℕ} (s : Reached pool (get_or at (get_or ring p 0) 0) (get_or end (get_or ring p 0) 0) t q) where
    pub target_run : from t (run_at (runs_in pool at end ring k) p) ≡ part pool q (get_or end (get_or ring p 0) 0)
    target_run = ap (from t) (ready_at g.ready p g.place) ∙ sym s.rest

    pub target_ascends : Ascends ◌<◌ (part pool q (get_or end (get_or ring p 0) 0))
    target_ascends = subst (Ascends ◌<◌) (sym s.rest) (from_ascends t stands.ascends)

    pub target_in : (key : ℕ) → key ∈ part pool q (get_or end (get_or ring p 0) 0) → key ∈ run_of pool at end (get_or ring p 0)
    target_in key m = in_from t (run_of pool at end (get_or ring p 0)) (subst (λ (r : List ℕ). key ∈ r) s.rest m)
