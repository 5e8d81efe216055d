-- The calls: a leapfrog over the pieces, and what goes on from its answer.
use mathlib.Core.Path.{◌≡◌, sym, subst, ap, ◌∙◌}
use mathlib.Core.List.{List, [], ◌∷◌, ◌++◌, map}
use Prim.Native.Nat.{ℕ, ◌+◌, ◌*◌, ◌≤◌, ◌<◌}
use native.Mathlib.Nat.{le_refl}
use native.Mathlib.Omega.{arith}
use lib.ListN.{length, get_or, take}
use Rattle.relation.specs.Lists.{◌∈◌, Ascends}
use Rattle.query.specs.Meet.{meet, total}
use Rattle.leapfrog.specs.Search.{Went, run_at, first, search_of, next_of, sorted_runs, init_of, Comes}
use Rattle.leapfrog.proofs.Onward.{next_comes}
use Rattle.ring_sort.specs.Sorted.{key_at}
use Rattle.leapfrog_search.specs.Leapfrog.{part, runs_in, Ordered, Ran}
use Rattle.leapfrog_join.specs.Calls.{Begun}
use Rattle.leapfrog_search.specs.declared.Searched.{Searched}
use Rattle.leapfrog_search.proofs.Parts.{part_cons}
use Rattle.leapfrog_join.proofs.Laws.{agreed_agreeing, same_ready}
use Rattle.leapfrog_join.proofs.Beginning.{some_none_not, sorted_runs_lem, front, begun_same, begun_ordered, begun_runs}
use Rattle.pieces.proofs.Longer.{Extends, next_extends, more_none}
use Rattle.stretches.specs.Stand.{stand_of, tail_of, whole_of, wholes_in}
use Rattle.stretches.specs.declared.State.{State}
use Rattle.stretches.specs.Whole.{WholeReady, WholeAgreed, WholeRan, WholeBegun}
use Rattle.stretches.specs.Pause.{Paused, resumed_of}
use Rattle.stretches.proofs.Pieces.{enough, in_ring}
use Rattle.stretches.proofs.Carrying.{moved_to, carried_on, carried_moved}
use Rattle.stretches.proofs.Pausing.{tails_in, wholes_zip, wholes_ascend, wholes_few, whole_at, wholes_many, ready_held, called_paused, called_same, search_goes, search_tells}

add_none : (n : ℕ) → 0 + n ≡ n
add_none n = omega arith

-- ---- a call over the pieces that does v, where the whole runs' is z

module _ {pool : List ℕ} {s : State} {ends ring : List ℕ} {k : ℕ} (w : WholeReady pool s ends ring k) (z : Went) {at : List ℕ} {v : Went} {r : Searched} (d : Ran pool s.end ring k s.at at v r) (common : List ℕ) (b : Comes 0 (runs_in pool s.at s.end ring k) common v) (t : Extends (tails_in pool s ends ring k) v.stop v z) where
  few : 0 + total (wholes_in pool s ends ring k) ≤ 16 * length pool
  few = omega (arith, wholes_few (ready_held w))

  paused : Paused pool (moved_to s at) ends ring k r
  paused = subst (λ (n : ℕ). Paused pool (moved_to s at) ends ring k (record { landed = r.landed; seeks = n })) (add_none r.seeks) (called_paused w d.moved 0 few common v z r.landed r.seeks b d.same t)

  goes_on : {s' : State} {a : Searched} → WholeRan pool ends ring k (moved_to s at) s' (resumed_of pool (moved_to s at) ends ring k r.landed r.seeks) a → WholeRan pool ends ring k s s' z a
  goes_on e = record {
    same = sym (more_none z) ∙ (called_same w d.moved 0 few common v z r.landed r.seeks b d.same t ∙ (ap (resumed_of pool (moved_to s at) ends ring k r.landed) (add_none r.seeks) ∙ e.same));
    agreed = e.agreed;
    carried = carried_on (carried_moved (ready_held w) d.moved) e.carried;
  }

-- ---- the search

module _ {pool : List ℕ} {s : State} {ends ring : List ℕ} {k : ℕ} (w : WholeReady pool s ends ring k) {q : ℕ} (o : Ordered pool s.at ring k q) (i : q < k) {at : List ℕ} {r : Searched} (d : Ran pool s.end ring k s.at at (search_of (runs_in pool s.at s.end ring k) q) r) where
  pub search_paused : Paused pool (moved_to s at) ends ring k r
  search_paused = paused w (search_of (wholes_in pool s ends ring k) q) d (meet (runs_in pool s.at s.end ring k)) (search_goes w o i) (search_tells w o i)

  pub search_ran : {s' : State} {a : Searched} → WholeRan pool ends ring k (moved_to s at) s' (resumed_of pool (moved_to s at) ends ring k r.landed r.seeks) a → WholeRan pool ends ring k s s' (search_of (wholes_in pool s ends ring k) q) a
  search_ran e = goes_on w (search_of (wholes_in pool s ends ring k) q) d (meet (runs_in pool s.at s.end ring k)) (search_goes w o i) (search_tells w o i) e

-- ---- the step to the next key

module _ {pool : List ℕ} {s : State} {ends ring : List ℕ} {k x p : ℕ} (g : WholeAgreed pool s ends ring k x p) {at : List ℕ} {r : Searched} (d : Ran pool s.end ring k s.at at (next_of (runs_in pool s.at s.end ring k) p) r) where
  agreed_ready : WholeReady pool s ends ring k
  agreed_ready = record { ready = g.agreed.ready; sized = g.sized; tailed = g.tailed }

  next_tells : Extends (tails_in pool s ends ring k) (next_of (runs_in pool s.at s.end ring k) p).stop (next_of (runs_in pool s.at s.end ring k) p) (next_of (wholes_in pool s ends ring k) p)
  next_tells = rw (wholes_zip pool s ends ring k) (next_extends (agreed_agreeing g.agreed) (tails_in pool s ends ring k) (wholes_ascend (ready_held agreed_ready)))

  pub next_paused : Paused pool (moved_to s at) ends ring k r
  next_paused = paused agreed_ready (next_of (wholes_in pool s ends ring k) p) d _ (next_comes (agreed_agreeing g.agreed)) next_tells

  pub next_ran : {s' : State} {a : Searched} → WholeRan pool ends ring k (moved_to s at) s' (resumed_of pool (moved_to s at) ends ring k r.landed r.seeks) a → WholeRan pool ends ring k s s' (next_of (wholes_in pool s ends ring k) p) a
  next_ran e = goes_on agreed_ready (next_of (wholes_in pool s ends ring k) p) d _ (next_comes (agreed_agreeing g.agreed)) next_tells e

-- ---- the beginning

module _ {pool : List ℕ} {s : State} {ends ring : List ℕ} {k : ℕ} (w : WholeReady pool s ends ring k) (asc : Ascends ◌<◌ (take k ring)) where
  abbrev whole : ℕ → List ℕ
  whole a = whole_of pool (stand_of s ends a)

  whole_key : (a : ℕ) → a ∈ take k ring → whole_of pool (stand_of s ends a) ≡ key_at pool s.at a ∷ (part pool (get_or s.at a 0 + 1) (get_or s.end a 0) ++ tail_of pool (stand_of s ends a))
  whole_key a i = ap (λ (r : List ℕ). r ++ tail_of pool (stand_of s ends a)) (part_cons pool (get_or s.at a 0) (get_or s.end a 0) (w.ready.each a i).inside (w.ready.each a i).ends)

  some_key : (j : ℕ) → j < length (wholes_in pool s ends ring k) → run_at (wholes_in pool s ends ring k) j ≡ [] → ⊥
  some_key j l e =
      let h = (ready_held w).pieces in
      let m : j < k = omega (arith, wholes_many pool s ends ring k (enough h)) in
      let z = ap length (sym e ∙ (whole_at pool s ends ring k (enough h) j m ∙ whole_key (get_or ring j 0) (in_ring h j m))) in
      omega arith

  module _ {ring' at : List ℕ} {r : Searched} (b : Begun pool s.end k ring ring' s.at at r) where
    sorted_ready : WholeReady pool s ends ring' k
    sorted_ready =
        let a = begun_same w.ready asc b.order in
        record { ready = same_ready a w.ready; sized = w.sized; tailed = λ c i. w.tailed c (a.back c i) }

    sorted_ran : Ran pool s.end ring' k s.at at (search_of (runs_in pool s.at s.end ring' k) 0) r
    sorted_ran = record { same = sym (begun_runs w.ready asc b.order) ∙ b.ran.same; moved = b.ran.moved }

    -- the whole runs of the sorted ring are the sorted whole runs
    pub whole_begins : init_of (wholes_in pool s ends ring k) ≡ search_of (wholes_in pool s ends ring' k) 0
    unfolding init_of wholes_in
    whole_begins =
        simp (some_none_not (wholes_in pool s ends ring k) some_key)
        (ap (λ (rs : List (List ℕ)). search_of rs 0)
        (ap (sorted_runs (map whole (take k ring))) (wholes_many pool s ends ring k (enough (ready_held w).pieces))
        ∙ (sym (sorted_runs_lem whole (key_at pool s.at) ring k k (λ a m. ap first (whole_key a m)) (le_refl k) (enough (ready_held w).pieces))
        ∙ ap (map whole) (sym (front (key_at pool s.at) ring ring' k (enough (ready_held w).pieces) b.order)))))

    pub init_paused : Paused pool (moved_to s at) ends ring' k r
    init_paused = search_paused sorted_ready (begun_ordered w.ready asc b.order) w.ready.positive sorted_ran

    pub init_begun : {s' : State} {a : Searched} → WholeRan pool ends ring' k (moved_to s at) s' (resumed_of pool (moved_to s at) ends ring' k r.landed r.seeks) a → WholeBegun pool ends k ring ring' s s' a
    init_begun e =
        let f = search_ran sorted_ready (begun_ordered w.ready asc b.order) w.ready.positive sorted_ran e in
        record { order = b.order; ran = record { same = whole_begins ∙ f.same; agreed = f.agreed; carried = f.carried } }
