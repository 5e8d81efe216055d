-- What a leapfrog over the pieces tells of the whole runs, and how the search goes on from an atom's next piece.
-- Idea: the whole runs are the pieces with their tails (crates/pieces); a call over the pieces leaves the tails as they are.
use mathlib.Core.Path.{◌≡◌, refl, sym, subst, ap, ap₂, ◌∙◌}
use mathlib.Core.Bool.{Bool, true, false, false≢true}
use mathlib.Core.Logic.{inr}
use mathlib.Core.List.{List, [], ◌∷◌, ◌++◌, map}
use Prim.Native.Nat.{ℕ, ◌+◌, ◌-◌, ◌*◌, ◌≤◌, ◌<◌}
use native.Mathlib.Decide.{ℕ_discrete}
use native.Mathlib.Nat.{mul-le-mul_right}
use native.Mathlib.Omega.{arith}
use lib.ListN.{length, get_or, set, take, length-set, length-append, length-drop}
use lib.Seq.{get_or-set_same, get_or-set_other, ext_get_or}
use borrow.Author.Tests.{eq-eqb, ne_eqb}
use Rattle.relation.specs.Order.{pick}
use Rattle.relation.specs.Lists.{◌∈◌, hd, not_in_nil, Ascends, anone}
use Rattle.relation.specs.Runs.{from}
use Rattle.relation.proofs.Runs.{from_least}
use Rattle.query.specs.Meet.{total, meet, Runs}
use Rattle.query.specs.Ring.{Round}
use Rattle.query.proofs.Leap.{total_set}
use Rattle.overlay.proofs.Merge.{merge_few}
use Rattle.overlay.proofs.Stretch.{split}
use Rattle.leapfrog.specs.Search.{Went, out, run_at, first, place_after, more, stopped, search_of, go_on, Comes}
use Rattle.leapfrog.proofs.Steps.{cons_some}
use Rattle.leapfrog.proofs.Search.{from_end, ring_comes}
use Rattle.ring_sort.specs.Sorted.{key_at}
use Rattle.leapfrog_search.specs.Ring.{Follows}
use Rattle.leapfrog_search.specs.Leapfrog.{part, runs_in, Ordered, Moved, answered, Ran}
use Rattle.leapfrog_search.specs.declared.Landed.{Landed}
use Rattle.leapfrog_search.specs.declared.Landed.TheVariants.{Key, Nothing}
use Rattle.leapfrog_search.specs.declared.Searched.{Searched}
use Rattle.leapfrog_search.proofs.Parts.{part_length, part_cons, part_none}
use Rattle.leapfrog_search.proofs.Runs.{atom_place}
use Rattle.leapfrog_search.proofs.Defined.{follows_after, round_same, few, left_agreed, ready_ring}
use Rattle.pieces.specs.Halted.{goal_at, Halted}
use Rattle.pieces.proofs.Zip.{zipped, zipped_total, zipped_map}
use Rattle.pieces.proofs.Longer.{Extends, ring_extends, go_out, go_some, more_more}
use Rattle.two_runs.specs.Runs as two
use Rattle.stretches.specs.Stand.{Stand, stand_of, rest_of, tail_of, whole_of, wholes_in, Sized, Laid}
use Rattle.stretches.specs.declared.State.{State}
use Rattle.stretches.specs.Whole.{WholeReady, Carried, WholeRan}
use Rattle.stretches.specs.Pause.{emptied, Taken, Takes, some, none, Held, Stops, Paused, resumed_of, Lookable, Settled}
use Rattle.stretches.proofs.Pieces.{enough, in_ring, many, halted_in, halted_gone, other_key, other_first, map_many, map_at, map_one}
use Rattle.stretches.proofs.Carrying.{moved_to, carried_none, carried_on, carried_moved, held_moved, placed_other, emptied_other, carried_one}

-- ---- the tails, and the whole runs as pieces with their tails

pub tails_in : List ℕ → State → List ℕ → List ℕ → ℕ → List (List ℕ)
tails_in pool s ends ring k = map (λ (a : ℕ). tail_of pool (stand_of s ends a)) (take k ring)

module _ (pool : List ℕ) (s : State) (ends ring : List ℕ) (k : ℕ) where
  pub wholes_zip : wholes_in pool s ends ring k ≡ zipped (runs_in pool s.at s.end ring k) (tails_in pool s ends ring k)
  unfolding wholes_in runs_in tails_in
  wholes_zip = zipped_map (λ (a : ℕ). part pool (get_or s.at a 0) (get_or s.end a 0)) (λ (a : ℕ). tail_of pool (stand_of s ends a)) (take k ring)

  module _ (h : k ≤ length ring) where
    pub tails_many : length (tails_in pool s ends ring k) ≡ k
    unfolding tails_in
    tails_many = map_many (λ (a : ℕ). tail_of pool (stand_of s ends a)) ring k h

    pub tail_at : (j : ℕ) → j < k → run_at (tails_in pool s ends ring k) j ≡ tail_of pool (stand_of s ends (get_or ring j 0))
    unfolding tails_in
    tail_at j l = map_at (λ (a : ℕ). tail_of pool (stand_of s ends a)) ring k h j l

    pub wholes_many : length (wholes_in pool s ends ring k) ≡ k
    unfolding wholes_in
    wholes_many = map_many (λ (a : ℕ). whole_of pool (stand_of s ends a)) ring k h

    pub whole_at : (j : ℕ) → j < k → run_at (wholes_in pool s ends ring k) j ≡ whole_of pool (stand_of s ends (get_or ring j 0))
    unfolding wholes_in
    whole_at j l = map_at (λ (a : ℕ). whole_of pool (stand_of s ends a)) ring k h j l

-- a place moved forward leaves the tails
moved_tails : (pool : List ℕ) (s : State) (ends ring : List ℕ) (k : ℕ) (at : List ℕ) → tails_in pool (moved_to s at) ends ring k ≡ tails_in pool s ends ring k
unfolding tails_in
moved_tails pool s ends ring k at = refl

module _ {pool : List ℕ} {s : State} {ends ring : List ℕ} {k : ℕ} (h : Held pool s ends ring k) where
  pub wholes_total : total (wholes_in pool s ends ring k) ≡ total (runs_in pool s.at s.end ring k) + total (tails_in pool s ends ring k)
  wholes_total = ap total (wholes_zip pool s ends ring k) ∙ zipped_total (runs_in pool s.at s.end ring k) (tails_in pool s ends ring k) (tails_many pool s ends ring k (enough h.pieces) ∙ sym (many h.pieces))

  pub wholes_ascend : Runs (zipped (runs_in pool s.at s.end ring k) (tails_in pool s ends ring k))
  wholes_ascend = subst Runs (wholes_zip pool s ends ring k) up
    where
      up : Runs (wholes_in pool s ends ring k)
      up i l =
          let m : i < k = omega (arith, wholes_many pool s ends ring k (enough h.pieces)) in
          rw (whole_at pool s ends ring k (enough h.pieces) i m) (h.tailed (get_or ring i 0) (in_ring h.pieces i m)).ascends

  -- how many keys there may be
  tail_few : (a : ℕ) → a ∈ take k ring → length (whole_of pool (stand_of s ends a)) ≤ 2 * length pool
  tail_few a i = go (ℕ_discrete (get_or s.left a 0) 0)
    where
      piece : length (part pool (get_or s.at a 0) (get_or s.end a 0)) ≡ get_or s.end a 0 - get_or s.at a 0
      piece = part_length pool (get_or s.at a 0) (get_or s.end a 0) (h.pieces.high a i)

      both : length (whole_of pool (stand_of s ends a)) ≡ length (part pool (get_or s.at a 0) (get_or s.end a 0)) + length (tail_of pool (stand_of s ends a))
      both = length-append (part pool (get_or s.at a 0) (get_or s.end a 0)) (tail_of pool (stand_of s ends a))

      go : Dec (get_or s.left a 0 ≡ 0) → length (whole_of pool (stand_of s ends a)) ≤ 2 * length pool
      go (yes e) =
          let t : length (tail_of pool (stand_of s ends a)) ≡ 0 = ap (λ (b : Bool). length (pick b [] (two.run_of pool (rest_of (stand_of s ends a))))) (eq-eqb (get_or s.left a 0) 0 e) in
          omega (arith, both, piece, h.pieces.high a i)
      go (no n) =
          let b = ((h.tailed a i).behind n).inside in
          let r = rest_of (stand_of s ends a) in
          let t : length (tail_of pool (stand_of s ends a)) ≡ length (two.run_of pool (rest_of (stand_of s ends a))) = ap (λ (b : Bool). length (pick b [] (two.run_of pool (rest_of (stand_of s ends a))))) (ne_eqb (get_or s.left a 0) 0 n) in
          omega (arith, both, piece, t, merge_few (part pool r.x r.e) (part pool r.y r.f), part_length pool r.x r.e b.high, part_length pool r.y r.f b.high₂, b.low, b.high, b.high₂, h.pieces.within a i)

  pub wholes_few : total (wholes_in pool s ends ring k) ≤ 16 * length pool
  wholes_few = omega (arith, few (wholes_in pool s ends ring k) (2 * length pool) short, mul-le-mul_right {m = length (wholes_in pool s ends ring k)} {n = 8} (2 * length pool) (omega (arith, wholes_many pool s ends ring k (enough h.pieces), h.pieces.few)))
    where
      short : (i : ℕ) → i < length (wholes_in pool s ends ring k) → length (run_at (wholes_in pool s ends ring k) i) ≤ 2 * length pool
      short i l =
          let m : i < k = omega (arith, wholes_many pool s ends ring k (enough h.pieces)) in
          rw (whole_at pool s ends ring k (enough h.pieces) i m) (tail_few (get_or ring i 0) (in_ring h.pieces i m))

-- a ring that is ready is held
pub ready_held : {pool : List ℕ} {s : State} {ends ring : List ℕ} {k : ℕ} → WholeReady pool s ends ring k → Held pool s ends ring k
ready_held w =
    let r = w.ready in
    record {
      pieces = record { positive = r.positive; few = r.few; size = r.size; apart = r.apart; atoms = λ a i. (r.each a i).atom; within = λ a i. let o = (r.each a i).inside in omega arith; high = λ a i. (r.each a i).ends };
      sized = w.sized;
      tailed = w.tailed;
    }

-- ---- a call over the pieces

module _ {pool : List ℕ} {s : State} {ends ring : List ℕ} {k : ℕ} (w : WholeReady pool s ends ring k) {at : List ℕ} (m : Moved s.end ring k s.at at) (n : ℕ) (few : n + total (wholes_in pool s ends ring k) ≤ 16 * length pool) where
  h : Held pool s ends ring k
  h = ready_held w

  wholes' : wholes_in pool (moved_to s at) ends ring k ≡ zipped (runs_in pool at s.end ring k) (tails_in pool s ends ring k)
  wholes' = wholes_zip pool (moved_to s at) ends ring k ∙ ap (zipped (runs_in pool at s.end ring k)) (moved_tails pool s ends ring k at)

  count' : (common : List ℕ) (v : Went) (c : ℕ) → Comes 0 (runs_in pool s.at s.end ring k) common v → v.runs ≡ runs_in pool at s.end ring k → v.seeks ≡ c → (n + c) + total (wholes_in pool (moved_to s at) ends ring k) ≤ 16 * length pool
  count' common v c b e f =
      omega (arith, few, wholes_total h, wholes_total (held_moved h m), b.bound, ap total e, f, ap total (moved_tails pool s ends ring k at))

  -- where the call answered d with c seeks
  pub called_paused : (common : List ℕ) (v z : Went) (d : Landed) (c : ℕ) → Comes 0 (runs_in pool s.at s.end ring k) common v → v ≡ answered (runs_in pool at s.end ring k) d c → Extends (tails_in pool s ends ring k) v.stop v z → Paused pool (moved_to s at) ends ring k (record { landed = d; seeks = n + c })
  called_paused common v z (Key x p) c b e t =
      let i = subst (Comes 0 (runs_in pool s.at s.end ring k) common) e b in
      record { held = held_moved h m; stops = left_agreed w.ready m (omega (arith, i.inside, many h.pieces)) i.ascend i.ended; count = count' common v c b (ap (λ (u : Went). u.runs) e) (ap (λ (u : Went). u.seeks) e) }
  called_paused common v z (Nothing p) c b e t =
      record { held = held_moved h m; stops = (subst (λ (u : Went). Extends (tails_in pool s ends ring k) u.stop u z) e t).0; count = count' common v c b (ap (λ (u : Went). u.runs) e) (ap (λ (u : Went). u.seeks) e) }

  pub called_same : (common : List ℕ) (v z : Went) (d : Landed) (c : ℕ) → Comes 0 (runs_in pool s.at s.end ring k) common v → v ≡ answered (runs_in pool at s.end ring k) d c → Extends (tails_in pool s ends ring k) v.stop v z → more n z ≡ resumed_of pool (moved_to s at) ends ring k d (n + c)
  called_same common v z (Key x p) c b e t = ap (more n) (subst (λ (u : Went). Extends (tails_in pool s ends ring k) u.stop u z) e t) ∙ ap (λ (rs : List (List ℕ)). answered rs (Key x p) (n + c)) (sym wholes')
  called_same common v z (Nothing p) c b e t =
      let i = subst (Comes 0 (runs_in pool s.at s.end ring k) common) e b in
      let g = goal_at (runs_in pool at s.end ring k) p in
      ap (more n) (subst (λ (u : Went). Extends (tails_in pool s ends ring k) u.stop u z) e t).1
      ∙ (more_more n c _
      ∙ ap (more (n + c)) (ap₂ {C = Went} (λ (rs : List (List ℕ)) (r : List ℕ). go_on rs p (from g r)) (sym wholes') (tail_at pool s ends ring k (enough h.pieces) p (omega (arith, i.inside, many h.pieces)))))

-- ---- the piece at p has ended, and nothing comes

-- the same list
set_same : (rs : List (List ℕ)) (p : ℕ) (r : List ℕ) → run_at rs p ≡ r → p < length rs → set rs p r ≡ rs
set_same rs p r e l =
    ext_get_or [] (set rs p r) rs (length-set rs p r) (λ j i. go j (ℕ_discrete j p))
  where
    go : (j : ℕ) → Dec (j ≡ p) → get_or (set rs p r) j [] ≡ get_or rs j []
    go j (yes q) = rw q (get_or-set_same rs p r [] l ∙ sym e)
    go j (no n) = get_or-set_other rs p j r [] n

module _ {pool : List ℕ} {s : State} {ends ring : List ℕ} {k : ℕ} (h : Held pool s ends ring k) {p : ℕ} (z : Halted (runs_in pool s.at s.end ring k) p) where
  abbrev b : ℕ
  b = get_or ring p 0

  abbrev goal : ℕ
  goal = goal_at (runs_in pool s.at s.end ring k) p

  pub here : b ∈ take k ring
  here = in_ring h.pieces p (halted_in h.pieces z)

  place : p < length (wholes_in pool s ends ring k)
  place = omega (arith, wholes_many pool s ends ring k (enough h.pieces), halted_in h.pieces z)

  piece_none : part pool (get_or s.at b 0) (get_or s.end b 0) ≡ []
  piece_none = part_none pool (get_or s.at b 0) (get_or s.end b 0) (halted_gone h.pieces z)

  whole_tail : run_at (wholes_in pool s ends ring k) p ≡ tail_of pool (stand_of s ends b)
  whole_tail = whole_at pool s ends ring k (enough h.pieces) p (halted_in h.pieces z) ∙ ap (λ (r : List ℕ). r ++ tail_of pool (stand_of s ends b)) piece_none

  tail_ascends : Ascends ◌<◌ (tail_of pool (stand_of s ends b))
  tail_ascends = (split (part pool (get_or s.at b 0) (get_or s.end b 0)) (h.tailed b here).ascends).1

  -- a last piece
  pub ended_last : get_or s.left b 0 ≡ 0 → (n : ℕ) → resumed_of pool s ends ring k (Nothing p) n ≡ answered (wholes_in pool s ends ring k) (Nothing p) n
  unfolding from
  ended_last e n =
      ap (more n) (ap (λ (r : List ℕ). go_on (wholes_in pool s ends ring k) p (from goal r)) none ∙ (go_out (wholes_in pool s ends ring k) p [] refl ∙ ap (λ (rs : List (List ℕ)). stopped rs p out) (set_same (wholes_in pool s ends ring k) p [] (whole_tail ∙ none) place)))
      ∙ ap (answered (wholes_in pool s ends ring k) (Nothing p)) (add n)
    where
      none : tail_of pool (stand_of s ends b) ≡ []
      none = ap (λ (d : Bool). pick d [] (two.run_of pool (rest_of (stand_of s ends b)))) (eq-eqb (get_or s.left b 0) 0 e)

      add : (n : ℕ) → n + 0 ≡ n
      add n = omega arith

  module _ (more_left : get_or s.left b 0 ≡ 0 → ⊥) where
    -- no key behind it from the goal on: the run is ended
    module _ (e : from goal (tail_of pool (stand_of s ends b)) ≡ []) {s' : State} (q : s' ≡ emptied s b) where
      zero_left : get_or (set s.left b 0) b 0 ≡ 0
      zero_left = get_or-set_same s.left b 0 0 (let l : b < length s.left = omega (arith, h.pieces.atoms b here, h.sized.lefts) in l)

      emptied_whole : whole_of pool (stand_of (emptied s b) ends b) ≡ []
      emptied_whole = ap₂ {C = List ℕ} (λ (x y : List ℕ). x ++ y) piece_none (ap (λ (d : Bool). pick d [] (two.run_of pool (rest_of (stand_of (emptied s b) ends b)))) (eq-eqb (get_or (set s.left b 0) b 0) 0 zero_left))

      emptied_carried : Carried pool ends ring k s (emptied s b)
      emptied_carried =
          carried_one h here more_left
          (record { places = h.sized.places; piece_ends = h.sized.piece_ends; owners = h.sized.owners; lefts = length-set s.left b 0 ∙ h.sized.lefts; run_ends = h.sized.run_ends })
          (λ a n. emptied_other s ends b a n)
          (h.pieces.within b here)
          (record { behind = λ n. absurd (n zero_left); ascends = rw emptied_whole anone })
          (λ lo school l. record {
            side = l.side;
            low = l.low;
            low₂ = omega (arith, l.low₂, zero_left);
            high = l.high;
            keys = λ y i. inr (λ x m. absurd (not_in_nil (subst (λ (r : List ℕ). x ∈ r) emptied_whole m)));
          })

      emptied_wholes : wholes_in pool (emptied s b) ends ring k ≡ set (wholes_in pool s ends ring k) p []
      unfolding wholes_in
      emptied_wholes = map_one (λ (a : ℕ). whole_of pool (stand_of s ends a)) (λ (a : ℕ). whole_of pool (stand_of (emptied s b) ends a)) ring k p [] (enough h.pieces) (halted_in h.pieces z) h.pieces.apart emptied_whole (λ a n. ap (whole_of pool) (emptied_other s ends b a n))

      pub ended_carried : Carried pool ends ring k s s'
      ended_carried = subst (Carried pool ends ring k s) (sym q) emptied_carried

      pub ended_none : (n : ℕ) → resumed_of pool s ends ring k (Nothing p) n ≡ answered (wholes_in pool s' ends ring k) (Nothing p) n
      ended_none n =
          ap (more n) (ap (go_on (wholes_in pool s ends ring k) p) e ∙ (go_out (wholes_in pool s ends ring k) p [] refl ∙ ap (λ (rs : List (List ℕ)). stopped rs p out) (sym (ap (λ (d : State). wholes_in pool d ends ring k) q ∙ emptied_wholes))))
          ∙ ap (answered (wholes_in pool s' ends ring k) (Nothing p)) (add n)
        where
          add : (n : ℕ) → n + 0 ≡ n
          add n = omega arith

    -- ---- it stands on its next piece

    module _ {s' : State} (t : Taken pool ends b (from goal (tail_of pool (stand_of s ends b))) (λ (lo : ℕ → ℕ) (school : List ℕ). Laid pool lo school (stand_of s ends b)) s s') where
      other : (a : ℕ) → (a ≡ b → ⊥) → stand_of s' ends a ≡ stand_of s ends a
      other a n = ap (λ (d : State). stand_of d ends a) t.is ∙ placed_other s ends b t.x t.m t.o t.l a n

      at' : get_or s'.at b 0 ≡ t.x
      at' = ap (λ (d : State). get_or d.at b 0) t.is ∙ get_or-set_same s.at b t.x 0 (let l : b < length s.at = omega (arith, h.pieces.atoms b here, h.sized.places) in l)

      end' : get_or s'.end b 0 ≡ t.m
      end' = ap (λ (d : State). get_or d.end b 0) t.is ∙ get_or-set_same s.end b t.m 0 (let l : b < length s.end = omega (arith, h.pieces.atoms b here, h.sized.piece_ends) in l)

      sized' : Sized s' ends
      sized' =
          subst (λ (d : State). Sized d ends) (sym t.is)
          (record {
            places = length-set s.at b t.x ∙ h.sized.places;
            piece_ends = length-set s.end b t.m ∙ h.sized.piece_ends;
            owners = length-set s.own b t.o ∙ h.sized.owners;
            lefts = length-set s.left b t.l ∙ h.sized.lefts;
            run_ends = h.sized.run_ends;
          })

      pub taken_carried : Carried pool ends ring k s s'
      taken_carried = carried_one h here more_left sized' other (let l = t.some in omega (arith, at', end')) t.tailed t.laid

      -- its first key
      piece' : part pool (get_or s'.at b 0) (get_or s'.end b 0) ≡ get_or pool t.x 0 ∷ part pool (t.x + 1) t.m
      piece' = ap₂ {C = List ℕ} (part pool) at' end' ∙ part_cons pool t.x t.m t.some t.high

      comes : from goal (tail_of pool (stand_of s ends b)) ≡ get_or pool t.x 0 ∷ (part pool (t.x + 1) t.m ++ tail_of pool (stand_of s' ends b))
      comes = sym t.whole ∙ ap (λ (r : List ℕ). r ++ tail_of pool (stand_of s' ends b)) piece'

      above : goal ≤ get_or pool t.x 0
      above = from_least goal tail_ascends (subst (λ (r : List ℕ). get_or pool t.x 0 ∈ r) (sym comes) (hd refl))

      pub taken_ready : WholeReady pool s' ends ring k
      taken_ready = record {
        ready = record {
          positive = h.pieces.positive;
          few = h.pieces.few;
          size = h.pieces.size;
          places = sized'.places;
          apart = h.pieces.apart;
          each = λ a i. record {
            atom = h.pieces.atoms a i;
            inside = inside a i (ℕ_discrete a b);
            ends = high a i (ℕ_discrete a b);
            ascends = (split (part pool (get_or s'.at a 0) (get_or s'.end a 0)) (taken_carried.tailed a i).ascends).0;
          };
        };
        sized = sized';
        tailed = taken_carried.tailed;
      }
        where
          inside : (a : ℕ) → a ∈ take k ring → Dec (a ≡ b) → get_or s'.at a 0 < get_or s'.end a 0
          inside a i (yes e) = rw (e, at', end') t.some
          inside a i (no n) =
              let j = atom_place pool s.at s.end ring k (enough h.pieces) i in
              subst (λ (d : Stand). d.at < d.end) (sym (other a n)) (subst (λ (c : ℕ). get_or s.at c 0 < get_or s.end c 0) j.2 (other_key h.pieces z j.0 j.1 (λ q. n (sym j.2 ∙ ap (λ (i : ℕ). get_or ring i 0) q))))

          high : (a : ℕ) → a ∈ take k ring → Dec (a ≡ b) → get_or s'.end a 0 ≤ length pool
          high a i (yes e) = rw (e, end') t.high
          high a i (no n) = subst (λ (d : Stand). d.end ≤ length pool) (sym (other a n)) (h.pieces.high a i)

      pub taken_ordered : {q : ℕ} → Follows k p q → Ordered pool s'.at ring k q
      taken_ordered {q} f = round_same f.to key (subst (λ (m : ℕ). Round (λ (j : ℕ). first (run_at (set (runs_in pool s.at s.end ring k) p (get_or pool t.x 0 ∷ [])) j)) k m) (follows_after f) (subst (λ (m : ℕ). Round (λ (j : ℕ). first (run_at (set (runs_in pool s.at s.end ring k) p (get_or pool t.x 0 ∷ [])) j)) m (place_after m p)) (many h.pieces) (z.round (get_or pool t.x 0) above)))
        where
          key : (j : ℕ) → j < k → key_at pool s'.at (get_or ring j 0) ≡ first (run_at (set (runs_in pool s.at s.end ring k) p (get_or pool t.x 0 ∷ [])) j)
          key j l = go (ℕ_discrete j p)
            where
              go : Dec (j ≡ p) → key_at pool s'.at (get_or ring j 0) ≡ first (run_at (set (runs_in pool s.at s.end ring k) p (get_or pool t.x 0 ∷ [])) j)
              go (yes e) = rw (e, get_or-set_same (runs_in pool s.at s.end ring k) p (get_or pool t.x 0 ∷ []) [] z.place) (ap (λ (i : ℕ). get_or pool i 0) at')
              go (no n) =
                  ap (λ (d : Stand). get_or pool d.at 0) (other (get_or ring j 0) (λ e. n (h.pieces.apart j p l (halted_in h.pieces z) e)))
                  ∙ (sym (other_first h.pieces z j l n) ∙ ap first (sym (get_or-set_other (runs_in pool s.at s.end ring k) p j (get_or pool t.x 0 ∷ []) [] n)))

      wholes'-set : wholes_in pool s' ends ring k ≡ set (wholes_in pool s ends ring k) p (from goal (tail_of pool (stand_of s ends b)))
      unfolding wholes_in
      wholes'-set = map_one (λ (a : ℕ). whole_of pool (stand_of s ends a)) (λ (a : ℕ). whole_of pool (stand_of s' ends a)) ring k p (from goal (tail_of pool (stand_of s ends b))) (enough h.pieces) (halted_in h.pieces z) h.pieces.apart t.whole (λ a n. ap (whole_of pool) (other a n))

      tails'-set : tails_in pool s' ends ring k ≡ set (tails_in pool s ends ring k) p (tail_of pool (stand_of s' ends b))
      unfolding tails_in
      tails'-set = map_one (λ (a : ℕ). tail_of pool (stand_of s ends a)) (λ (a : ℕ). tail_of pool (stand_of s' ends a)) ring k p (tail_of pool (stand_of s' ends b)) (enough h.pieces) (halted_in h.pieces z) h.pieces.apart refl (λ a n. ap (tail_of pool) (other a n))

      from_few : length (from goal (tail_of pool (stand_of s ends b))) ≤ length (tail_of pool (stand_of s ends b))
      from_few = let d = from_end goal (tail_of pool (stand_of s ends b)) in omega (arith, ap length d.1, length-drop d.0 (tail_of pool (stand_of s ends b)))

      -- the whole runs have no more keys, and the tails fewer
      pub taken_fewer : total (wholes_in pool s' ends ring k) ≤ total (wholes_in pool s ends ring k)
      taken_fewer = omega (arith, ap total wholes'-set, total_set (wholes_in pool s ends ring k) p (from goal (tail_of pool (stand_of s ends b))) place, from_few, ap length whole_tail)

      pub taken_less : total (tails_in pool s' ends ring k) < total (tails_in pool s ends ring k)
      taken_less =
          let l : p < length (tails_in pool s ends ring k) = omega (arith, tails_many pool s ends ring k (enough h.pieces), halted_in h.pieces z) in
          omega (arith, ap total tails'-set, total_set (tails_in pool s ends ring k) p (tail_of pool (stand_of s' ends b)) l, ap length (tail_at pool s ends ring k (enough h.pieces) p (halted_in h.pieces z)), from_few, ap length comes, length-append (part pool (t.x + 1) t.m) (tail_of pool (stand_of s' ends b)))

      pub taken_same : {q : ℕ} → Follows k p q → (n : ℕ) → resumed_of pool s ends ring k (Nothing p) n ≡ more n (search_of (wholes_in pool s' ends ring k) q)
      taken_same {q} f n =
          ap (more n)
          (go_some (wholes_in pool s ends ring k) p (from goal (tail_of pool (stand_of s ends b))) (cons_some (from goal (tail_of pool (stand_of s ends b))) comes)
          ∙ ap₂ {C = Went} search_of (sym wholes'-set) (ap (λ (m : ℕ). place_after m p) (wholes_many pool s ends ring k (enough h.pieces)) ∙ follows_after f))

-- ---- while the code goes on

pub record Looping (pool : List ℕ) (s₀ s : State) (ends ring : List ℕ) (k : ℕ) (d₀ : Landed) (n₀ : ℕ) (d : Landed) (n : ℕ) : Type 0 where
  pub paused : Paused pool s ends ring k (record { landed = d; seeks = n })
  pub carried : Carried pool ends ring k s₀ s
  pub same : resumed_of pool s₀ ends ring k d₀ n₀ ≡ resumed_of pool s ends ring k d n

pub looping_first : {pool : List ℕ} {s : State} {ends ring : List ℕ} {k : ℕ} {r : Searched} → Paused pool s ends ring k r → Looping pool s s ends ring k r.landed r.seeks r.landed r.seeks
looping_first p = record { paused = p; carried = carried_none p.held; same = refl }

-- a search over the pieces of a ring, and over the whole runs
module _ {pool : List ℕ} {s : State} {ends ring : List ℕ} {k : ℕ} (w : WholeReady pool s ends ring k) {q : ℕ} (o : Ordered pool s.at ring k q) (i : q < k) where
  pub search_goes : Comes 0 (runs_in pool s.at s.end ring k) (meet (runs_in pool s.at s.end ring k)) (search_of (runs_in pool s.at s.end ring k) q)
  search_goes = ring_comes (ready_ring w.ready o i)

  pub search_tells : Extends (tails_in pool s ends ring k) (search_of (runs_in pool s.at s.end ring k) q).stop (search_of (runs_in pool s.at s.end ring k) q) (search_of (wholes_in pool s ends ring k) q)
  search_tells = rw (wholes_zip pool s ends ring k) (ring_extends (tails_in pool s ends ring k) (ready_ring w.ready o i) (wholes_ascend (ready_held w)))

module _ {pool : List ℕ} {s₀ s : State} {ends ring : List ℕ} {k : ℕ} {d₀ : Landed} {n₀ : ℕ} {d : Landed} {n : ℕ} (l : Looping pool s₀ s ends ring k d₀ n₀ d n) where
  -- a key is found
  pub loop_key : {x p : ℕ} → d ≡ Key x p → WholeRan pool ends ring k s₀ s (resumed_of pool s₀ ends ring k d₀ n₀) (record { landed = d; seeks = n })
  loop_key {x} {p} e = subst (λ (d : Landed). Looping pool s₀ s ends ring k d₀ n₀ d n → WholeRan pool ends ring k s₀ s (resumed_of pool s₀ ends ring k d₀ n₀) (record { landed = d; seeks = n })) (sym e) (λ l. record { same = l.same; agreed = l.paused.stops; carried = l.carried }) l

  module _ {p : ℕ} (e : d ≡ Nothing p) where
    pub loop_halted : Halted (runs_in pool s.at s.end ring k) p
    loop_halted = subst (Stops pool s ring k) e l.paused.stops

    resumes : resumed_of pool s₀ ends ring k d₀ n₀ ≡ resumed_of pool s ends ring k (Nothing p) n
    resumes = l.same ∙ ap (λ (d : Landed). resumed_of pool s ends ring k d n) e

    ran : {s' : State} → Carried pool ends ring k s₀ s' → resumed_of pool s₀ ends ring k d₀ n₀ ≡ answered (wholes_in pool s' ends ring k) (Nothing p) n → WholeRan pool ends ring k s₀ s' (resumed_of pool s₀ ends ring k d₀ n₀) (record { landed = Nothing p; seeks = n })
    ran c f = record { same = f; agreed = tt; carried = c }

    -- its last piece has ended
    pub loop_last : get_or s.left (get_or ring p 0) 0 ≡ 0 → WholeRan pool ends ring k s₀ s (resumed_of pool s₀ ends ring k d₀ n₀) (record { landed = Nothing p; seeks = n })
    loop_last z = ran l.carried (resumes ∙ ended_last l.paused.held loop_halted z n)

    module _ (more_left : get_or s.left (get_or ring p 0) 0 ≡ 0 → ⊥) {t : ℕ} (g : t ≡ goal_at (runs_in pool s.at s.end ring k) p) {s' : State} {b : Bool} (f : Takes pool ends (get_or ring p 0) (from t (tail_of pool (stand_of s ends (get_or ring p 0)))) (λ (lo : ℕ → ℕ) (school : List ℕ). Laid pool lo school (stand_of s ends (get_or ring p 0))) s s' b) where
      -- no key comes behind it
      pub loop_none : b ≡ false → WholeRan pool ends ring k s₀ s' (resumed_of pool s₀ ends ring k d₀ n₀) (record { landed = Nothing p; seeks = n })
      loop_none z = go f z
        where
          go : {b : Bool} → Takes pool ends (get_or ring p 0) (from t (tail_of pool (stand_of s ends (get_or ring p 0)))) (λ (lo : ℕ → ℕ) (school : List ℕ). Laid pool lo school (stand_of s ends (get_or ring p 0))) s s' b → b ≡ false → WholeRan pool ends ring k s₀ s' (resumed_of pool s₀ ends ring k d₀ n₀) (record { landed = Nothing p; seeks = n })
          go (some x) z = absurd (false≢true (sym z))
          go (none x q) z =
              let y = ap (λ (m : ℕ). from m (tail_of pool (stand_of s ends (get_or ring p 0)))) (sym g) ∙ x in
              ran (carried_on l.carried (ended_carried l.paused.held loop_halted more_left y q)) (resumes ∙ ended_none l.paused.held loop_halted more_left y q n)

      -- its next piece is taken
      module _ (z : b ≡ true) where
        pub loop_taken : Taken pool ends (get_or ring p 0) (from (goal_at (runs_in pool s.at s.end ring k) p) (tail_of pool (stand_of s ends (get_or ring p 0)))) (λ (lo : ℕ → ℕ) (school : List ℕ). Laid pool lo school (stand_of s ends (get_or ring p 0))) s s'
        loop_taken = subst (λ (m : ℕ). Taken pool ends (get_or ring p 0) (from m (tail_of pool (stand_of s ends (get_or ring p 0)))) (λ (lo : ℕ → ℕ) (school : List ℕ). Laid pool lo school (stand_of s ends (get_or ring p 0))) s s') g (go f z)
          where
            go : {b : Bool} → Takes pool ends (get_or ring p 0) (from t (tail_of pool (stand_of s ends (get_or ring p 0)))) (λ (lo : ℕ → ℕ) (school : List ℕ). Laid pool lo school (stand_of s ends (get_or ring p 0))) s s' b → b ≡ true → Taken pool ends (get_or ring p 0) (from t (tail_of pool (stand_of s ends (get_or ring p 0)))) (λ (lo : ℕ → ℕ) (school : List ℕ). Laid pool lo school (stand_of s ends (get_or ring p 0))) s s'
            go (some x) z = x
            go (none x q) z = absurd (false≢true z)

        pub loop_ready : WholeReady pool s' ends ring k
        loop_ready = taken_ready l.paused.held loop_halted more_left loop_taken

        loop_falls : total (tails_in pool s' ends ring k) < total (tails_in pool s ends ring k)
        loop_falls = taken_less l.paused.held loop_halted more_left loop_taken

        pub loop_less : (at : List ℕ) → total (tails_in pool (moved_to s' at) ends ring k) < total (tails_in pool s ends ring k)
        loop_less at = rw (moved_tails pool s' ends ring k at) loop_falls

        module _ {q : ℕ} (u : Follows k p q) where
          pub loop_ordered : Ordered pool s'.at ring k q
          loop_ordered = taken_ordered l.paused.held loop_halted more_left loop_taken u

          count : n + total (wholes_in pool s' ends ring k) ≤ 16 * length pool
          count = omega (arith, l.paused.count, taken_fewer l.paused.held loop_halted more_left loop_taken)

          pub loop_again : {at : List ℕ} {r : Searched} → Ran pool s'.end ring k s'.at at (search_of (runs_in pool s'.at s'.end ring k) q) r → Looping pool s₀ (moved_to s' at) ends ring k d₀ n₀ r.landed (n + r.seeks)
          loop_again {at} {r} v = record {
            paused = called_paused loop_ready v.moved n count _ _ (search_of (wholes_in pool s' ends ring k) q) r.landed r.seeks (search_goes loop_ready loop_ordered u.to) v.same (search_tells loop_ready loop_ordered u.to);
            carried = carried_on l.carried (carried_on (taken_carried l.paused.held loop_halted more_left loop_taken) (carried_moved (ready_held loop_ready) v.moved));
            same =
                resumes
                ∙ (taken_same l.paused.held loop_halted more_left loop_taken u n
                ∙ called_same loop_ready v.moved n count _ _ (search_of (wholes_in pool s' ends ring k) q) r.landed r.seeks (search_goes loop_ready loop_ordered u.to) v.same (search_tells loop_ready loop_ordered u.to));
          }

-- ---- a leapfrog over the pieces that has ended over the whole runs too

module _ {pool : List ℕ} {s : State} {ends ring : List ℕ} {k : ℕ} where
  pub paused_lookable : {r : Searched} → Paused pool s ends ring k r → Lookable ring r.landed
  paused_lookable {r} p = go r.landed p.stops
    where
      go : (d : Landed) → Stops pool s ring k d → Lookable ring d
      go (Key x q) z = tt
      go (Nothing q) z = (omega (arith, halted_in p.held.pieces z, p.held.pieces.few), p.held.pieces.atoms (get_or ring q 0) (here p.held z))

  pub settled_ran : {r : Searched} → Paused pool s ends ring k r → Settled s.left ring r.landed → WholeRan pool ends ring k s s (resumed_of pool s ends ring k r.landed r.seeks) r
  settled_ran {r} p z = go r.landed r.seeks p z
    where
      go : (d : Landed) (n : ℕ) → Paused pool s ends ring k (record { landed = d; seeks = n }) → Settled s.left ring d → WholeRan pool ends ring k s s (resumed_of pool s ends ring k d n) (record { landed = d; seeks = n })
      go (Key x q) n y z = loop_key (looping_first y) refl
      go (Nothing q) n y z = loop_last (looping_first y) refl z
