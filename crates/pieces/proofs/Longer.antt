-- A leapfrog over pieces tells what the same leapfrog over whole runs does: it finds the same key with the same seeks; where the piece at its place has ended, the whole run goes on from what lies behind
-- the piece, sought to the greatest key. Idea: the two searches take the same steps as long as each piece has a key from the greatest on.
use Prim.Native.Nat.{ℕ, zero, suc, ◌+◌, ◌≤◌, ◌<◌}
use native.Mathlib.Omega.{arith}
use native.Mathlib.Decide.{ℕ_discrete}
use mathlib.Core.Path.{◌≡◌, refl, sym, subst, ap, ◌∙◌}
use mathlib.Core.Bool.{Bool}
use mathlib.Core.List.Memᴰ
use mathlib.Core.List.{List, [], ◌∷◌, ◌++◌}
use lib.ListN.{length, get_or, set, drop, length-set}
use lib.Seq.{get_or-set_same, get_or-set_other}
use borrow.Author.Tests.{eq-eqb, ne_eqb, le-ltb}
use Rattle.relation.specs.Order.{pick}
use Rattle.relation.specs.Lists.{◌∈◌, hd, not_in_nil, Ascends, anone, amore}
use Rattle.relation.specs.Runs.{from}
use Rattle.relation.proofs.Lists.{ascends_head, ascends_tail}
use Rattle.query.specs.Meet.{total, Runs}
use Rattle.query.specs.Ring.{Round}
use Rattle.leapfrog.specs.Search.{Stop, on, out, Went, run_at, first, place_after, place_before, more, stopped, search_from, search_of, go_on, next_of}
use Rattle.leapfrog.proofs.Steps.{step_found, step_out, step_on, after_round, after_next, before_after, before_in, after_before, none_is, none_not, cons_some}
use Rattle.leapfrog.proofs.Good.{first_at, Good, put_good}
use Rattle.leapfrog.proofs.Good as good
use Rattle.leapfrog.proofs.Search.{any_fuel, dec_nil, Ring, ring_good}
use Rattle.leapfrog.proofs.Onward.{Agreeing, keys, agreeing_round, on_ring}
use Rattle.leapfrog_search.proofs.Defined.{round_same}
use Rattle.pieces.specs.Halted.{goal_at, Halted}
use Rattle.pieces.proofs.Zip.{zipped, zipped_length, zipped_at, zipped_set, set_twice, from_behind, from_before, first_before, some_before, drop_before}

-- ---- one step as `goOn` says it

-- a run put twice
go_twice : (rs : List (List ℕ)) (p : ℕ) (r s : List ℕ) → go_on (set rs p r) p s ≡ go_on rs p s
unfolding go_on
go_twice rs p r s = rw (set_twice rs p r s, length-set rs p r) refl

pub go_out : (rs : List (List ℕ)) (p : ℕ) (s : List ℕ) → s ≡ [] → go_on rs p s ≡ stopped (set rs p s) p out
unfolding go_on
go_out rs p s e = simp (none_is s e)

pub go_some : (rs : List (List ℕ)) (p : ℕ) (s : List ℕ) → (s ≡ [] → ⊥) → go_on rs p s ≡ search_of (set rs p s) (place_after (length rs) p)
unfolding go_on
go_some rs p s n = simp (none_not s n)

module _ {zs : List (List ℕ)} {p most : ℕ} (g : Good zs p most) (apart : first_at zs p ≡ most → ⊥) where
  -- the search goes on from the run's first key not below the greatest
  step_go : (f : ℕ) → total zs ≤ suc f → search_from (suc f) zs p most ≡ more 1 (go_on zs p (from most (run_at zs p)))
  unfolding search_of
  step_go f h = go (dec_nil (from most (run_at zs p)))
    where
      go : Dec (from most (run_at zs p) ≡ []) → search_from (suc f) zs p most ≡ more 1 (go_on zs p (from most (run_at zs p)))
      go (yes e) = step_out f zs p most apart e ∙ ap (more 1) (sym (go_out zs p (from most (run_at zs p)) e))
      go (no n) =
          let s : List ℕ = from most (run_at zs p) in
          let k : length (set zs p s) ≡ length zs = length-set zs p s in
          let b : place_before (length (set zs p s)) (place_after (length zs) p) ≡ p = ap (λ (m : ℕ). place_before m (place_after (length zs) p)) k ∙ before_after (length zs) p (good.here g) in
          let m : first s ≡ first_at (set zs p s) (place_before (length (set zs p s)) (place_after (length zs) p)) = sym (ap (first_at (set zs p s)) b ∙ ap first (get_or-set_same zs p s [] (good.here g))) in
          step_on f zs p most apart n
          ∙ ap (more 1)
          (any_fuel f (total (set zs p s)) (omega (arith, good.falls g apart)) (omega arith) (good.good_on g apart n)
          ∙ (ap (search_from (total (set zs p s)) (set zs p s) (place_after (length zs) p)) m
          ∙ sym (go_some zs p s n)))

-- ---- the piece at p has ended

put_ascend : (rs : List (List ℕ)) (p : ℕ) (s : List ℕ) → p < length rs → Runs rs → Ascends ◌<◌ s → Runs (set rs p s)
put_ascend rs p s h a b i l = go (ℕ_discrete i p)
  where
    go : Dec (i ≡ p) → Ascends ◌<◌ (get_or (set rs p s) i [])
    go (yes e) = rw (e, get_or-set_same rs p s [] h) b
    go (no n) = rw (get_or-set_other rs p i s [] n) (a i (omega (arith, length-set rs p s)))

one_key : (y : ℕ) → Ascends ◌<◌ (y ∷ [])
one_key y = amore (λ q m. absurd (not_in_nil m)) anone

pub goal_one : (rs : List (List ℕ)) (p : ℕ) → length rs ≡ 1 → goal_at rs p ≡ 0
goal_one rs p e = simp (eq-eqb (length rs) 1 e)

pub goal_more : (rs : List (List ℕ)) (p : ℕ) → (length rs ≡ 1 → ⊥) → goal_at rs p ≡ first_at rs (place_before (length rs) p)
goal_more rs p n = simp (ne_eqb (length rs) 1 n)

-- another place stands before p, where there is one
pub before_other : (k p : ℕ) → p < k → (k ≡ 1 → ⊥) → place_before k p ≡ p → ⊥
before_other k p h n e = n (go (ℕ_discrete (p + 1) k))
  where
    go : Dec (p + 1 ≡ k) → k ≡ 1
    go (yes q) = let z = sym (after_round k p q) ∙ (ap (place_after k) (sym e) ∙ after_before k p h) in omega arith
    go (no m) = let z = sym (after_next k p m) ∙ (ap (place_after k) (sym e) ∙ after_before k p h) in absurd (omega arith)

module _ (ps : List (List ℕ)) (p : ℕ) (h : p < length ps) (asc : Runs ps) (some : (j : ℕ) → j < length ps → run_at ps j ≡ [] → ⊥) (s : List ℕ) (e : s ≡ []) where
  size : length (set ps p s) ≡ length ps
  size = length-set ps p s

  other : (j : ℕ) → (j ≡ p → ⊥) → run_at (set ps p s) j ≡ run_at ps j
  other j n = get_or-set_other ps p j s [] n

  -- the goal is the key at the place before
  goal_is : (length ps ≡ 1 → ⊥) → goal_at (set ps p s) p ≡ first_at ps (place_before (length ps) p)
  goal_is n =
      goal_more (set ps p s) p (λ i. n (sym size ∙ i))
      ∙ (ap (λ (m : ℕ). first_at (set ps p s) (place_before m p)) size
      ∙ ap first (other (place_before (length ps) p) (before_other (length ps) p h n)))

  halted : ((y : ℕ) → goal_at (set ps p s) p ≤ y → Round (λ (j : ℕ). first (run_at (set ps p (y ∷ [])) j)) (length ps) (place_after (length ps) p)) → Halted (set ps p s) p
  halted f = record {
    place = rw size h;
    ended = get_or-set_same ps p s [] h ∙ e;
    ascend = put_ascend ps p s h asc (subst (Ascends ◌<◌) (sym e) anone);
    nonempty = λ j l n i. some j (omega (arith, size)) (sym (other j n) ∙ i);
    round = λ y l. rw (size, set_twice ps p s (y ∷ [])) (f y l);
  }

  -- every other key is at most y
  put_most : (y : ℕ) → ((j : ℕ) → j < length ps → first_at ps j ≤ y) → Round (first_at ps) (length ps) p → Round (λ (j : ℕ). first (run_at (set ps p (y ∷ [])) j)) (length ps) (place_after (length ps) p)
  put_most y m r =
      subst (λ (n : ℕ). Round (λ (j : ℕ). first (run_at (set ps p (y ∷ [])) j)) n (place_after (length ps) p)) (length-set ps p (y ∷ []))
      (put_good ps p (y ∷ []) h (put_ascend ps p (y ∷ []) h asc (one_key y)) (λ i. let z = ap length i in omega arith) some m r).round

-- by a seek of the greatest key
module _ {ps : List (List ℕ)} {p most : ℕ} (g : Good ps p most) (apart : first_at ps p ≡ most → ⊥) (e : from most (run_at ps p) ≡ []) where
  several : length ps ≡ 1 → ⊥
  several n =
      let a : g.last ≡ p = omega (arith, good.here g, g.inside) in
      apart (ap (first_at ps) (sym a) ∙ g.is_most)

  seek_goal : goal_at (set ps p (from most (run_at ps p))) p ≡ most
  seek_goal =
      goal_is ps p (good.here g) g.ascend g.nonempty (from most (run_at ps p)) e several
      ∙ (ap (λ (q : ℕ). first_at ps (place_before (length ps) q)) (sym g.follows)
      ∙ (ap (first_at ps) (before_after (length ps) g.last g.inside) ∙ g.is_most))

  seek_halted : Halted (set ps p (from most (run_at ps p))) p
  seek_halted =
      halted ps p (good.here g) g.ascend g.nonempty (from most (run_at ps p)) e
      (λ y l. put_most ps p (good.here g) g.ascend g.nonempty (from most (run_at ps p)) e y (λ j m. omega (arith, good.top g j m, seek_goal)) g.round)

-- ---- the search

abbrev pub Extends : List (List ℕ) → Stop → Went → Went → Type 0
Extends ts (on x) w z = z ≡ record { runs = zipped w.runs ts; place = w.place; stop = on x; seeks = w.seeks }
Extends ts out w z = Halted w.runs w.place × (z ≡ more w.seeks (go_on (zipped w.runs ts) w.place (from (goal_at w.runs w.place) (run_at ts w.place))))

pub more_more : (a b : ℕ) (w : Went) → more a (more b w) ≡ more (a + b) w
more_more a b w = ap (λ (n : ℕ). record { runs = w.runs; place = w.place; stop = w.stop; seeks = n }) (sum w.seeks)
  where
    sum : (n : ℕ) → a + (b + n) ≡ (a + b) + n
    sum n = omega arith

module _ (ts : List (List ℕ)) where
  extends_more : (n : ℕ) (s : Stop) (w z : Went) → Extends ts s w z → Extends ts s (more n w) (more n z)
  extends_more n (on x) w z e = ap (more n) e
  extends_more n out w z (h, e) = (h, ap (more n) e ∙ more_more n w.seeks _)

  -- while its pieces have keys a whole ring is as good
  whole_first : (ps : List (List ℕ)) → ((j : ℕ) → j < length ps → run_at ps j ≡ [] → ⊥) → (j : ℕ) → j < length ps → first_at (zipped ps ts) j ≡ first_at ps j
  whole_first ps f j l = ap first (zipped_at ps ts j l) ∙ first_before (run_at ps j) (run_at ts j) (f j l)

  whole_some : (ps : List (List ℕ)) → ((j : ℕ) → j < length ps → run_at ps j ≡ [] → ⊥) → (j : ℕ) → j < length (zipped ps ts) → run_at (zipped ps ts) j ≡ [] → ⊥
  whole_some ps f j l e =
      let m : j < length ps = omega (arith, zipped_length ps ts) in
      some_before (run_at ps j) (run_at ts j) (f j m) (sym (zipped_at ps ts j m) ∙ e)

  whole_good : {ps : List (List ℕ)} {p most : ℕ} → Good ps p most → Runs (zipped ps ts) → Good (zipped ps ts) p most
  whole_good {ps} {p} {most} g a = record {
    ascend = a;
    nonempty = whole_some ps g.nonempty;
    round = rw (zipped_length ps ts) (round_same (good.here g) (whole_first ps g.nonempty) g.round);
    last = g.last;
    inside = rw (zipped_length ps ts) g.inside;
    follows = ap (λ (k : ℕ). place_after k g.last) (zipped_length ps ts) ∙ g.follows;
    is_most = whole_first ps g.nonempty g.last g.inside ∙ g.is_most;
  }

  abbrev Hyp : ℕ → Type 0
  Hyp f = (f' : ℕ) (ps : List (List ℕ)) (p most : ℕ) → total ps ≤ f → total (zipped ps ts) ≤ f' → Good ps p most → Runs (zipped ps ts) → Extends ts (search_from f ps p most).stop (search_from f ps p most) (search_from f' (zipped ps ts) p most)

  module _ {ps : List (List ℕ)} {p most : ℕ} (g : Good ps p most) (a : Runs (zipped ps ts)) (apart : first_at ps p ≡ most → ⊥) where
    apart' : first_at (zipped ps ts) p ≡ most → ⊥
    apart' e = apart (sym (whole_first ps g.nonempty p (good.here g)) ∙ e)

    run' : from most (run_at (zipped ps ts) p) ≡ from most (run_at ps p ++ run_at ts p)
    run' = ap (from most) (zipped_at ps ts p (good.here g))

    -- the piece has ended
    out_step : (f f' : ℕ) → total (zipped ps ts) ≤ suc f' → from most (run_at ps p) ≡ [] → Extends ts (search_from (suc f) ps p most).stop (search_from (suc f) ps p most) (search_from (suc f') (zipped ps ts) p most)
    out_step f f' h e =
        rw (step_out f ps p most apart e) (
          seek_halted g apart e,
          step_go (whole_good g a) apart' f' h
              ∙ ap (more 1)
              (ap (go_on (zipped ps ts) p) (run' ∙ (from_behind most (run_at ps p) (run_at ts p) e ∙ ap (λ (t : ℕ). from t (run_at ts p)) (sym (seek_goal g apart e))))
              ∙ (sym (go_twice (zipped ps ts) p (from most (run_at ps p) ++ run_at ts p) _) ∙ ap (λ (zs : List (List ℕ)). go_on zs p (from (goal_at (set ps p (from most (run_at ps p))) p) (run_at ts p))) (sym (zipped_set ps ts p (from most (run_at ps p)))))),
        )

    -- it has a key: both go on
    on_step : (f f' : ℕ) → Hyp f → total ps ≤ suc f → total (zipped ps ts) ≤ suc f' → (from most (run_at ps p) ≡ [] → ⊥) → Extends ts (search_from (suc f) ps p most).stop (search_from (suc f) ps p most) (search_from (suc f') (zipped ps ts) p most)
    on_step f f' ih h h' n =
        rw (step_on f ps p most apart n, step_on f' (zipped ps ts) p most apart' n')
        (extends_more 1 (search_from f ps' q m).stop (search_from f ps' q m) _
        (rw (runs', ← zipped_set ps ts p s, zipped_length ps ts, first_before s (run_at ts p) n)
        (ih f' ps' q m (omega (arith, good.falls g apart)) (rw (zipped_set ps ts p s, ← runs') (omega (arith, good.falls (whole_good g a) apart'))) (good.good_on g apart n) (rw (zipped_set ps ts p s, ← runs') (good.ascends (whole_good g a) apart')))))
      where
        s : List ℕ
        s = from most (run_at ps p)

        ps' : List (List ℕ)
        ps' = set ps p (from most (run_at ps p))

        q : ℕ
        q = place_after (length ps) p

        m : ℕ
        m = first (from most (run_at ps p))

        runs' : from most (run_at (zipped ps ts) p) ≡ from most (run_at ps p) ++ run_at ts p
        runs' = run' ∙ from_before most (run_at ps p) (run_at ts p) n

        n' : from most (run_at (zipped ps ts) p) ≡ [] → ⊥
        n' e = some_before (from most (run_at ps p)) (run_at ts p) n (sym runs' ∙ e)

  search_extends : (f f' : ℕ) {ps : List (List ℕ)} {p most : ℕ} → total ps ≤ f → total (zipped ps ts) ≤ f' → Good ps p most → Runs (zipped ps ts) → Extends ts (search_from f ps p most).stop (search_from f ps p most) (search_from f' (zipped ps ts) p most)
  search_extends zero f' h h' g a = absurd (omega (arith, good.filled g))
  search_extends (suc f) zero h h' g a = absurd (omega (arith, good.filled (whole_good g a)))
  search_extends (suc f) (suc f') {ps} {p} {most} h h' g a = go (λ f' ps p most i j b c. search_extends f f' i j b c) (ℕ_discrete (first_at ps p) most)
    where
      sought' : Hyp f → (first_at ps p ≡ most → ⊥) → Dec (from most (run_at ps p) ≡ []) → Extends ts (search_from (suc f) ps p most).stop (search_from (suc f) ps p most) (search_from (suc f') (zipped ps ts) p most)
      sought' ih n (yes e) = out_step g a n f f' h' e
      sought' ih n (no e) = on_step g a n f f' ih h h' e

      go : Hyp f → Dec (first_at ps p ≡ most) → Extends ts (search_from (suc f) ps p most).stop (search_from (suc f) ps p most) (search_from (suc f') (zipped ps ts) p most)
      go ih (yes e) = rw (step_found f ps p most e, step_found f' (zipped ps ts) p most (whole_first ps g.nonempty p (good.here g) ∙ e)) refl
      go ih (no n) = sought' ih n (dec_nil (from most (run_at ps p)))

  pub ring_extends : {ps : List (List ℕ)} {p : ℕ} → Ring ps p → Runs (zipped ps ts) → Extends ts (search_of ps p).stop (search_of ps p) (search_of (zipped ps ts) p)
  unfolding search_of
  ring_extends {ps} {p} r a =
      rw (zipped_length ps ts, whole_first ps r.nonempty (place_before (length ps) p) (before_in (length ps) p r.place))
      (search_extends (total ps) (total (zipped ps ts)) (omega arith) (omega arith) (ring_good r) a)

-- ---- the step past a key on which all stand

from_all : (t : ℕ) (xs : List ℕ) → ((y : ℕ) → y ∈ xs → t ≤ y) → from t xs ≡ xs
unfolding from
from_all t [] f = refl
from_all t (x ∷ xs) f = ap (λ (b : Bool). pick b (from t xs) (x ∷ xs)) (le-ltb x t (f x (hd refl)))

round_one : (κ : ℕ → ℕ) → Round κ 1 0
round_one κ = record {
  up = λ i j a b c. let e : i ≡ j = omega arith in rw e (omega arith);
  wrapped = λ i j a b. absurd (omega arith);
  over = λ i j a b c. absurd (omega arith);
}

pub more_none : (w : Went) → more 0 w ≡ w
more_none w = ap (λ (n : ℕ). record { runs = w.runs; place = w.place; stop = w.stop; seeks = n }) (nothing w.seeks)
  where
    nothing : (n : ℕ) → 0 + n ≡ n
    nothing n = omega arith

module _ {ps : List (List ℕ)} {x p : ℕ} (g : Agreeing ps x p) where
  all_some : (j : ℕ) → j < length ps → run_at ps j ≡ [] → ⊥
  all_some j l = cons_some (run_at ps j) (g.agree j l)

  module _ (s : List ℕ) (e : s ≡ []) where
    past_goal : goal_at (set ps p s) p ≤ x
    past_goal = go (ℕ_discrete (length ps) 1)
      where
        go : Dec (length ps ≡ 1) → goal_at (set ps p s) p ≤ x
        go (yes n) = omega (arith, goal_one (set ps p s) p (length-set ps p s ∙ n))
        go (no n) = omega (arith, goal_is ps p g.place g.ascend all_some s e n, keys g (place_before (length ps) p) (before_in (length ps) p g.place))

    past_halted : Halted (set ps p s) p
    past_halted = halted ps p g.place g.ascend all_some s e (λ y l. go y l (ℕ_discrete (length ps) 1))
      where
        go : (y : ℕ) → goal_at (set ps p s) p ≤ y → Dec (length ps ≡ 1) → Round (λ (j : ℕ). first (run_at (set ps p (y ∷ [])) j)) (length ps) (place_after (length ps) p)
        go y l (yes n) =
            let z : p + 1 ≡ length ps = omega (arith, g.place) in
            rw (after_round (length ps) p z, n) (round_one (λ (j : ℕ). first (run_at (set ps p (y ∷ [])) j)))
        go y l (no n) =
            put_most ps p g.place g.ascend all_some s e y
            (λ j m. omega (arith, keys g j m, goal_is ps p g.place g.ascend all_some s e n, keys g (place_before (length ps) p) (before_in (length ps) p g.place)))
            (agreeing_round g)

  module _ (ts : List (List ℕ)) (a : Runs (zipped ps ts)) where
    past_run : drop 1 (run_at (zipped ps ts) p) ≡ drop 1 (run_at ps p) ++ run_at ts p
    past_run = ap (drop 1) (zipped_at ps ts p g.place) ∙ drop_before (run_at ps p) (run_at ts p) (all_some p g.place)

    whole_cons : run_at (zipped ps ts) p ≡ x ∷ (drop 1 (run_at ps p) ++ run_at ts p)
    whole_cons = zipped_at ps ts p g.place ∙ ap (λ (r : List ℕ). r ++ run_at ts p) (g.agree p g.place)

    whole_ascends : Ascends ◌<◌ (x ∷ (drop 1 (run_at ps p) ++ run_at ts p))
    whole_ascends = subst (Ascends ◌<◌) whole_cons (a p (rw (zipped_length ps ts) g.place))

    next_goes : next_of (zipped ps ts) p ≡ go_on (zipped ps ts) p (drop 1 (run_at ps p) ++ run_at ts p)
    unfolding next_of
    next_goes = ap (go_on (zipped ps ts) p) past_run

    next_out : drop 1 (run_at ps p) ≡ [] → Extends ts (next_of ps p).stop (next_of ps p) (next_of (zipped ps ts) p)
    unfolding next_of
    next_out e =
        rw (go_out ps p (drop 1 (run_at ps p)) e) (
          past_halted (drop 1 (run_at ps p)) e,
          next_goes
              ∙ (ap (go_on (zipped ps ts) p) (ap (λ (r : List ℕ). r ++ run_at ts p) e ∙ sym (from_all (goal_at (set ps p (drop 1 (run_at ps p))) p) (run_at ts p) above))
              ∙ (sym (go_twice (zipped ps ts) p (drop 1 (run_at ps p) ++ run_at ts p) (from (goal_at (set ps p (drop 1 (run_at ps p))) p) (run_at ts p)))
              ∙ (ap (λ (zs : List (List ℕ)). go_on zs p (from (goal_at (set ps p (drop 1 (run_at ps p))) p) (run_at ts p))) (sym (zipped_set ps ts p (drop 1 (run_at ps p))))
              ∙ sym (more_none _)))),
        )
      where
        above : (y : ℕ) → y ∈ run_at ts p → goal_at (set ps p (drop 1 (run_at ps p))) p ≤ y
        above y m = omega (arith, past_goal (drop 1 (run_at ps p)) e, ascends_head whole_ascends y (Memᴰ.append_right (drop 1 (run_at ps p)) m))

    next_on : (drop 1 (run_at ps p) ≡ [] → ⊥) → Extends ts (next_of ps p).stop (next_of ps p) (next_of (zipped ps ts) p)
    unfolding next_of
    next_on n =
        rw (go_some ps p s n, past_run, go_some (zipped ps ts) p (s ++ run_at ts p) (some_before s (run_at ts p) n), ← zipped_set ps ts p s, zipped_length ps ts)
        (ring_extends ts (on_ring g 1 refl n) (rw (zipped_set ps ts p s) (put_ascend (zipped ps ts) p (s ++ run_at ts p) (rw (zipped_length ps ts) g.place) a (ascends_tail whole_ascends))))
      where
        s : List ℕ
        s = drop 1 (run_at ps p)

    pub next_extends : Extends ts (next_of ps p).stop (next_of ps p) (next_of (zipped ps ts) p)
    next_extends = go (dec_nil (drop 1 (run_at ps p)))
      where
        go : Dec (drop 1 (run_at ps p) ≡ []) → Extends ts (next_of ps p).stop (next_of ps p) (next_of (zipped ps ts) p)
        go (yes e) = next_out e
        go (no n) = next_on n
