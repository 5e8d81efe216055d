-- While a leapfrog searches: every run ascends and has a key, their first keys do not fall from place p round, and the place before p has the greatest.
-- Idea: the run of the greatest has no key below it, so the least may be sought there; that passes a key and puts its run last in the ring.
use Prim.Native.Nat.{ℕ, ◌+◌, ◌≤◌, ◌<◌}
use native.Mathlib.Omega.{arith}
use native.Mathlib.Decide.{ℕ_discrete, dec_lt}
use native.Mathlib.Nat.{le_refl}
use mathlib.Core.Path.{◌≡◌, refl, sym, subst, ap, ◌∙◌}
use mathlib.Core.List.{List, [], ◌∷◌}
use lib.Arith.{lt_of_le-ne}
use lib.ListN.{length, set, drop, length-set}
use lib.Seq.{get_or-set_same, get_or-set_other}
use Rattle.relation.specs.Lists.{◌∈◌, hd, Ascends}
use Rattle.relation.specs.Runs.{from}
use Rattle.relation.proofs.Runs.{from_least, from_shorter, head_least}
use Rattle.query.specs.Meet.{meet, total, Runs, Agree}
use Rattle.query.specs.Ring.{Round}
use Rattle.query.proofs.Leap.{total_set, seek_meet, seek_runs, meet_none}
use Rattle.query.proofs.Ring.{Passed, step, turn}
use Rattle.leapfrog.specs.Search.{run_at, first, place_after}
use Rattle.leapfrog.proofs.Steps.{after_round, after_next, after_in, some_cons}

-- the key at a place
abbrev pub first_at : List (List ℕ) → ℕ → ℕ
first_at runs j = first (run_at runs j)

pub record Good (runs : List (List ℕ)) (p most : ℕ) : Type 0 where
  pub ascend : Runs runs
  pub nonempty : (j : ℕ) → j < length runs → run_at runs j ≡ [] → ⊥
  pub round : Round (first_at runs) (length runs) p
  pub last : ℕ
  pub inside : last < length runs
  pub follows : place_after (length runs) last ≡ p
  pub is_most : first_at runs last ≡ most

-- ---- the ends of an ordered ring

module _ {κ : ℕ → ℕ} {k p : ℕ} (r : Round κ k p) where
  least : p < k → (j : ℕ) → j < k → κ p ≤ κ j
  least h j l = go (dec_lt j p)
    where
      go : Dec (j < p) → κ p ≤ κ j
      go (yes b) = r.over p j b (le_refl p) h
      go (no n) = r.up p j (le_refl p) (omega arith) l

  greatest : (z : ℕ) → z < k → place_after k z ≡ p → (j : ℕ) → j < k → κ j ≤ κ z
  greatest z h f j l = turned (ℕ_discrete (z + 1) k)
    where
      go : p ≡ z + 1 → Dec (j < p) → κ j ≤ κ z
      go e (yes b) = r.wrapped j z (omega arith) (omega arith)
      go e (no n) = r.over j z (omega arith) (omega arith) l

      turned : Dec (z + 1 ≡ k) → κ j ≤ κ z
      turned (yes e) = let z0 : p ≡ 0 = sym f ∙ after_round k z e in r.up j z (omega arith) (omega arith) h
      turned (no n) = go (sym f ∙ after_next k z n) (dec_lt j p)

-- a run at a place that is put past all the others
put_round : {κ κ' : ℕ → ℕ} {k p : ℕ} → p < k → Passed κ κ' k p → Round κ k p → Round κ' k (place_after k p)
put_round {κ} {κ'} {k} {p} h m r = go (ℕ_discrete (p + 1) k)
  where
    go : Dec (p + 1 ≡ k) → Round κ' k (place_after k p)
    go (yes e) = rw (after_round k p e) (turn m e r)
    go (no n) = rw (after_next k p n) (step m (omega arith) r)

-- run p put to s, whose keys are not below any other's first: the ring is ordered from the next place
module _ (runs : List (List ℕ)) (p : ℕ) (s : List ℕ) (h : p < length runs) where
  same_at : run_at (set runs p s) p ≡ s
  same_at = get_or-set_same runs p s [] h

  other_at : (j : ℕ) → (j ≡ p → ⊥) → run_at (set runs p s) j ≡ run_at runs j
  other_at j n = get_or-set_other runs p j s [] n

  pub put_good : Runs (set runs p s) → (s ≡ [] → ⊥) → ((j : ℕ) → j < length runs → run_at runs j ≡ [] → ⊥) → ((j : ℕ) → j < length runs → first_at runs j ≤ first s) → Round (first_at runs) (length runs) p → Good (set runs p s) (place_after (length runs) p) (first s)
  put_good a n f m r = record {
    ascend = a;
    nonempty = λ j l. some_at j (omega (arith, length-set runs p s)) (ℕ_discrete j p);
    round = rw (length-set runs p s) (put_round h (record { others = λ j l n. ap first (other_at j n); most = λ j l. rw same_at (m j l) }) r);
    last = p;
    inside = rw (length-set runs p s) h;
    follows = ap (λ (k : ℕ). place_after k p) (length-set runs p s);
    is_most = ap first same_at;
  }
    where
      some_at : (j : ℕ) → j < length runs → Dec (j ≡ p) → run_at (set runs p s) j ≡ [] → ⊥
      some_at j l (yes e) d = n (sym same_at ∙ (ap (run_at (set runs p s)) (sym e) ∙ d))
      some_at j l (no o) d = f j l (sym (other_at j o) ∙ d)

module _ {runs : List (List ℕ)} {p most : ℕ} (g : Good runs p most) where
  pub here : p < length runs
  here = subst (λ (q : ℕ). q < length runs) g.follows (after_in (length runs) g.last g.inside)

  pub filled : 0 < total runs
  filled = omega (arith, total_set runs p [] here, some_length (run_at runs p) (g.nonempty p here))
    where
      some_length : (r : List ℕ) → (r ≡ [] → ⊥) → 0 < length r
      some_length r n = omega (arith, ap length (some_cons r n))

  pub top : (j : ℕ) → j < length runs → first_at runs j ≤ most
  top j l = omega (arith, greatest g.round g.last g.inside g.follows j l, g.is_most)

  pub agreed : first_at runs p ≡ most → Agree runs most
  agreed e j l =
      let i : first_at runs j ≡ most = omega (arith, least g.round here j l, top j l) in
      some_cons (run_at runs j) (g.nonempty j l) ∙ ap (λ (x : ℕ). x ∷ drop 1 (run_at runs j)) i

  -- no common key is below the greatest
  from_most : (y : ℕ) → y ∈ run_at runs g.last → most ≤ y
  from_most y m =
      let e = some_cons (run_at runs g.last) (g.nonempty g.last g.inside) in
      omega (arith, head_least (subst (Ascends ◌<◌) e (g.ascend g.last g.inside)) y (subst (λ (r : List ℕ). y ∈ r) e m), g.is_most)

  module _ (apart : first_at runs p ≡ most → ⊥) where
    sought : List ℕ
    sought = from most (run_at runs p)

    below : first_at runs p < most
    below = lt_of_le-ne (top p here) apart

    pub falls : total (set runs p (from most (run_at runs p))) + 1 ≤ total runs
    falls =
        let e = some_cons (run_at runs p) (g.nonempty p here) in
        omega (arith, total_set runs p (from most (run_at runs p)) here, ap length e, subst (λ (r : List ℕ). length (from most r) ≤ length (drop 1 (run_at runs p))) (sym e) (from_shorter most (first_at runs p) (drop 1 (run_at runs p)) below))

    pub still : meet (set runs p (from most (run_at runs p))) ≡ meet runs
    still = seek_meet runs g.ascend p here most g.last g.inside from_most

    pub ascends : Runs (set runs p (from most (run_at runs p)))
    ascends = seek_runs runs g.ascend p here most

    pub nothing : from most (run_at runs p) ≡ [] → meet runs ≡ []
    nothing e = sym still ∙ meet_none (set runs p (from most (run_at runs p))) p (rw (length-set runs p (from most (run_at runs p))) here) (get_or-set_same runs p (from most (run_at runs p)) [] here ∙ e)

    pub good_on : (from most (run_at runs p) ≡ [] → ⊥) → Good (set runs p (from most (run_at runs p))) (place_after (length runs) p) (first (from most (run_at runs p)))
    good_on n = put_good runs p (from most (run_at runs p)) here ascends n g.nonempty (λ j l. omega (arith, top j l, new)) g.round
      where
        new : most ≤ first (from most (run_at runs p))
        new = from_least most (g.ascend p here) (subst (λ (r : List ℕ). first (from most (run_at runs p)) ∈ r) (sym (some_cons (from most (run_at runs p)) n)) (hd refl))
