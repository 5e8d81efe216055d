-- The pieces of a ring by place: which have a key left, what the goal is, and lists by place where one atom changed.
use mathlib.Core.Path.{◌≡◌, sym, ap, ◌∙◌}
use mathlib.Core.List.{List, [], map}
use Prim.Native.Nat.{ℕ, ◌≤◌, ◌<◌}
use native.Mathlib.Decide.{ℕ_discrete}
use native.Mathlib.Omega.{arith}
use lib.Arith.{lt_of_le-ne}
use lib.ListN.{length, get_or, set, take, length-set, length-map}
use lib.Seq.{get_or-take, get_or-set_same, get_or-set_other, length-take-le, ext_get_or}
use Rattle.relation.specs.Lists.{◌∈◌}
use Rattle.leapfrog.specs.Search.{run_at, first, place_before}
use Rattle.ring_sort.specs.Sorted.{key_at}
use Rattle.ring_sort.proofs.Lists.{nth_in, get_or_map}
use Rattle.leapfrog_search.specs.Ring.{Follows}
use Rattle.leapfrog_search.specs.Leapfrog.{part, runs_in}
use Rattle.leapfrog_search.proofs.Parts.{part_length, part_cons, part_none}
use Rattle.leapfrog_search.proofs.Runs.{runs_length, runs_at}
use Rattle.leapfrog_search.proofs.Defined.{follows_before}
use Rattle.pieces.specs.Halted.{goal_at, Halted}
use Rattle.pieces.proofs.Longer.{goal_one, goal_more, before_other}
use Rattle.stretches.specs.Pause.{Pieces}

module _ {pool at end ring : List ℕ} {k : ℕ} (h : Pieces pool at end ring k) where
  pub enough : k ≤ length ring
  enough = omega (arith, h.few, h.size)

  pub in_ring : (j : ℕ) → j < k → get_or ring j 0 ∈ take k ring
  in_ring j l = nth_in ring k j 0 enough l

  pub many : length (runs_in pool at end ring k) ≡ k
  many = runs_length pool at end ring k enough

  pub run_at_lem : (j : ℕ) → j < k → run_at (runs_in pool at end ring k) j ≡ part pool (get_or at (get_or ring j 0) 0) (get_or end (get_or ring j 0) 0)
  run_at_lem j l = runs_at pool at end ring k enough j l

  pub has_key : (j : ℕ) → j < k → (run_at (runs_in pool at end ring k) j ≡ [] → ⊥) → get_or at (get_or ring j 0) 0 < get_or end (get_or ring j 0) 0
  has_key j l n = lt_of_le-ne (h.within (get_or ring j 0) (in_ring j l)) (λ e. n (run_at_lem j l ∙ part_none pool (get_or at (get_or ring j 0) 0) (get_or end (get_or ring j 0) 0) e))

  key_first : (j : ℕ) → j < k → get_or at (get_or ring j 0) 0 < get_or end (get_or ring j 0) 0 → first (run_at (runs_in pool at end ring k) j) ≡ key_at pool at (get_or ring j 0)
  key_first j l i = ap first (run_at_lem j l ∙ part_cons pool (get_or at (get_or ring j 0) 0) (get_or end (get_or ring j 0) 0) i (h.high (get_or ring j 0) (in_ring j l)))

  module _ {p : ℕ} (z : Halted (runs_in pool at end ring k) p) where
    pub halted_in : p < k
    halted_in = omega (arith, z.place, many)

    pub halted_gone : get_or at (get_or ring p 0) 0 ≡ get_or end (get_or ring p 0) 0
    halted_gone = omega (arith, h.within (get_or ring p 0) (in_ring p halted_in), part_length pool (get_or at (get_or ring p 0) 0) (get_or end (get_or ring p 0) 0) (h.high (get_or ring p 0) (in_ring p halted_in)), ap length (sym (run_at_lem p halted_in) ∙ z.ended))

    pub other_key : (j : ℕ) → j < k → (j ≡ p → ⊥) → get_or at (get_or ring j 0) 0 < get_or end (get_or ring j 0) 0
    other_key j l n = has_key j l (z.nonempty j (omega (arith, many)) n)

    pub other_first : (j : ℕ) → j < k → (j ≡ p → ⊥) → first (run_at (runs_in pool at end ring k) j) ≡ key_at pool at (get_or ring j 0)
    other_first j l n = key_first j l (other_key j l n)

    pub goal_alone : k ≡ 1 → 0 ≡ goal_at (runs_in pool at end ring k) p
    goal_alone e = sym (goal_one (runs_in pool at end ring k) p (many ∙ e))

    -- the place before p
    module _ (n : k ≡ 1 → ⊥) {j : ℕ} (f : Follows k j p) where
      before_differs : j ≡ p → ⊥
      before_differs e = before_other k p f.to n (follows_before f ∙ e)

      pub before_key : get_or at (get_or ring j 0) 0 < get_or end (get_or ring j 0) 0
      before_key = other_key j f.from before_differs

      pub goal_before : key_at pool at (get_or ring j 0) ≡ goal_at (runs_in pool at end ring k) p
      goal_before =
          sym (goal_more (runs_in pool at end ring k) p (λ e. n (sym many ∙ e))
          ∙ (ap (λ (m : ℕ). first (run_at (runs_in pool at end ring k) (place_before m p))) many
          ∙ (ap (λ (q : ℕ). first (run_at (runs_in pool at end ring k) q)) (follows_before f) ∙ other_first j f.from before_differs)))

-- ---- lists by place of the ring

module _ (f : ℕ → List ℕ) (ring : List ℕ) (k : ℕ) (h : k ≤ length ring) where
  pub map_many : length (map f (take k ring)) ≡ k
  map_many = length-map (take k ring) f ∙ length-take-le k ring h

  pub map_at : (j : ℕ) → j < k → run_at (map f (take k ring)) j ≡ f (get_or ring j 0)
  map_at j l = get_or_map f (take k ring) j 0 [] (omega (arith, length-take-le k ring h)) ∙ ap f (get_or-take k ring j 0 l)

-- where f differs at the atom of place p alone
pub map_one : (f g : ℕ → List ℕ) (ring : List ℕ) (k p : ℕ) (v : List ℕ) → k ≤ length ring → p < k → ((i j : ℕ) → i < k → j < k → get_or ring i 0 ≡ get_or ring j 0 → i ≡ j) → g (get_or ring p 0) ≡ v → ((a : ℕ) → (a ≡ get_or ring p 0 → ⊥) → g a ≡ f a) → map g (take k ring) ≡ set (map f (take k ring)) p v
map_one f g ring k p v h l apart e o =
    ext_get_or [] (map g (take k ring)) (set (map f (take k ring)) p v)
    (map_many g ring k h ∙ sym (length-set (map f (take k ring)) p v ∙ map_many f ring k h))
    (λ j i. same j (omega (arith, map_many g ring k h)) (ℕ_discrete j p))
  where
    same : (j : ℕ) → j < k → Dec (j ≡ p) → get_or (map g (take k ring)) j [] ≡ get_or (set (map f (take k ring)) p v) j []
    same j i (yes q) = rw q (map_at g ring k h p l ∙ (e ∙ sym (get_or-set_same (map f (take k ring)) p v [] (let n : p < length (map f (take k ring)) = omega (arith, map_many f ring k h) in n))))
    same j i (no n) = map_at g ring k h j i ∙ (o (get_or ring j 0) (λ q. n (apart j p i l q)) ∙ (sym (map_at f ring k h j i) ∙ sym (get_or-set_other (map f (take k ring)) p j v [] n)))
