-- Two runs as one: its end, what is left of it where both are cut, and which of the two comes first. Idea: the merge's laws over the parts of the pool.
use mathlib.Core.Path.{◌≡◌, sym, ap, ap₂, ◌∙◌}
use mathlib.Core.Logic.{⊎_elim}
use mathlib.Core.List.{List, []}
use Prim.Native.Nat.{ℕ, suc, ◌+◌, ◌≤◌, ◌<◌}
use native.Mathlib.Nat.{eq-or-lt_of_le}
use native.Mathlib.Omega.{arith}
use lib.ListN.{length, get_or}
use Rattle.relation.specs.Lists.{Ascends}
use Rattle.relation.specs.Runs.{from}
use Rattle.relation.proofs.Runs.{from_drop, from_ascends}
use Rattle.overlay.specs.Merge.{merge}
use Rattle.overlay.proofs.Merge.{merge_swap, merge_from}
use Rattle.overlay.proofs.Cutting.{from_past}
use Rattle.leapfrog_search.specs.Leapfrog.{part, Reached}
use Rattle.leapfrog_search.proofs.Parts.{part_length, part_at, part_cons, part_none}
use Rattle.two_runs.specs.Runs.{turned_of, run_of, Inside, Led, InOrder, Stays}
use Rattle.two_runs.specs.declared.Runs.{Runs}

-- ---- in the other sequence

pub turned_inside : {pool : List ℕ} {r : Runs} → Inside pool r → Inside pool (turned_of r)
turned_inside i = record { low = i.low₂; high = i.high₂; ascends = i.ascends₂; low₂ = i.low; high₂ = i.high; ascends₂ = i.ascends; side = omega arith }

-- ---- the end

module _ {pool : List ℕ} {r : Runs} (l : Led pool r) where
  -- where the first is spent, both are
  pub none_left : r.x ≡ r.e → run_of pool r ≡ []
  unfolding merge
  none_left e =
      ⊎_elim
      (λ (g : r.y ≡ r.f). ap₂ {C = List ℕ} merge (part_none pool r.x r.e e) (part_none pool r.y r.f g))
      (λ (g : r.y < r.f). absurd (omega (arith, l.some g)))
      (eq-or-lt_of_le {n = r.y} {m = r.f} l.inside.low₂)

-- ---- a run cut at a target

module _ (pool : List ℕ) (x e t : ℕ) (l : e ≤ length pool) where
  -- it stays: no key is below the target
  pub reached_here : x ≤ e → (x < e → t ≤ get_or pool x 0) → Reached pool x e t x
  reached_here h g = record {
    forward = omega arith;
    within = h;
    rest =
        let z : x + 0 ≡ x = omega arith in
        sym (from_drop t (part pool x e) 0 (omega arith) (λ i k. absurd (omega arith))
        (λ k. let b : x < e = omega (arith, part_length pool x e l) in omega (arith, g b, part_at pool x e 0 (omega arith), ap (λ (n : ℕ). get_or pool n 0) z)));
  }

  -- it steps: the target is the number after its key
  pub reached_next : x < e → Ascends ◌<◌ (part pool x e) → t ≡ get_or pool x 0 + 1 → {q : ℕ} → q ≡ x + 1 → Reached pool x e t q
  reached_next h s k {q} n = record {
    forward = omega arith;
    within = omega arith;
    rest =
        let z : t ≡ suc (get_or pool x 0) = omega (arith, k) in
        ap (λ (i : ℕ). part pool i e) n ∙ sym (ap₂ {C = List ℕ} from z (part_cons pool x e h l) ∙ from_past (rw (part_cons pool x e h l) at s));
  }

-- ---- both cut

module _ {pool : List ℕ} {t : ℕ} {r s : Runs} (i : Inside pool r) (c : Stays pool t r s) where
  cut_first : part pool s.x s.e ≡ from t (part pool r.x r.e)
  cut_first = ap (part pool s.x) c.end ∙ c.reached.rest

  cut_second : part pool s.y s.f ≡ from t (part pool r.y r.f)
  cut_second = ap (part pool s.y) c.end₂ ∙ c.reached₂.rest

  pub stays_inside : Inside pool s
  stays_inside = record {
    low = omega (arith, c.end, c.reached.within);
    high = omega (arith, c.end, i.high);
    ascends = rw cut_first (from_ascends t i.ascends);
    low₂ = omega (arith, c.end₂, c.reached₂.within);
    high₂ = omega (arith, c.end₂, i.high₂);
    ascends₂ = rw cut_second (from_ascends t i.ascends₂);
    side = omega (arith, c.side, i.side);
  }

  pub stays_run : run_of pool s ≡ from t (run_of pool r)
  stays_run = ap₂ {C = List ℕ} merge cut_first cut_second ∙ merge_from t i.ascends i.ascends₂

-- put in order, they are the same keys
pub order_run : {pool : List ℕ} {r s : Runs} → Inside pool r → InOrder pool r s → run_of pool s ≡ run_of pool r
order_run {pool} {r} i o = ⊎_elim (λ (e : _ ≡ r). ap (run_of pool) e) (λ (e : _ ≡ turned_of r). ap (run_of pool) e ∙ merge_swap i.ascends i.ascends₂) o.same

-- ---- the test

module _ {pool : List ℕ} {r : Runs} (i : Inside pool r) where
  -- one run
  pub led_alone : r.y ≡ r.f → Led pool r
  led_alone e = record { inside = i; some = λ h. absurd (omega arith); least = λ h. absurd (omega arith); tie = λ h q. absurd (omega arith) }

  pub led_other : r.x ≡ r.e → Led pool (turned_of r)
  led_other e = record { inside = turned_inside i; some = λ h. absurd (omega arith); least = λ h. absurd (omega arith); tie = λ h q. absurd (omega arith) }

  module _ (h : (r.x ≡ r.e → ⊥)) (g : (r.y ≡ r.f → ⊥)) where
    pub led_same : get_or pool r.x 0 ≡ get_or pool r.y 0 → r.own ≡ 0 → Led pool r
    led_same e o = record { inside = i; some = λ k. omega (arith, i.low); least = λ k. omega arith; tie = λ k q. o }

    pub led_same_other : get_or pool r.x 0 ≡ get_or pool r.y 0 → r.own ≡ 1 → Led pool (turned_of r)
    led_same_other e o = record { inside = turned_inside i; some = λ k. omega (arith, i.low₂); least = λ k. omega arith; tie = λ k q. omega arith }

    pub led_less : get_or pool r.x 0 < get_or pool r.y 0 → Led pool r
    led_less e = record { inside = i; some = λ k. omega (arith, i.low); least = λ k. omega arith; tie = λ k q. absurd (omega arith) }

    pub led_more : get_or pool r.y 0 < get_or pool r.x 0 → Led pool (turned_of r)
    led_more e = record { inside = turned_inside i; some = λ k. omega (arith, i.low₂); least = λ k. omega arith; tie = λ k q. absurd (omega arith) }
