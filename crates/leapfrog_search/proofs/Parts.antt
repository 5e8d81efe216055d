-- Parts of the pool, and what a seek in one leaves. Idea: every strategy stops at the number of leading keys below the target, so what follows is the run from the target on.
use mathlib.Core.Path.{◌≡◌, sym, subst, ap, ◌∙◌}
use mathlib.Core.Logic.{⊎_elim}
use mathlib.Core.List.{List, [], ◌∷◌}
use Prim.Native.Nat.{ℕ, ◌+◌, ◌-◌, ◌≤◌, ◌<◌}
use native.Mathlib.Nat.{eq-or-lt_of_le, le_refl}
use native.Mathlib.Omega.{arith}
use lib.ListN.{length, get_or, take, drop, length-take, length-drop}
use lib.Seq.{get_or-take, get_or-drop, take-add, drop_at, drop-drop, drop-cons, length-take-le}
use Rattle.relation.specs.Lists.{Ascends}
use Rattle.seek.specs.declared.SeekStrategy.{SeekStrategy}
use Rattle.seek.specs.Seek.{seek_of}
use Rattle.seek.specs.Offset.{NonFalling}
use Rattle.seek.proofs.Laws.{leading}
use Rattle.relation.proofs.Runs.{from_drop}
use Rattle.leapfrog_search.specs.Leapfrog.{part, Reached}
use Rattle.ring_sort.proofs.Lists.{ascends_get_or}

module _ (pool : List ℕ) where
  pub part_length : (x e : ℕ) → e ≤ length pool → length (part pool x e) ≡ e - x
  part_length x e h = omega (arith, length-take (e - x) (drop x pool), length-drop x pool)

  pub part_at : (x e i : ℕ) → i < e - x → get_or (part pool x e) i 0 ≡ get_or pool (x + i) 0
  part_at x e i h = get_or-take (e - x) (drop x pool) i 0 h ∙ get_or-drop x pool i 0

  pub part_drop : (x e d : ℕ) → x + d ≤ e → e ≤ length pool → drop d (part pool x e) ≡ part pool (x + d) e
  part_drop x e d h l =
      let n : e - x ≡ d + (e - (x + d)) = omega arith in
      ap (λ (m : ℕ). drop d (take m (drop x pool))) n
      ∙ (ap (drop d) (take-add d (e - (x + d)) (drop x pool))
      ∙ (drop_at (take d (drop x pool)) (take (e - (x + d)) (drop d (drop x pool))) d (length-take-le d (drop x pool) (omega (arith, length-drop x pool)))
      ∙ ap (take (e - (x + d))) (drop-drop d x pool)))

  -- its first key, and what follows
  pub part_cons : (x e : ℕ) → x < e → e ≤ length pool → part pool x e ≡ get_or pool x 0 ∷ part pool (x + 1) e
  part_cons x e h l =
      let z : x + 0 ≡ x = omega arith in
      drop-cons (part pool x e) 0 0 (omega (arith, part_length x e l))
      ∙ (ap (λ (y : ℕ). y ∷ drop 1 (part pool x e)) (part_at x e 0 (omega arith) ∙ ap (λ (n : ℕ). get_or pool n 0) z)
      ∙ ap (λ (r : List ℕ). get_or pool x 0 ∷ r) (part_drop x e 1 (omega arith) l))

  pub part_none : (x e : ℕ) → x ≡ e → part pool x e ≡ []
  part_none x e h =
      let z : e - x ≡ 0 = omega arith in
      ap (λ (n : ℕ). take n (drop x pool)) z

  -- an ascending part ascends for the seek too
  ascending : (x e : ℕ) → Ascends ◌<◌ (part pool x e) → NonFalling (part pool x e)
  ascending x e s a b h l =
      ⊎_elim (λ (d : a ≡ b). subst (λ (n : ℕ). get_or (part pool x e) a 0 ≤ get_or (part pool x e) n 0) d (le_refl (get_or (part pool x e) a 0)))
      (λ g. omega (arith, ascends_get_or s a b 0 g l))
      (eq-or-lt_of_le h)

  module _ (x e : ℕ) (h : x ≤ e) (l : e ≤ length pool) (s : Ascends ◌<◌ (part pool x e)) where
    pub seek_within : (strategy : SeekStrategy) (t : ℕ) → x + (seek_of strategy (part pool x e) t).offset ≤ e
    seek_within strategy t = omega (arith, (leading strategy (part pool x e) t (ascending x e s)).inside, part_length x e l)

    -- every strategy leaves the run from the target on
    pub seek_reached : (strategy : SeekStrategy) (t : ℕ) → Reached pool x e t (x + (seek_of strategy (part pool x e) t).offset)
    seek_reached strategy t = record {
      forward = omega arith;
      within = seek_within strategy t;
      rest =
          let d = (seek_of strategy (part pool x e) t).offset in
          let f = leading strategy (part pool x e) t (ascending x e s) in
          sym (from_drop t (part pool x e) d f.inside f.before f.stops ∙ part_drop x e d (seek_within strategy t) l);
    }
