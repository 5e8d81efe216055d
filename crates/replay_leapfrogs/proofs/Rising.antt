-- A run of the pool that is tested key by key: its front ascends, and no key of it is above the last.
use Rattle.std.proofs.Common.{◌≡◌, ℕ, suc, ◌+◌, ◌-◌, ◌<◌, ◌≤◌, List, [], ◌∷◌, ◌++◌, length, get_or, take, drop, sym, refl, ap, ◌∙◌, subst, ⊎_elim, arith, length-drop, get_or-drop, take-suc}
use mathlib.Core.List.Memᴰ
use Rattle.relation.specs.Lists.{◌∈◌, not_in_nil, Ascends, anone, amore}
use Rattle.relation.proofs.Lists.{ascends_append}
use Rattle.leapfrog_search.specs.Leapfrog.{part}
use Rattle.leapfrog_search.proofs.Parts.{part_cons, part_none}
use Rattle.replay_leapfrogs.specs.Runs.{Run}

-- the pool from x to i, as far as it is tested
pub record Rising (pool : List ℕ) (x i : ℕ) : Type 0 where
  pub nonempty : x < i
  pub inside : i ≤ length pool
  pub ascends : Ascends ◌<◌ (part pool x i)
  pub top : (a : ℕ) → a ∈ part pool x i → a ≤ get_or pool (i - 1) 0

one_ascends : (a : ℕ) → Ascends ◌<◌ (a ∷ [])
one_ascends a = amore (λ b m. absurd (not_in_nil m)) anone

module _ (pool : List ℕ) (x : ℕ) where
  -- one word more
  part_more : (i : ℕ) → x ≤ i → i < length pool → part pool x (i + 1) ≡ part pool x i ++ (get_or pool i 0 ∷ [])
  part_more i h l =
      let n : i + 1 - x ≡ suc (i - x) = omega arith in
      let e : x + (i - x) ≡ i = omega arith in
      ap (λ (m : ℕ). take m (drop x pool)) n
      ∙ (take-suc (drop x pool) (i - x) 0 (omega (arith, length-drop x pool))
      ∙ ap (λ (y : ℕ). part pool x i ++ (y ∷ [])) (get_or-drop x pool (i - x) 0 ∙ ap (λ (m : ℕ). get_or pool m 0) e))

  pub rising_first : x < length pool → Rising pool x (x + 1)
  rising_first h =
      let e : part pool x (x + 1) ≡ get_or pool x 0 ∷ [] = part_cons pool x (x + 1) (omega arith) (omega arith) ∙ ap (λ (r : List ℕ). get_or pool x 0 ∷ r) (part_none pool (x + 1) (x + 1) refl) in
      let z : x + 1 - 1 ≡ x = omega arith in
      record {
        nonempty = omega arith;
        inside = omega arith;
        ascends = subst (λ (r : List ℕ). Ascends ◌<◌ r) (sym e) (one_ascends (get_or pool x 0));
        top = λ a m. omega (arith, Memᴰ.eq_of_singleton (subst (λ (r : List ℕ). a ∈ r) e m), ap (λ (n : ℕ). get_or pool n 0) z);
      }

  pub rising_more : {i : ℕ} → Rising pool x i → i < length pool → get_or pool (i - 1) 0 < get_or pool i 0 → Rising pool x (i + 1)
  rising_more {i} g l h =
      let e = part_more i (omega (arith, g.nonempty)) l in
      let z : i + 1 - 1 ≡ i = omega arith in
      record {
        nonempty = omega (arith, g.nonempty);
        inside = omega arith;
        ascends = subst (λ (r : List ℕ). Ascends ◌<◌ r) (sym e) (ascends_append g.ascends (one_ascends (get_or pool i 0)) (λ a b m n. omega (arith, g.top a m, Memᴰ.eq_of_singleton n)));
        top = λ a m.
            ⊎_elim (λ (o : a ∈ part pool x i). omega (arith, g.top a o, ap (λ (n : ℕ). get_or pool n 0) z)) (λ (o : a ∈ (get_or pool i 0 ∷ [])). omega (arith, Memᴰ.eq_of_singleton o, ap (λ (n : ℕ). get_or pool n 0) z))
            (Memᴰ.append_cases (part pool x i) (subst (λ (r : List ℕ). a ∈ r) e m));
      }

  -- tested to its end, it is a run
  pub risen : {i e : ℕ} → Rising pool x i → i ≡ e → Run pool x e
  risen {i} g e = subst (λ (n : ℕ). Run pool x n) e (record { nonempty = g.nonempty; inside = g.inside; ascends = g.ascends })
