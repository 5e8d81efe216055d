-- The layers of a table half-way from some rows to others: above depth d those of the new rows, from d on those of the old. One layer further each
-- turn; at the first layer that changes they are all the old ones, behind the last all the new ones.
use Prim.Native.Nat.{ℕ, zero, suc, ◌+◌, ◌≤◌, ◌<◌}
use mathlib.Core.Path.{◌≡◌, refl, sym, ap, ◌∙◌}
use mathlib.Core.Bool.{Bool}
use mathlib.Core.List.{List, [], ◌∷◌}
use native.Mathlib.Omega.{arith}
use native.Mathlib.Decide.{dec_lt}
use lib.ListN.{length, set, length-set}
use lib.Seq.{ext_get_or, get_or-set_same, get_or-set_other}
use lib.Dec.{ltb}
use borrow.Author.Tests.{lt-ltb, le-ltb}
use Rattle.relation.specs.Order.{Row, pick}
use Rattle.relation.specs.Rows.{Width}
use Rattle.relation.specs.Layers.{Layer, layer, no_layer, layers_of}
use Rattle.relation.proofs.Layers.{ranked_at}
use Rattle.relation.proofs.Paths.{ranked_from, layer_from}
use Rattle.relation.proofs.Relations.{length_layers}
use Rattle.relation.proofs.Tables.{ranked}

-- layers by their depth
tabulated : (ℕ → Layer) → ℕ → ℕ → List Layer
tabulated f e zero = []
tabulated f e (suc n) = f e ∷ tabulated f (suc e) n

module _ (a : ℕ) (old new : List Row) where
  -- of the new rows above depth d, of the old from there on
  mix_at : ℕ → ℕ → Layer
  mix_at d k = pick (ltb k d) (ranked_at k new) (ranked_at k old)

  pub mixed : ℕ → List Layer
  mixed d = tabulated (mix_at d) 0 a

  long : (f : ℕ → Layer) (e n : ℕ) → length (tabulated f e n) ≡ n
  unfolding tabulated
  long f e zero = refl
  long f e (suc n) = ap suc (long f (suc e) n)

  at : (f : ℕ → Layer) (e n i : ℕ) → i < n → layer (tabulated f e n) i ≡ f (e + i)
  unfolding tabulated
  at f e zero i h = absurd (omega arith)
  at f e (suc n) zero h = ap f (let z : e ≡ e + 0 = omega arith in z)
  at f e (suc n) (suc i) h = at f (suc e) n i (omega arith) ∙ ap f (let z : suc e + i ≡ e + suc i = omega arith in z)

  pub mixed_long : (d : ℕ) → length (mixed d) ≡ a
  unfolding mixed
  mixed_long d = long (mix_at d) 0 a

  mixed_at : (d k : ℕ) → k < a → layer (mixed d) k ≡ mix_at d k
  unfolding mixed
  mixed_at d k h = at (mix_at d) 0 a k h ∙ ap (mix_at d) (let z : 0 + k ≡ k = omega arith in z)

  pub mixed_new : (d k : ℕ) → k < a → k < d → layer (mixed d) k ≡ ranked_at k new
  unfolding mix_at
  mixed_new d k h l = mixed_at d k h ∙ ap (λ (b : Bool). pick b (ranked_at k new) (ranked_at k old)) (lt-ltb k d l)

  pub mixed_old : (d k : ℕ) → k < a → d ≤ k → layer (mixed d) k ≡ ranked_at k old
  unfolding mix_at
  mixed_old d k h l = mixed_at d k h ∙ ap (λ (b : Bool). pick b (ranked_at k new) (ranked_at k old)) (le-ltb k d l)

  -- one layer further
  pub mixed_step : (d : ℕ) → d < a → set (mixed d) d (ranked_at d new) ≡ mixed (d + 1)
  mixed_step d h =
      ext_get_or no_layer (set (mixed d) d (ranked_at d new)) (mixed (d + 1)) (length-set (mixed d) d _ ∙ mixed_long d ∙ sym (mixed_long (d + 1)))
      (λ k b. go k (omega (arith, b, length-set (mixed d) d (ranked_at d new), mixed_long d)) (dec_lt k d) (dec_lt d k))
    where
      go : (k : ℕ) → k < a → Dec (k < d) → Dec (d < k) → layer (set (mixed d) d (ranked_at d new)) k ≡ layer (mixed (d + 1)) k
      go k b (yes l) q = get_or-set_other (mixed d) d k _ no_layer (λ e. omega arith) ∙ mixed_new d k b l ∙ sym (mixed_new (d + 1) k b (omega arith))
      go k b (no l) (yes m) = get_or-set_other (mixed d) d k _ no_layer (λ e. omega arith) ∙ mixed_old d k b (omega arith) ∙ sym (mixed_old (d + 1) k b (omega arith))
      go k b (no l) (no m) =
          let e : k ≡ d = omega arith in
          ap (λ (z : ℕ). layer (set (mixed d) d (ranked_at d new)) z) e ∙ get_or-set_same (mixed d) d _ no_layer (omega (arith, mixed_long d)) ∙ sym (ap (λ (z : ℕ). layer (mixed (d + 1)) z) e ∙ mixed_new (d + 1) d h (omega arith))

  same : (ls : List Layer) (qs : List Row) → length ls ≡ a → ((k : ℕ) → k < a → layer ls k ≡ ranked_at k qs) → ls ≡ ranked_from 0 a qs
  same ls qs e f =
      ext_get_or no_layer ls (ranked_from 0 a qs) (e ∙ sym (length_layers 0 a qs))
      (λ k b. let h : k < a = omega arith in f k h ∙ sym (layer_from 0 a qs k h ∙ ap (λ (z : ℕ). ranked_at z qs) (let z : 0 + k ≡ k = omega arith in z)))

  -- at the first layer that changes, and behind the last
  pub mixed_first : Width a old → (d : ℕ) → ((k : ℕ) → k < d → ranked_at k new ≡ ranked_at k old) → mixed d ≡ layers_of a old
  mixed_first w d s = same (mixed d) old (mixed_long d) (λ k h. go k h (dec_lt k d)) ∙ ranked w
    where
      go : (k : ℕ) → k < a → Dec (k < d) → layer (mixed d) k ≡ ranked_at k old
      go k h (yes l) = mixed_new d k h l ∙ s k l
      go k h (no l) = mixed_old d k h (omega arith)

  pub mixed_last : Width a new → mixed a ≡ layers_of a new
  mixed_last w = same (mixed a) new (mixed_long a) (λ k h. mixed_new a k h h) ∙ ranked w
