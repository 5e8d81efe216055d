-- The check's two loops over a layer: down the intervals, with a count of the groups that start with a fall, and up the keys, with a count of all
-- falls. Where they end, the counts are those of Counts.antt.
use Prim.Native.Nat.{ℕ, suc, ◌+◌, ◌-◌, ◌≤◌, ◌<◌}
use mathlib.Core.Path.{◌≡◌, refl, sym, ap, ◌∙◌}
use mathlib.Core.Bool.{false}
use mathlib.Core.List.{List, [], ◌∷◌}
use native.Mathlib.Omega.{arith}
use native.Mathlib.Decide.{dec_lt}
use lib.ListN.{length, get_or}
use lib.Dec.{eqb}
use borrow.Author.Tests.{ne_eqb}
use Rattle.relation.specs.Undamaged.{sound}
use Rattle.layer_sound.specs.Falls.{fall_at, falls_in}
use Rattle.layer_sound.proofs.Counts.{unsound, falls_next, at_most, start_falls, starts_next, counts}

-- ---- down the intervals

-- at interval i; n groups behind it start with a fall
pub record Starting (ints keys : List ℕ) (i at n : ℕ) : Type 0 where
  pub met : i < length ints
  pub here : at ≡ get_or ints i 0
  pub within : at < length keys
  pub last : get_or ints (length ints - 1) 0 < length keys
  pub ascend : (k : ℕ) → i ≤ k → suc k < length ints → get_or ints k 0 < get_or ints (suc k) 0
  pub few : n + i < length ints
  pub counted : n + start_falls ints keys i ≡ start_falls ints keys (length ints - 1)

-- without keys, or without intervals
pub bare : (ints keys : List ℕ) → length keys ≡ 0 → eqb (length ints) 0 ≡ sound ints keys
unfolding sound
bare [] [] e = refl
bare (s ∷ ss) [] e = ne_eqb (suc (length ss)) 0 (λ z. omega arith)
bare ints (k ∷ ks) e = absurd (omega arith)

pub unstarted : (ints keys : List ℕ) → (length keys ≡ 0 → ⊥) → length ints ≡ 0 → false ≡ sound ints keys
unfolding sound
unstarted ints [] n e = absurd (n refl)
unstarted [] (k ∷ ks) n e = refl
unstarted (s ∷ ss) (k ∷ ks) n e = absurd (omega arith)

module _ (ints keys : List ℕ) (some : length ints ≡ 0 → ⊥) where
  pub outside : length keys ≤ get_or ints (length ints - 1) 0 → false ≡ sound ints keys
  outside h = unsound (λ o. omega (arith, o.inside (length ints - 1) (omega (arith, some))))

  pub starting : get_or ints (length ints - 1) 0 < length keys → Starting ints keys (length ints - 1) (get_or ints (length ints - 1) 0) 0
  starting h =
      record {
        met = omega (arith, some);
        here = refl;
        within = h;
        last = h;
        ascend = λ k a b. absurd (omega arith);
        few = omega (arith, some);
        counted = omega arith;
      }

module _ {ints keys : List ℕ} {i at n : ℕ} (w : Starting ints keys i at n) where
  module _ (h : 0 < i) where
    before : suc (i - 1) ≡ i
    before = omega arith

    pub falling_start : at ≤ get_or ints (i - 1) 0 → false ≡ sound ints keys
    falling_start l = unsound (λ o. omega (arith, w.here, o.ascend (i - 1) (omega (arith, w.met)), ap (λ (k : ℕ). get_or ints k 0) before))

    pub starting_before : (m : ℕ) → get_or ints (i - 1) 0 < at → m ≡ n + fall_at keys (at - 1) → Starting ints keys (i - 1) (get_or ints (i - 1) 0) m
    starting_before m l e =
        record {
          met = omega (arith, w.met);
          here = refl;
          within = omega (arith, w.within);
          last = w.last;
          ascend = λ k a b. go k a b (dec_lt k i);
          few = omega (arith, w.few, at_most keys (at - 1));
          counted = omega (arith, w.counted, starts_next ints keys i h, ap (λ (k : ℕ). fall_at keys (k - 1)) w.here);
        }
      where
        go : (k : ℕ) → i - 1 ≤ k → suc k < length ints → Dec (k < i) → get_or ints k 0 < get_or ints (suc k) 0
        go k a b (yes c) =
            let e : k ≡ i - 1 = omega arith in
            let f : suc k ≡ i = omega arith in
            omega (arith, w.here, ap (λ (m : ℕ). get_or ints m 0) e, ap (λ (m : ℕ). get_or ints m 0) f)
        go k a b (no c) = w.ascend k (omega arith) b

  module _ (h : i ≤ 0) where
    first : at ≡ get_or ints 0 0
    first = let e : i ≡ 0 = omega arith in w.here ∙ ap (λ (k : ℕ). get_or ints k 0) e

    pub late_start : (at ≡ 0 → ⊥) → false ≡ sound ints keys
    late_start l = unsound (λ o. l (first ∙ o.start (omega (arith, w.met))))

    pub all_counted : at ≡ 0 → (r : ℕ) → r ≡ falls_in keys (length keys - 1) → eqb r n ≡ sound ints keys
    unfolding start_falls
    all_counted e r q =
        let z : i ≡ 0 = omega arith in
        let c : n ≡ start_falls ints keys (length ints - 1) = omega (arith, w.counted, ap (start_falls ints keys) z) in
        ap (λ (x : ℕ). eqb x n) q
        ∙ ap (λ (x : ℕ). eqb (falls_in keys (length keys - 1)) x) c
        ∙ counts (record { positive = omega (arith, w.met); start = sym first ∙ e; ascend = λ k b. w.ascend k (omega arith) b; inside = w.last })

-- ---- the count of all falls, two places a turn

pub record Falling (keys : List ℕ) (odd even j : ℕ) : Type 0 where
  pub from : 2 ≤ j
  pub to : j ≤ length keys + 1
  pub few : odd + even ≤ j
  pub counted : odd + even ≡ falls_in keys (j - 2)

pub falling : (keys : List ℕ) → 0 < length keys → Falling keys 0 0 2
unfolding falls_in
falling keys h = record { from = omega arith; to = omega arith; few = omega arith; counted = refl }

module _ {keys : List ℕ} {odd even j : ℕ} (w : Falling keys odd even j) where
  pub falling_on : (odd' even' : ℕ) → j < length keys → odd' ≡ odd + fall_at keys (j - 2) → even' ≡ even + fall_at keys (j - 1) → Falling keys odd' even' (j + 2)
  falling_on odd' even' h p q =
      let e : j + 2 - 2 ≡ j = omega arith in
      record {
        from = omega arith;
        to = omega arith;
        few = omega (arith, w.few, at_most keys (j - 2), at_most keys (j - 1));
        counted = omega (arith, w.counted, falls_next keys {j = j - 2} {k = j - 1} (omega (arith, w.from)), falls_next keys {j = j - 1} {k = j} (omega (arith, w.from)), ap (falls_in keys) e);
      }

  -- no place is left, or one
  pub falls_out : length keys < j → odd + even ≡ falls_in keys (length keys - 1)
  falls_out h = let e : j - 2 ≡ length keys - 1 = omega (arith, w.to) in w.counted ∙ ap (falls_in keys) e

  pub falls_last : j ≡ length keys → (r : ℕ) → r ≡ odd + even + fall_at keys (j - 2) → r ≡ falls_in keys (length keys - 1)
  falls_last h r e = omega (arith, w.counted, falls_next keys {j = j - 2} {k = length keys - 1} (omega (arith, w.from)))
