-- A layer is sound when its keys fall nowhere but where a group starts. With intervals that start at 0, ascend and stay inside the data, that is a
-- matter of two counts: the falls at all places, and those at the starts of groups. The first exceeds the second by the falls inside groups, so it
-- never is smaller, and the two are equal exactly when no group falls (`counts`).
use Prim.Native.Nat.{ℕ, zero, suc, ◌+◌, ◌-◌, ◌≤◌, ◌<◌}
use mathlib.Core.Path.{◌≡◌, refl, sym, ap, ◌∙◌}
use mathlib.Core.Bool.{Bool, true, false}
use mathlib.Core.List.{List}
use native.Mathlib.Omega.{arith}
use native.Mathlib.Decide.{dec_lt}
use lib.ListN.{length, get_or, get_or-eq_default}
use lib.Dec.{leb, eqb}
use borrow.Author.Tests.{le-leb, lt-leb, leb-false, eqb-true, eqb-false}
use Rattle.relation.proofs.Lists.{get_or_any}
use Rattle.relation.specs.Order.{pick}
use Rattle.relation.specs.Undamaged.{Ordered, sound}
use Rattle.relation.proofs.Walks.{sound→, →sound, sound_ordered, ordered_sound}
use Rattle.relation.proofs.Tests.{T_true, true_T}
use Rattle.layer_sound.specs.Falls.{fall_at, falls_in}

-- what isn't in order isn't sound
pub unsound : {ints keys : List ℕ} → (Ordered ints keys → ⊥) → false ≡ sound ints keys
unsound {ints} {keys} n = go (sound ints keys) refl
  where
    go : (b : Bool) → sound ints keys ≡ b → false ≡ sound ints keys
    go true e = absurd (n (sound_ordered (sound→ ints keys (true_T (sound ints keys) e))))
    go false e = sym e

-- ---- one place

module _ (keys : List ℕ) {j k : ℕ} (next : k ≡ suc j) where
  pub fall : get_or keys k 0 ≤ get_or keys j 0 → fall_at keys j ≡ 1
  fall h = ap {B = ℕ} (λ b. pick b 1 0) (le-leb (get_or keys (suc j) 0) (get_or keys j 0) (omega (arith, ap (λ (n : ℕ). get_or keys n 0) next)))

  pub rise : get_or keys j 0 < get_or keys k 0 → fall_at keys j ≡ 0
  rise h = ap {B = ℕ} (λ b. pick b 1 0) (lt-leb (get_or keys (suc j) 0) (get_or keys j 0) (omega (arith, ap (λ (n : ℕ). get_or keys n 0) next)))

  pub falls_next : falls_in keys k ≡ falls_in keys j + fall_at keys j
  unfolding falls_in
  falls_next = ap (falls_in keys) next

pub at_most : (keys : List ℕ) (j : ℕ) → fall_at keys j ≤ 1
at_most keys j = go (leb (get_or keys (suc j) 0) (get_or keys j 0))
  where
    go : (b : Bool) → pick b 1 0 ≤ 1
    go true = omega arith
    go false = omega arith

risen : (keys : List ℕ) (j : ℕ) → fall_at keys j ≡ 0 → get_or keys j 0 < get_or keys (suc j) 0
risen keys j e = go (leb (get_or keys (suc j) 0) (get_or keys j 0)) refl e
  where
    go : (b : Bool) → leb (get_or keys (suc j) 0) (get_or keys j 0) ≡ b → ◌≡◌ {A = ℕ} (pick b 1 0) 0 → get_or keys j 0 < get_or keys (suc j) 0
    go true l e = absurd (omega arith)
    go false l e = leb-false (get_or keys (suc j) 0) (get_or keys j 0) l

-- ---- between two places

module _ (keys : List ℕ) where
  more : (a b : ℕ) → a ≤ b → falls_in keys a ≤ falls_in keys b
  more a zero h = let e : a ≡ 0 = omega arith in omega (arith, ap (falls_in keys) e)
  more a (suc b) h = go (dec_lt b a) (more a b)
    where
      go : Dec (b < a) → (a ≤ b → falls_in keys a ≤ falls_in keys b) → falls_in keys a ≤ falls_in keys (suc b)
      go (yes l) ih = let e : a ≡ suc b = omega arith in omega (arith, ap (falls_in keys) e)
      go (no n) ih = omega (arith, ih (omega arith), falls_next keys {j = b} {k = suc b} refl)

  -- no fall between them: the counts are equal, and back
  level : (a b : ℕ) → a ≤ b → ((j : ℕ) → a ≤ j → j < b → fall_at keys j ≡ 0) → falls_in keys b ≡ falls_in keys a
  level a zero h f = let e : 0 ≡ a = omega arith in ap (falls_in keys) e
  level a (suc b) h f = go (dec_lt b a) (λ l. level a b l (λ j p q. f j p (omega arith)))
    where
      go : Dec (b < a) → (a ≤ b → falls_in keys b ≡ falls_in keys a) → falls_in keys (suc b) ≡ falls_in keys a
      go (yes l) ih = let e : suc b ≡ a = omega arith in ap (falls_in keys) e
      go (no n) ih = omega (arith, ih (omega arith), falls_next keys {j = b} {k = suc b} refl, f b (omega arith) (omega arith))

  calm : (a b : ℕ) → falls_in keys b ≤ falls_in keys a → (j : ℕ) → a ≤ j → j < b → get_or keys j 0 < get_or keys (suc j) 0
  calm a b e j p q = risen keys j (omega (arith, more a j p, more (suc j) b (omega arith), falls_next keys {j = j} {k = suc j} refl))

-- ---- the two counts

-- falls where a group starts, of the first n groups behind group 0
unfoldable pub start_falls : List ℕ → List ℕ → ℕ → ℕ
start_falls ints keys zero = 0
start_falls ints keys (suc n) = start_falls ints keys n + fall_at keys (get_or ints (suc n) 0 - 1)

pub starts_next : (ints keys : List ℕ) (i : ℕ) → 0 < i → start_falls ints keys i ≡ start_falls ints keys (i - 1) + fall_at keys (get_or ints i 0 - 1)
unfolding start_falls
starts_next ints keys zero h = absurd (omega arith)
starts_next ints keys (suc i) h = let e : suc i - 1 ≡ i = omega arith in ap (λ (n : ℕ). start_falls ints keys n + fall_at keys (get_or ints (suc i) 0 - 1)) (sym e)

-- intervals that are in order
pub record Starts (ints keys : List ℕ) : Type 0 where
  pub positive : 0 < length ints
  pub start : get_or ints 0 0 ≡ 0
  pub ascend : (i : ℕ) → suc i < length ints → get_or ints i 0 < get_or ints (suc i) 0
  pub inside : get_or ints (length ints - 1) 0 < length keys

module _ {ints keys : List ℕ} (s : Starts ints keys) where
  -- the falls up to the start of group i, and to the end
  abbrev falls : ℕ → ℕ
  falls i = falls_in keys (get_or ints i 0)

  abbrev starts : ℕ → ℕ
  starts i = start_falls ints keys i

  abbrev last : ℕ
  last = length ints - 1

  -- from one start to the next: the falls inside the group, and at the next start
  step : (i : ℕ) → suc i < length ints → falls (suc i) ≡ falls_in keys (get_or ints (suc i) 0 - 1) + fall_at keys (get_or ints (suc i) 0 - 1)
  step i h = falls_next keys (omega (arith, s.ascend i h))

  starts_step : (i : ℕ) → starts (suc i) ≡ starts i + fall_at keys (get_or ints (suc i) 0 - 1)
  unfolding start_falls
  starts_step i = refl

  none : falls 0 ≡ starts 0
  unfolding start_falls falls_in
  none = ap (falls_in keys) s.start

  -- the excess of the falls over those at starts never shrinks
  excess : (i k : ℕ) → i ≤ k → k < length ints → falls i + starts k ≤ falls k + starts i
  excess i zero h b = let e : i ≡ 0 = omega arith in omega (arith, ap starts e, ap falls e)
  excess i (suc k) h b = go (dec_lt k i) (λ l. excess i k l (omega arith))
    where
      go : Dec (k < i) → (i ≤ k → falls i + starts k ≤ falls k + starts i) → falls i + starts (suc k) ≤ falls (suc k) + starts i
      go (yes l) ih = let e : i ≡ suc k = omega arith in omega (arith, ap starts e, ap falls e)
      go (no n) ih = omega (arith, ih (omega arith), step k b, starts_step k, more keys (get_or ints k 0) (get_or ints (suc k) 0 - 1) (omega (arith, s.ascend k b)))

  -- equal in the end, they are equal at every start
  module _ (e : falls_in keys (length keys - 1) ≡ starts last) where
    tight : (i : ℕ) → i < length ints → falls i ≡ starts i
    tight i h = omega (arith, none, excess 0 i (omega arith) h, excess i last (omega arith) (omega (arith, s.positive)), more keys (get_or ints last 0) (length keys - 1) (omega (arith, s.inside)))

    rising : (i j : ℕ) → i < length ints → get_or ints i 0 ≤ j → suc j < get_or ints (suc i) (length keys) → get_or keys j 0 < get_or keys (suc j) 0
    rising i j h a b = go (dec_lt (suc i) (length ints))
      where
        go : Dec (suc i < length ints) → get_or keys j 0 < get_or keys (suc j) 0
        go (yes l) =
            calm keys (get_or ints i 0) (get_or ints (suc i) 0 - 1) (omega (arith, step i l, starts_step i, tight i h, tight (suc i) l)) j a
            (omega (arith, get_or_any ints (suc i) (length keys) 0 l))
        go (no n) =
            let q : i ≡ last = omega arith in
            calm keys (get_or ints i 0) (length keys - 1) (omega (arith, tight i h, ap starts q)) j a (omega (arith, get_or-eq_default ints (length keys) {n = suc i} (omega arith)))

  -- where no group falls, they are equal at every start, and in the end
  module _ (o : Ordered ints keys) where
    equal : (i : ℕ) → i < length ints → falls i ≡ starts i
    equal zero h = none
    equal (suc i) h =
        omega (arith, equal i (omega arith), step i h, starts_step i, level keys (get_or ints i 0) (get_or ints (suc i) 0 - 1) (omega (arith, s.ascend i h)) (λ j a b. rise keys refl (o.groups i j (omega arith) a (omega (arith, get_or_any ints (suc i) (length keys) 0 h)))))

    equal_all : falls_in keys (length keys - 1) ≡ starts last
    equal_all =
        level keys (get_or ints last 0) (length keys - 1) (omega (arith, s.inside)) (λ j a b. rise keys refl (o.groups last j (omega (arith, s.positive)) a (omega (arith, get_or-eq_default ints (length keys) {n = suc last} (omega arith)))))
        ∙ equal last (omega (arith, s.positive))

  pub counts : eqb (falls_in keys (length keys - 1)) (starts last) ≡ sound ints keys
  counts = go (eqb (falls_in keys (length keys - 1)) (starts last)) refl
    where
      go : (b : Bool) → eqb (falls_in keys (length keys - 1)) (starts last) ≡ b → eqb (falls_in keys (length keys - 1)) (starts last) ≡ sound ints keys
      go true q =
          q
          ∙ sym (T_true (sound ints keys) (→sound (ordered_sound ints keys (record {
            start = λ h. s.start;
            ascend = s.ascend;
            inside = λ i h. (let z : i ≡ last = omega arith in omega (arith, s.inside, ap (λ (n : ℕ). get_or ints n 0) z));
            groups = rising (eqb-true (falls_in keys (length keys - 1)) (starts last) q);
          }) (λ h. absurd (omega (arith, s.positive))))))
      go false q = q ∙ unsound (λ o. eqb-false (falls_in keys (length keys - 1)) (starts last) q (equal_all o))
