-- The owner of a place in a layer, by its interval and the next; and the owner of the place behind it.
use Prim.Native.Nat.{ℕ, zero, suc, ◌+◌, ◌-◌, ◌≤◌, ◌<◌}
use mathlib.Core.Path.{◌≡◌, refl, ap, ◌∙◌}
use mathlib.Core.Bool.{Bool, true, false}
use mathlib.Core.List.{List, [], ◌∷◌}
use native.Mathlib.Omega.{arith}
use lib.ListN.{length, get_or, get_or-eq_default}
use lib.Dec.{leb}
use borrow.Author.Tests.{leb-true, leb-false, le-leb, lt-leb}
use Rattle.relation.specs.Order.{pick}
use Rattle.relation.specs.Paths.{upto, owner}
use Rattle.relation.proofs.Lists.{get_or_any}
use Rattle.relation.proofs.Walks.{Sound, bare, full, walk_starts, sound_ordered, sound_empty}

upto_yes : (j s : ℕ) (ss : List ℕ) → s ≤ j → upto j (s ∷ ss) ≡ suc (upto j ss)
unfolding upto
upto_yes j s ss h = ap (λ (b : Bool). pick b (suc (upto j ss)) 0) (le-leb s j h)

upto_no : (j s : ℕ) (ss : List ℕ) → j < s → upto j (s ∷ ss) ≡ 0
unfolding upto
upto_no j s ss h = ap (λ (b : Bool). pick b (suc (upto j ss)) 0) (lt-leb s j h)

upto_end : (j : ℕ) → upto j [] ≡ 0
unfolding upto
upto_end j = refl

-- how many starts are not above j, by the last of them and the first that is
record Upto (j : ℕ) (ints : List ℕ) (u : ℕ) : Type 0 where
  pub few : u ≤ length ints
  pub last : 0 < u → get_or ints (u - 1) 0 ≤ j
  pub next : u < length ints → j < get_or ints u 0

upto_told : (j : ℕ) (ints : List ℕ) → Upto j ints (upto j ints)
upto_told j [] = let e = upto_end j in record { few = omega arith; last = λ h. absurd (omega arith); next = λ h. absurd (omega arith) }
upto_told j (s ∷ ss) = go (leb s j) refl (upto j ss) refl (upto_told j ss)
  where
    behind : (v : ℕ) → s ≤ j → Upto j ss v → get_or (s ∷ ss) v 0 ≤ j
    behind zero h r = h
    behind (suc v) h r = omega (arith, r.last (omega arith), ap (λ (m : ℕ). get_or ss m 0) (let e : suc v - 1 ≡ v = omega arith in e))

    go : (b : Bool) → leb s j ≡ b → (v : ℕ) → upto j ss ≡ v → Upto j ss v → Upto j (s ∷ ss) (upto j (s ∷ ss))
    go true e v p r =
        let h = leb-true s j e in
        let q : upto j (s ∷ ss) ≡ suc v = upto_yes j s ss h ∙ ap suc p in
        rw q (record { few = omega (arith, r.few); last = λ k. omega (arith, behind v h r, ap (λ (m : ℕ). get_or (s ∷ ss) m 0) (let e : suc v - 1 ≡ v = omega arith in e)); next = λ k. r.next (omega arith) })
    go false e v p r =
        let h = leb-false s j e in
        let q : upto j (s ∷ ss) ≡ 0 = upto_no j s ss h in
        rw q (record { few = omega arith; last = λ k. absurd (omega arith); next = λ k. h })

-- the first place is the first parent's
pub owner_first : {ints keys : List ℕ} → Sound ints keys → owner ints 0 ≡ 0
unfolding owner
owner_first bare = omega (arith, upto_end 0)
owner_first (full {s} {k} {ss} {ks} e w) = omega (arith, upto_yes 0 s ss (omega arith), none ss (walk_starts w))
  where
    none : (ss : List ℕ) → (0 < length ss → 1 ≤ get_or ss 0 0) → upto 0 ss ≡ 0
    none [] f = upto_end 0
    none (s ∷ ss) f = upto_no 0 s ss (omega (arith, f (omega arith)))

-- place j is among the children of parent p, in a layer of n keys
pub record Owned (ints : List ℕ) (n p j : ℕ) : Type 0 where
  pub listed : p < length ints
  pub from : get_or ints p 0 ≤ j
  pub to : j < get_or ints (suc p) n

module _ {ints keys : List ℕ} (s : Sound ints keys) where
  abbrev n : ℕ
  n = length keys

  some : 0 < n → 0 < length ints
  some h = go (length ints) refl
    where
      go : (m : ℕ) → length ints ≡ m → 0 < length ints
      go zero e = absurd (omega (arith, sound_empty s e))
      go (suc m) e = omega arith

  pub owned : (j : ℕ) → j < n → Owned ints n (owner ints j) j
  unfolding owner
  owned j h = go (upto j ints) (upto_told j ints)
    where
      l : 0 < length ints
      l = some (omega arith)

      go : (u : ℕ) → Upto j ints u → Owned ints n (u - 1) j
      go zero r = absurd (omega (arith, (sound_ordered s).start l, r.next l))
      go (suc v) r = record { listed = omega (arith, r.few); from = r.last (omega arith); to = omega (arith, to (leb (length ints) (suc v)) refl, ap (λ (m : ℕ). get_or ints (suc m) n) (let e : suc v - 1 ≡ v = omega arith in e)) }
        where
          to : (b : Bool) → leb (length ints) (suc v) ≡ b → j < get_or ints (suc v) n
          to true e = omega (arith, get_or-eq_default ints n {n = (suc v)} (leb-true (length ints) (suc v) e))
          to false e = let k = leb-false (length ints) (suc v) e in omega (arith, get_or_any ints (suc v) n 0 k, r.next k)

  -- starts ascend
  pub rises : (i k : ℕ) → i ≤ k → k < length ints → get_or ints i 0 ≤ get_or ints k 0
  rises i zero h l = omega (arith, ap (λ (m : ℕ). get_or ints m 0) (let e : i ≡ 0 = omega arith in e))
  rises i (suc k) h l = go (λ g. rises i k g (omega arith)) (leb i k) refl
    where
      go : (i ≤ k → get_or ints i 0 ≤ get_or ints k 0) → (b : Bool) → leb i k ≡ b → get_or ints i 0 ≤ get_or ints (suc k) 0
      go ih true e = omega (arith, ih (leb-true i k e), (sound_ordered s).ascend k l)
      go ih false e = let g = leb-false i k e in omega (arith, ap (λ (m : ℕ). get_or ints m 0) (let e : i ≡ suc k = omega arith in e))

  -- it has one parent
  pub one_owner : {p q j : ℕ} → Owned ints n p j → Owned ints n q j → p ≡ q
  one_owner {p} {q} {j} x y = go (leb p q) refl (leb q p) refl
    where
      below : {p q : ℕ} → Owned ints n p j → Owned ints n q j → p < q → ⊥
      below {p} {q} x y h = omega (arith, x.to, y.from, get_or_any ints (suc p) n 0 (omega (arith, y.listed)), rises (suc p) q (omega arith) y.listed)

      go : (b : Bool) → leb p q ≡ b → (c : Bool) → leb q p ≡ c → p ≡ q
      go true e true f = omega (arith, leb-true p q e, leb-true q p f)
      go false e c f = absurd (below y x (leb-false p q e))
      go true e false f = absurd (below x y (leb-false q p f))

  -- the parent of the same place or the next: it goes on where its children end
  module _ {j k : ℕ} (h : j ≤ k) (l : k ≤ j + 1) (m : k < n) where
    abbrev p : ℕ
    p = owner ints j

    abbrev ends : ℕ
    ends = get_or ints (suc p) n

    here : Owned ints n p j
    here = owned j (omega arith)

    pub owner_stays : k < ends → owner ints k ≡ p
    owner_stays g = one_owner (owned k m) (record { listed = here.listed; from = omega (arith, here.from); to = g })

    pub owner_goes_on : ends ≤ k → owner ints k ≡ suc p
    owner_goes_on g = one_owner (owned k m) (record { listed = inside; from = omega (arith, get_or_any ints (suc p) n 0 inside); to = to (leb (length ints) (suc (suc p))) refl })
      where
        inside : suc p < length ints
        inside = go (leb (length ints) (suc p)) refl
          where
            go : (b : Bool) → leb (length ints) (suc p) ≡ b → suc p < length ints
            go true e = absurd (omega (arith, get_or-eq_default ints n {n = (suc p)} (leb-true (length ints) (suc p) e)))
            go false e = leb-false (length ints) (suc p) e

        to : (b : Bool) → leb (length ints) (suc (suc p)) ≡ b → k < get_or ints (suc (suc p)) n
        to true e = omega (arith, get_or-eq_default ints n {n = (suc (suc p))} (leb-true (length ints) (suc (suc p)) e))
        to false e =
            let v = leb-false (length ints) (suc (suc p)) e in
            omega (arith, get_or_any ints (suc (suc p)) n 0 v, get_or_any ints (suc p) n 0 inside, (sound_ordered s).ascend (suc p) v, here.to)
