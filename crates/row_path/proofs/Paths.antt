-- The path of a row: its keys are the row's words, its places lie in their layers, and from row to row each stays or goes on by one.
use Prim.Native.Nat.{ℕ, zero, suc, ◌+◌, ◌≤◌, ◌<◌}
use mathlib.Core.Path.{◌≡◌, refl, sym, ap, ◌∙◌}
use mathlib.Core.Bool.{Bool, true, false}
use mathlib.Core.List.{List, [], ◌∷◌, ◌++◌, append_assoc, append-nil}
use native.Mathlib.Omega.{arith}
use lib.ListN.{length, drop, get_or}
use lib.Dec.{leb}
use borrow.Author.Tests.{leb-true, leb-false}
use Rattle.relation.specs.Order.{Row}
use Rattle.relation.specs.Layers.{Layer, layer}
use Rattle.relation.specs.Paths.{owner, grow, rows_from, rows_of}
use Rattle.relation.proofs.Walks.{Sound}
use Rattle.relation.proofs.Undamaged.{Chain, cend, cnext}
use Rattle.row_path.specs.Path.{ancestor}
use Rattle.row_path.proofs.Owners.{owned, owner_first, owner_stays, owner_goes_on}

pub ancestor_none : (i : ℕ) → ancestor [] i ≡ i
unfolding ancestor
ancestor_none i = refl

pub ancestor_more : (l : Layer) (ls : List Layer) (i : ℕ) → ancestor (l ∷ ls) i ≡ owner l.intervals (ancestor ls i)
unfolding ancestor
ancestor_more l ls i = refl

-- how many rows lie under n parents: the keys of the last layer
unfoldable pub under : ℕ → List Layer → ℕ
under n [] = n
under n (l ∷ ls) = under (length l.keys) ls

pub inside : {n : ℕ} {ls : List Layer} → Chain n ls → (i : ℕ) → i < under n ls → ancestor ls i < n
unfolding under
inside cend i h = omega (arith, ancestor_none i)
inside (cnext {n} {l} {ls} e s c) i h = omega (arith, ancestor_more l ls i, (owned s (ancestor ls i) (inside c i h)).listed)

-- row 0 is the first at every depth
pub first : {n : ℕ} {ls : List Layer} → Chain n ls → ancestor ls 0 ≡ 0
first cend = ancestor_none 0
first (cnext {l = l} {ls = ls} e s c) = ancestor_more l ls 0 ∙ ap (owner l.intervals) (first c) ∙ owner_first s

-- from a row to itself or the next
pub record Near (a b : ℕ) : Type 0 where
  pub least : a ≤ b
  pub most : b ≤ a + 1

pub near : {n : ℕ} {ls : List Layer} → Chain n ls → (i k : ℕ) → i ≤ k → k ≤ i + 1 → k < under n ls → Near (ancestor ls i) (ancestor ls k)
unfolding under
near cend i k h l m = record { least = omega (arith, ancestor_none i, ancestor_none k); most = omega (arith, ancestor_none i, ancestor_none k) }
near (cnext {n} {l} {ls} e s c) i k h g m = go (near c i k h g m) (inside c k m)
  where
    a : ℕ
    a = ancestor ls i

    b : ℕ
    b = ancestor ls k

    go : Near a b → b < length l.keys → Near (ancestor (l ∷ ls) i) (ancestor (l ∷ ls) k)
    go r v = by (leb (get_or l.intervals (suc (owner l.intervals a)) (length l.keys)) b) refl
      where
        by : (t : Bool) → leb (get_or l.intervals (suc (owner l.intervals a)) (length l.keys)) b ≡ t → Near (ancestor (l ∷ ls) i) (ancestor (l ∷ ls) k)
        by true e =
            let o = owner_goes_on s r.least r.most v (leb-true (get_or l.intervals (suc (owner l.intervals a)) (length l.keys)) b e) in
            record { least = omega (arith, o, ancestor_more l ls i, ancestor_more l ls k); most = omega (arith, o, ancestor_more l ls i, ancestor_more l ls k) }
        by false e =
            let o = owner_stays s r.least r.most v (leb-false (get_or l.intervals (suc (owner l.intervals a)) (length l.keys)) b e) in
            record { least = omega (arith, o, ancestor_more l ls i, ancestor_more l ls k); most = omega (arith, o, ancestor_more l ls i, ancestor_more l ls k) }

-- ---- the layers below a depth

pub below : {n : ℕ} {ls : List Layer} → Chain n ls → (d : ℕ) → d < length ls → Chain (length (layer ls d).keys) (drop (suc d) ls)
below cend d h = absurd (omega arith)
below (cnext e s c) zero h = c
below (cnext e s c) (suc d) h = below c d (omega arith)

pub sound_at : {n : ℕ} {ls : List Layer} → Chain n ls → (d : ℕ) → d < length ls → Sound (layer ls d).intervals (layer ls d).keys
sound_at cend d h = absurd (omega arith)
sound_at (cnext e s c) zero h = s
sound_at (cnext e s c) (suc d) h = sound_at c d (omega arith)

pub under_below : (n : ℕ) (ls : List Layer) (d : ℕ) → d < length ls → under n ls ≡ under (length (layer ls d).keys) (drop (suc d) ls)
unfolding under
under_below n [] d h = absurd (omega arith)
under_below n (l ∷ ls) zero h = refl
under_below n (l ∷ ls) (suc d) h = under_below (length l.keys) ls d (omega arith)

-- ---- the words on a path are the row's

grown : (ps : List Row) (ints : List ℕ) (at : ℕ) (ks : List ℕ) (j : ℕ) → j < length ks → get_or (grow ps ints at ks) j [] ≡ get_or ps (owner ints (at + j)) [] ++ (get_or ks j 0 ∷ [])
unfolding grow owner
grown ps ints at [] j h = absurd (omega arith)
grown ps ints at (k ∷ ks) zero h = ap (λ (m : ℕ). get_or ps (owner ints m) [] ++ (k ∷ [])) (let e : at ≡ at + 0 = omega arith in e)
grown ps ints at (k ∷ ks) (suc j) h =
    grown ps ints (suc at) ks j (omega arith) ∙ ap (λ (m : ℕ). get_or ps (owner ints m) [] ++ (get_or ks j 0 ∷ [])) (let e : suc at + j ≡ at + suc j = omega arith in e)

-- the words of row i in these layers
unfoldable pub words_on : List Layer → ℕ → Row
words_on [] i = []
words_on (l ∷ ls) i = get_or l.keys (ancestor ls i) 0 ∷ words_on ls i

row_from : {n : ℕ} {ls : List Layer} → Chain n ls → (ps : List Row) (i : ℕ) → i < under n ls → get_or (rows_from ps ls) i [] ≡ get_or ps (ancestor ls i) [] ++ words_on ls i
unfolding under rows_from words_on
row_from cend ps i h = ap (λ (m : ℕ). get_or ps m []) (sym (ancestor_none i)) ∙ sym (append-nil (get_or ps (ancestor [] i) []))
row_from (cnext {n} {l} {ls} e s c) ps i h =
    let a = ancestor ls i in
    let p = get_or ps (owner l.intervals a) [] in
    let w = get_or l.keys a 0 in
    row_from c (grow ps l.intervals 0 l.keys) i h
    ∙ ap (λ (r : Row). r ++ words_on ls i) (grown ps l.intervals 0 l.keys a (inside c i h) ∙ ap (λ (m : ℕ). get_or ps (owner l.intervals m) [] ++ (w ∷ [])) (let z : 0 + a ≡ a = omega arith in z))
    ∙ append_assoc p (w ∷ []) (words_on ls i)
    ∙ ap (λ (m : ℕ). get_or ps m [] ++ (w ∷ words_on ls i)) (sym (ancestor_more l ls i))

pub row_is : {n : ℕ} {ls : List Layer} → Chain n ls → (i : ℕ) → i < under n ls → get_or (rows_of ls) i [] ≡ words_on ls i
unfolding rows_of
row_is {n} {ls} c i h = row_from c ([] ∷ []) i h ∙ ap (λ (r : Row). r ++ words_on ls i) (none (ancestor ls i))
  where
    none : (m : ℕ) → ◌≡◌ {A = Row} (get_or ([] ∷ []) m []) []
    none zero = refl
    none (suc m) = refl

pub word_is : (ls : List Layer) (i d : ℕ) → d < length ls → get_or (words_on ls i) d 0 ≡ get_or (layer ls d).keys (ancestor (drop (suc d) ls) i) 0
unfolding words_on
word_is [] i d h = absurd (omega arith)
word_is (l ∷ ls) i zero h = refl
word_is (l ∷ ls) i (suc d) h = word_is ls i d (omega arith)
