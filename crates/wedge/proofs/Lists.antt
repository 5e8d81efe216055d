-- Lists with a word more or a word less, and lists of which some words become others where they stand: one more, or one less.
use Prim.Native.Nat.{ℕ, zero, suc, ◌-◌, ◌≤◌, ◌<◌}
use mathlib.Core.Path.{◌≡◌, refl, ap, ap₂, ◌∙◌}
use mathlib.Core.List.{List, [], ◌∷◌, ◌++◌, map}
use native.Mathlib.Omega.{arith}
use lib.ListN.{length, take, drop, get_or, length-map}
use Rattle.std.proofs.lemmas.List.{take_at, drop_at}
use borrow.Rule.Slice.PartMut.{put_mid}

-- ---- a word more or less

-- the word at j of what stands behind the new one stood one before it
pub wedged_behind : (n w : ℕ) (xs : List ℕ) (j : ℕ) → n ≤ j → j < length xs → get_or (take n xs ++ w ∷ drop n xs) (suc j) 0 ≡ get_or xs j 0
wedged_behind zero w xs j h k = refl
wedged_behind (suc n) w [] j h k = absurd (omega arith)
wedged_behind (suc n) w (x ∷ xs) zero h k = absurd (omega arith)
wedged_behind (suc n) w (x ∷ xs) (suc j) h k = wedged_behind n w xs j (omega arith) (omega arith)

pub length_wedged : (n w : ℕ) (xs : List ℕ) → length (take n xs ++ w ∷ drop n xs) ≡ suc (length xs)
length_wedged zero w xs = refl
length_wedged (suc n) w [] = refl
length_wedged (suc n) w (x ∷ xs) = ap suc (length_wedged n w xs)

pub length_closed : (n : ℕ) (xs : List ℕ) → n < length xs → length (take n xs ++ drop (suc n) xs) ≡ length xs - 1
length_closed n [] h = absurd (omega arith)
length_closed zero (x ∷ xs) h = let e : length xs ≡ suc (length xs) - 1 = omega arith in e
length_closed (suc n) (x ∷ xs) h = let z = length_closed n xs (omega arith) in omega arith

-- ---- words that become others

abbrev pub lifted : (ℕ → ℕ) → ℕ → List ℕ → List ℕ
lifted f n xs = take n xs ++ map f (drop n xs)

pub length_lifted : (f : ℕ → ℕ) (n : ℕ) (xs : List ℕ) → length (lifted f n xs) ≡ length xs
length_lifted f zero xs = length-map xs f
length_lifted f (suc n) [] = refl
length_lifted f (suc n) (x ∷ xs) = ap suc (length_lifted f n xs)

-- words in the middle that are lent
pub middle_lifted : (f : ℕ → ℕ) (p q r : List ℕ) (a k : ℕ) → length p ≡ a → length q ≡ k → put_mid a k (p ++ (q ++ r)) (map f (take k (drop a (p ++ (q ++ r))))) ≡ p ++ (map f q ++ r)
middle_lifted f p q r a k e h =
    ap₂ (λ (l m : List ℕ). l ++ (map f (take k m) ++ drop k m)) (take_at p (q ++ r) a e) (drop_at p (q ++ r) a e)
    ∙ ap₂ (λ (l m : List ℕ). p ++ (map f l ++ m)) (take_at q r k h) (drop_at q r k h)

-- xs with w at place n, and f done to what comes behind
abbrev pub gap : ℕ → ℕ → (ℕ → ℕ) → List ℕ → List ℕ
gap n w f xs = take n xs ++ w ∷ map f (drop n xs)

pub length_gap : (n w : ℕ) (f : ℕ → ℕ) (xs : List ℕ) → length (gap n w f xs) ≡ suc (length xs)
length_gap zero w f xs = ap suc (length-map xs f)
length_gap (suc n) w f [] = refl
length_gap (suc n) w f (x ∷ xs) = ap suc (length_gap n w f xs)

-- xs without its word at place n, and f done to what comes behind
abbrev pub lapse : ℕ → (ℕ → ℕ) → List ℕ → List ℕ
lapse n f xs = take n xs ++ map f (drop (suc n) xs)

pub length_lapse : (n : ℕ) (f : ℕ → ℕ) (xs : List ℕ) → n < length xs → length (lapse n f xs) ≡ length xs - 1
length_lapse n f [] h = absurd (omega arith)
length_lapse zero f (x ∷ xs) h = length-map xs f ∙ (let e : length xs ≡ suc (length xs) - 1 = omega arith in e)
length_lapse (suc n) f (x ∷ xs) h = let z = length_lapse n f xs (omega arith) in omega arith
