-- Public: rows of words in lexicographic order: as a test and as a fact.
use Rattle.std.specs.Prelude.{ℕ, ◌<◌, ◌≡◌, Bool, true, false, List, [], ◌∷◌, ltb, eqb}

-- a row of words
abbrev pub Row : Type 0
Row = List ℕ

-- the first of two where the test holds, else the second
abbrev pub pick {ℓ} : {A : Type ℓ} → Bool → A → A → A
pick true a b = a
pick false a b = b

-- row a comes strictly before row b, word by word from the left
unfoldable pub before : Row → Row → Bool
before [] [] = false
before [] (y ∷ ys) = true
before (x ∷ xs) [] = false
before (x ∷ xs) (y ∷ ys) = pick (ltb x y) true (pick (eqb x y) (before xs ys) false)

-- the same as a fact: the empty row comes before any other; else the first words that differ decide
infix 50 ◌≺◌
pub data ◌≺◌ : Row → Row → Type 0 where
  nil≺ : {y : ℕ} {ys : Row} → [] ≺ (y ∷ ys)
  word≺ : {x y : ℕ} {xs ys : Row} → x < y → (x ∷ xs) ≺ (y ∷ ys)
  rest≺ : {x y : ℕ} {xs ys : Row} → x ≡ y → xs ≺ ys → (x ∷ xs) ≺ (y ∷ ys)
