-- Public: two ascending runs of keys as one: a key that both have stands once.
use Rattle.std.specs.Prelude.{ℕ, true, false, List, [], ◌∷◌, ltb}

-- the key put among keys that ascend, unless it is there
unfoldable pub put_key : ℕ → List ℕ → List ℕ
put_key k [] = k ∷ []
put_key k (y ∷ ys) = elim (ltb k y) [ true ↦ k ∷ (y ∷ ys) | false ↦ elim (ltb y k) [ true ↦ y ∷ put_key k ys | false ↦ y ∷ ys ] ]

-- the keys of both runs, each once
unfoldable pub merge : List ℕ → List ℕ → List ℕ
unfolding put_key
merge [] ys = ys
merge (x ∷ xs) ys = put_key x (merge xs ys)
