-- Public: numbers and words as bytes, high byte first.
use Rattle.std.specs.Prelude.{ℕ, zero, suc, ◌+◌, ◌*◌, ◌/◌, ◌%◌, ◌<◌, Bool, true, false, ◌&&◌, List, [], ◌∷◌, ◌++◌, drop, get_or, eqb}

-- a number as k bytes
unfoldable pub bytes_of : ℕ → ℕ → List ℕ
bytes_of zero x = []
bytes_of (suc k) x = bytes_of k (x / 256) ++ (x % 256 ∷ [])

-- the number that the first k bytes are
unfoldable pub number : ℕ → List ℕ → ℕ
number zero bs = 0
number (suc k) bs = number k bs * 256 + get_or bs k 0

-- words as bytes, eight each
unfoldable pub encode : List ℕ → List ℕ
encode [] = []
encode (w ∷ ws) = bytes_of 8 w ++ encode ws

-- the words that the first 8n bytes are
unfoldable pub decode : ℕ → List ℕ → List ℕ
decode zero bs = []
decode (suc n) bs = number 8 bs ∷ decode n (drop 8 bs)

-- the bytes begin with xs
unfoldable pub begins : List ℕ → List ℕ → Bool
begins [] bs = true
begins (x ∷ xs) [] = false
begins (x ∷ xs) (b ∷ bs) = eqb x b && begins xs bs

-- all of them are bytes (past the end there is 0)
abbrev pub Bytes : List ℕ → Type 0
Bytes bs = (i : ℕ) → get_or bs i 0 < 256
