-- Public: the text of a table, byte for byte that of the Rust's `Display`. A byte is its number in ASCII.
use Rattle.std.specs.Prelude.{ℕ, zero, suc, ◌+◌, ◌/◌, ◌%◌, true, false, List, [], ◌∷◌, ◌++◌, ltb}
use Rattle.relation.specs.Layers.{Layer}

-- a number's decimal digits, no leading zero, by at most `fuel` of them
unfoldable pub decimal_in : ℕ → ℕ → List ℕ
decimal_in zero n = []
decimal_in (suc fuel) n = elim (ltb n 10) [ true ↦ (48 + n) ∷ [] | false ↦ decimal_in fuel (n / 10) ++ ((48 + n % 10) ∷ []) ]

-- a number has no more digits than its own size and one
abbrev pub decimal : ℕ → List ℕ
decimal n = decimal_in (suc n) n

-- "LAYER ", "\nData: [", "]\n", "Interval: [" and ", "
abbrev pub layer_word : List ℕ
layer_word = 76 ∷ 65 ∷ 89 ∷ 69 ∷ 82 ∷ 32 ∷ []

abbrev pub data_word : List ℕ
data_word = 10 ∷ 68 ∷ 97 ∷ 116 ∷ 97 ∷ 58 ∷ 32 ∷ 91 ∷ []

abbrev pub closing : List ℕ
closing = 93 ∷ 10 ∷ []

abbrev pub interval_word : List ℕ
interval_word = 73 ∷ 110 ∷ 116 ∷ 101 ∷ 114 ∷ 118 ∷ 97 ∷ 108 ∷ 58 ∷ 32 ∷ 91 ∷ []

abbrev pub comma : List ℕ
comma = 44 ∷ 32 ∷ []

-- numbers, a comma before each but the first
unfoldable pub others : List ℕ → List ℕ
others [] = []
others (n ∷ ns) = (comma ++ decimal n) ++ others ns

unfoldable pub numbers : List ℕ → List ℕ
unfolding others
numbers [] = []
numbers (n ∷ ns) = decimal n ++ others ns

-- a layer from its two lists
abbrev pub lists : List ℕ → List ℕ → Layer
lists keys intervals = record { keys = keys; intervals = intervals }

-- a layer's three lines
unfoldable pub layer_text : ℕ → Layer → List ℕ
unfolding numbers
layer_text d l = ((layer_word ++ (decimal d ++ data_word)) ++ (numbers l.keys ++ closing)) ++ (interval_word ++ (numbers l.intervals ++ closing))

-- layer after layer, the first being layer d
unfoldable pub text_from : ℕ → List Layer → List ℕ
unfolding layer_text
text_from d [] = []
text_from d (l ∷ ls) = layer_text d l ++ text_from (suc d) ls

abbrev pub text : List Layer → List ℕ
text ls = text_from 0 ls
