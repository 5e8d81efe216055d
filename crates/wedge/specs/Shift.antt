-- Internal: a list with a free word behind it, and words that can be raised by one, or lowered by one.
use Rattle.std.specs.Prelude.{ℕ, ◌-◌, ◌≤◌, ◌<◌, ◌^◌, List, get_or, length, take}

-- the list, where the last of the words is free
abbrev pub listed : List ℕ → List ℕ
listed words = take (length words - 1) words

-- the words from place a up to place e can be raised
abbrev pub SmallFrom : ℕ → ℕ → List ℕ → Type 0
SmallFrom a e pool = (j : ℕ) → a ≤ j → j < e → get_or pool j 0 < 2 ^ 32

-- they can be lowered
abbrev pub PositiveFrom : ℕ → ℕ → List ℕ → Type 0
PositiveFrom a e pool = (j : ℕ) → a ≤ j → j < e → 0 < get_or pool j 0

-- one less
abbrev pub lessened : ℕ → ℕ
lessened w = w - 1
