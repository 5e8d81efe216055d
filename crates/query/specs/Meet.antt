-- Public: the keys that runs have in common. A run is an ascending list of keys: what a cursor has not yet passed, so its head is the cursor's key.
use Rattle.std.specs.Prelude.{ℕ, ◌+◌, ◌<◌, ◌≡◌, Bool, true, false, List, [], ◌∷◌, length, get_or, drop, eqb}
use Rattle.relation.specs.Order.{pick}
use Rattle.relation.specs.Lists.{◌∈◌, Ascends}

-- whether k is one of the keys
unfoldable pub has : List ℕ → ℕ → Bool
has [] k = false
has (x ∷ xs) k = pick (eqb x k) true (has xs k)

-- whether every run has k
unfoldable pub in_all : List (List ℕ) → ℕ → Bool
unfolding has
in_all [] k = true
in_all (r ∷ rs) k = pick (has r k) (in_all rs k) false

-- the keys that pass the test
unfoldable pub keep : (ℕ → Bool) → List ℕ → List ℕ
keep p [] = []
keep p (x ∷ xs) = pick (p x) (x ∷ keep p xs) (keep p xs)

-- the keys that all the runs have: those of the first that are in the others; of no runs, none
unfoldable pub meet : List (List ℕ) → List ℕ
unfolding keep in_all
meet [] = []
meet (r ∷ rs) = keep (in_all rs) r

-- every run ascends
abbrev pub Runs : List (List ℕ) → Type 0
Runs rs = (i : ℕ) → i < length rs → Ascends ◌<◌ (get_or rs i [])

-- every run has k
abbrev pub All : List (List ℕ) → ℕ → Type 0
All rs k = (i : ℕ) → i < length rs → k ∈ get_or rs i []

-- every run begins with x
abbrev pub Agree : List (List ℕ) → ℕ → Type 0
Agree rs x = (i : ℕ) → i < length rs → get_or rs i [] ≡ x ∷ drop 1 (get_or rs i [])

-- the keys not yet passed, of all runs: what falls at each seek of a search
unfoldable pub total : List (List ℕ) → ℕ
total [] = 0
total (r ∷ rs) = length r + total rs
