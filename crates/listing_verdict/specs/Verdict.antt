-- Public: the verdict on a recorded listing, computed from its rows and those of the complete one: the first row that is wrong, else the first that is missing, else accepted.
use Rattle.std.specs.Prelude.{ℕ, zero, suc, ◌/◌, Bool, true, ◌&&◌, List, [], ◌∷◌, length, get_or, ltb}
use Rattle.relation.specs.Order.{Row, pick, before}
use Rattle.relation.specs.Rows.{cut, same}
use Rattle.query.specs.Meaning.{part}
use Rattle.query.specs.Checks.{some}

-- accepted; wrong at a row, counted from 0; or a row is missing
pub data Verdict : Type 0 where
  accepted : Verdict
  wrong : ℕ → Verdict
  missing : Row → Verdict

-- ---- the listed rows

-- how many rows of n words there are in len words; rows without words are as many as the count beside them says, which is read for these alone
unfoldable pub how_many : ℕ → ℕ → ℕ → ℕ
how_many zero len count = count
how_many (suc n) len count = len / suc n

abbrev pub rows_listed : ℕ → List ℕ → ℕ → List Row
rows_listed n words count = cut (how_many n (length words) count) n words

-- ---- a row that is wrong

-- row i comes strictly after the one before it, as read in the order; row 0 has none before it
unfoldable pub in_sequence : List ℕ → List Row → ℕ → Bool
unfolding before
in_sequence order rows zero = true
in_sequence order rows (suc i) = before (part order (get_or rows i [])) (part order (get_or rows (suc i) []))

-- row i is one of all the rows there are, and in sequence
unfoldable pub good : List ℕ → List Row → List Row → ℕ → Bool
unfolding some same in_sequence
good order all rows i = some (same (get_or rows i [])) all && in_sequence order rows i

-- the first index below n at which the test fails; n, where it fails at none
unfoldable pub first_fail : ℕ → (ℕ → Bool) → ℕ
first_fail zero p = 0
first_fail (suc n) p = pick (p 0) (suc (first_fail n (λ (i : ℕ). p (suc i)))) 0

-- ---- a row that is missing

-- the first of all the rows that is not among those listed
unfoldable pub lacks : List Row → List Row → Verdict
unfolding some same
lacks rows [] = accepted
lacks rows (r ∷ all) = pick (some (same r) rows) (lacks rows all) (missing r)

-- ---- the verdict on the listed rows, where `all` is the complete listing
unfoldable pub verdict : List ℕ → List Row → List Row → Verdict
unfolding good first_fail lacks
verdict order all rows = let i = first_fail (length rows) (good order all rows) in pick (ltb i (length rows)) (wrong i) (lacks rows all)
