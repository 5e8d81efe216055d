-- Internal: contracts of the walk along the complete listing, beside the recorded one: how many rows agree, and the first that is not the one listed at its place.
use Rattle.std.specs.Prelude.{ℕ, ◌+◌, ◌≡◌, ◌&&◌, List, [], ◌∷◌, length, get_or, take, ltb, Some, None, is_some}
use Rattle.relation.specs.Order.{Row, pick}
use Rattle.relation.specs.Rows.{same}
use Rattle.listing_verdict.specs.Checked.{eight}
use Rattle.listing_check.specs.declared.Reached.{Reached}

-- so many rows agree, and no other was looked at
abbrev pub agreed : ℕ → Reached
agreed at = record { at = at; missing = None }

-- all rows that were looked at do
abbrev pub Agrees : Reached → Type 0
Agrees s = s ≡ agreed s.at

-- one row more of the complete listing: it is the next one listed, or it is missing. What comes behind a missing row is not looked at
unfoldable pub meet : List Row → Reached → Row → Reached
unfolding same
meet rows s r =
    pick (is_some s.missing) s
    (pick (ltb s.at (length rows) && same (get_or rows s.at []) r) (agreed (s.at + 1)) (record { at = s.at; missing = Some (eight r) }))

-- one after another
unfoldable pub meets : List Row → Reached → List Row → Reached
unfolding meet
meets rows s [] = s
meets rows s (r ∷ rs) = meets rows (meet rows s r) rs

-- eight words of which those past n are zeros
abbrev pub Padded : ℕ → Row → Type 0
Padded n row = row ≡ eight (take n row)
