-- Small cases, computed: a surface replaced, one added, those that only the maker has; nothing laid over, and laid over nothing.
use mathlib.Core.Path.{◌≡◌, refl}
use mathlib.Core.List.{List, [], ◌∷◌}
use Rattle.relation.specs.Order.{Row, before}
use Rattle.relation.specs.Rows.{put, as_set}
use Rattle.overlay.specs.Merge.{put_key, merge}
use Rattle.overlay.specs.Laid.{owns, others, laid}

-- the school replaces 2 and adds 3; 1 and 5 are the maker's alone
abbrev maker : List Row
maker = (1 ∷ 10 ∷ []) ∷ (2 ∷ 20 ∷ []) ∷ (2 ∷ 21 ∷ []) ∷ (5 ∷ 50 ∷ []) ∷ []

abbrev school : List Row
school = (2 ∷ 29 ∷ []) ∷ (3 ∷ 30 ∷ []) ∷ []

counting : laid school maker ≡ (1 ∷ 10 ∷ []) ∷ (2 ∷ 29 ∷ []) ∷ (3 ∷ 30 ∷ []) ∷ (5 ∷ 50 ∷ []) ∷ []
unfolding laid others owns as_set put before
counting = refl

over_nothing : laid school [] ≡ school
unfolding laid others owns as_set put before
over_nothing = refl

nothing_over : laid [] maker ≡ maker
unfolding laid others owns as_set put before
nothing_over = refl

one_run : merge (2 ∷ 3 ∷ []) (1 ∷ 2 ∷ 5 ∷ []) ≡ 1 ∷ 2 ∷ 3 ∷ 5 ∷ []
unfolding merge put_key
one_run = refl
