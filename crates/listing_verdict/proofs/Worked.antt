-- The verdict computed on the worked triangle's listings, and on none and one and two rows without words.
use mathlib.Core.Path.{◌≡◌, refl}
use mathlib.Core.List.{List, [], ◌∷◌}
use Prim.Native.Nat.{ℕ}
use Rattle.relation.specs.Rows.{cut}
use Rattle.query.specs.Solve.{listing}
use Rattle.query.proofs.Worked.{triangle}
use Rattle.listing_verdict.specs.Verdict.{Verdict, accepted, wrong, missing, how_many, rows_listed, verdict}

-- the triangle has the rows (1,2,3), (1,3,1), (2,3,1)
abbrev on : List ℕ → Verdict
on words = verdict (0 ∷ 1 ∷ 2 ∷ []) (listing 3 (0 ∷ 1 ∷ 2 ∷ []) triangle) (rows_listed 3 words 0)

all_listed : on (1 ∷ 2 ∷ 3 ∷ 1 ∷ 3 ∷ 1 ∷ 2 ∷ 3 ∷ 1 ∷ []) ≡ accepted
unfolding verdict listing how_many cut
all_listed = refl

none_listed : on [] ≡ missing (1 ∷ 2 ∷ 3 ∷ [])
unfolding verdict listing how_many cut
none_listed = refl

last_missing : on (1 ∷ 2 ∷ 3 ∷ 1 ∷ 3 ∷ 1 ∷ []) ≡ missing (2 ∷ 3 ∷ 1 ∷ [])
unfolding verdict listing how_many cut
last_missing = refl

-- two are missing, and the lesser is named
two_missing : on (1 ∷ 3 ∷ 1 ∷ []) ≡ missing (1 ∷ 2 ∷ 3 ∷ [])
unfolding verdict listing how_many cut
two_missing = refl

doubled : on (1 ∷ 2 ∷ 3 ∷ 1 ∷ 2 ∷ 3 ∷ 1 ∷ 3 ∷ 1 ∷ 2 ∷ 3 ∷ 1 ∷ []) ≡ wrong 1
unfolding verdict listing how_many cut
doubled = refl

exchanged : on (2 ∷ 3 ∷ 1 ∷ 1 ∷ 3 ∷ 1 ∷ 1 ∷ 2 ∷ 3 ∷ []) ≡ wrong 1
unfolding verdict listing how_many cut
exchanged = refl

no_answer : on (1 ∷ 2 ∷ 3 ∷ 1 ∷ 3 ∷ 1 ∷ 2 ∷ 3 ∷ 2 ∷ []) ≡ wrong 2
unfolding verdict listing how_many cut
no_answer = refl

-- a wrong row is named before one that is missing
both : on (1 ∷ 3 ∷ 1 ∷ 2 ∷ 3 ∷ 2 ∷ []) ≡ wrong 1
unfolding verdict listing how_many cut
both = refl

-- without variables there is one row, without words
abbrev count : ℕ → Verdict
count n = verdict [] (listing 0 [] []) (rows_listed 0 [] n)

count_0 : count 0 ≡ missing []
unfolding verdict listing how_many cut
count_0 = refl

count_1 : count 1 ≡ accepted
unfolding verdict listing how_many cut
count_1 = refl

count_2 : count 2 ≡ wrong 1
unfolding verdict listing how_many cut
count_2 = refl
