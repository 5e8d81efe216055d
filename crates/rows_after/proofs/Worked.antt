-- Worked cases of a join that starts or goes on, by the definitions themselves: over document 01's triangle, over a variable with the least and the greatest word, over
-- an order that is not the variables' own, and without variables. Each row list is found by the descent with a bound too.
-- Idea: all is computed.
use Prim.Native.Nat.{ℕ}
use mathlib.Core.Path.{◌≡◌, refl}
use mathlib.Core.Bool.{true, false}
use mathlib.Core.List.{List, [], ◌∷◌}
use lib.ListN.{replicate, take}
use Rattle.relation.specs.Order.{Row}
use Rattle.query.specs.Meaning.{Atom}
use Rattle.query.specs.Solve.{listing}
use Rattle.query.specs.Window.{windowed}
use Rattle.query.specs.Outcome.{told}
use Rattle.query.proofs.Worked.{triangle}
use Rattle.rows_after.specs.After.{after_row, asked, last_of, stood_at, padded}
use Rattle.rows_after.specs.Bounded.{extend_after}

-- ---- the triangle: its rows are (1,2,3), (1,3,1), (2,3,1)

abbrev order : List ℕ
order = 0 ∷ 1 ∷ 2 ∷ []

abbrev rows : List Row
rows = listing 3 order triangle

-- the rows that a call lists, at a start and after a row, and those of the descent with a bound
abbrev after : Row → List Row
after given = asked order true given rows

abbrev bounded : Row → List Row
bounded given = extend_after 3 order triangle (replicate 3 0) given

start : asked order false (9 ∷ 9 ∷ 9 ∷ 9 ∷ 9 ∷ 9 ∷ 9 ∷ 9 ∷ []) rows ≡ (1 ∷ 2 ∷ 3 ∷ []) ∷ (1 ∷ 3 ∷ 1 ∷ []) ∷ (2 ∷ 3 ∷ 1 ∷ []) ∷ []
unfolding listing
start = refl

-- after an answer; words past the third do not count
after_an_answer : (after (1 ∷ 2 ∷ 3 ∷ 7 ∷ 7 ∷ 7 ∷ 7 ∷ 7 ∷ []) ≡ (1 ∷ 3 ∷ 1 ∷ []) ∷ (2 ∷ 3 ∷ 1 ∷ []) ∷ []) × (bounded (1 ∷ 2 ∷ 3 ∷ 7 ∷ 7 ∷ 7 ∷ 7 ∷ 7 ∷ []) ≡ (1 ∷ 3 ∷ 1 ∷ []) ∷ (2 ∷ 3 ∷ 1 ∷ []) ∷ [])
unfolding listing after_row extend_after
after_an_answer = (refl, refl)

-- after rows that are no answers: between two, and one whose first word no row has
after_no_answer : (after (1 ∷ 3 ∷ 0 ∷ 0 ∷ 0 ∷ 0 ∷ 0 ∷ 0 ∷ []) ≡ (1 ∷ 3 ∷ 1 ∷ []) ∷ (2 ∷ 3 ∷ 1 ∷ []) ∷ []) × (bounded (1 ∷ 3 ∷ 0 ∷ 0 ∷ 0 ∷ 0 ∷ 0 ∷ 0 ∷ []) ≡ (1 ∷ 3 ∷ 1 ∷ []) ∷ (2 ∷ 3 ∷ 1 ∷ []) ∷ [])
unfolding listing after_row extend_after
after_no_answer = (refl, refl)

after_another : (after (1 ∷ 9 ∷ 9 ∷ 0 ∷ 0 ∷ 0 ∷ 0 ∷ 0 ∷ []) ≡ (2 ∷ 3 ∷ 1 ∷ []) ∷ []) × (bounded (1 ∷ 9 ∷ 9 ∷ 0 ∷ 0 ∷ 0 ∷ 0 ∷ 0 ∷ []) ≡ (2 ∷ 3 ∷ 1 ∷ []) ∷ [])
unfolding listing after_row extend_after
after_another = (refl, refl)

-- after the last row
after_the_last : (after (2 ∷ 3 ∷ 1 ∷ 0 ∷ 0 ∷ 0 ∷ 0 ∷ 0 ∷ []) ≡ []) × (bounded (2 ∷ 3 ∷ 1 ∷ 0 ∷ 0 ∷ 0 ∷ 0 ∷ 0 ∷ []) ≡ [])
unfolding listing after_row extend_after
after_the_last = (refl, refl)

-- ---- the least and the greatest word

abbrev ends : List Atom
ends = record { vars = 0 ∷ []; rows = (0 ∷ []) ∷ (18446744073709551615 ∷ []) ∷ [] } ∷ []

after_the_least : (after_row (0 ∷ []) (0 ∷ []) (listing 1 (0 ∷ []) ends) ≡ (18446744073709551615 ∷ []) ∷ []) × (extend_after 1 (0 ∷ []) ends (0 ∷ []) (0 ∷ []) ≡ (18446744073709551615 ∷ []) ∷ [])
unfolding listing after_row extend_after
after_the_least = (refl, refl)

after_the_greatest : (after_row (0 ∷ []) (18446744073709551615 ∷ []) (listing 1 (0 ∷ []) ends) ≡ []) × (extend_after 1 (0 ∷ []) ends (0 ∷ []) (18446744073709551615 ∷ []) ≡ [])
unfolding listing after_row extend_after
after_the_greatest = (refl, refl)

-- ---- variable 1 comes first in the order: rows are written by variable number and follow each other by the order

abbrev turned : List Atom
turned = record { vars = 1 ∷ 0 ∷ []; rows = (1 ∷ 5 ∷ []) ∷ (1 ∷ 6 ∷ []) ∷ (2 ∷ 0 ∷ []) ∷ [] } ∷ []

by_the_order : (after_row (1 ∷ 0 ∷ []) (5 ∷ 1 ∷ []) (listing 2 (1 ∷ 0 ∷ []) turned) ≡ (6 ∷ 1 ∷ []) ∷ (0 ∷ 2 ∷ []) ∷ []) × (extend_after 2 (1 ∷ 0 ∷ []) turned (0 ∷ 0 ∷ []) (5 ∷ 1 ∷ []) ≡ (6 ∷ 1 ∷ []) ∷ (0 ∷ 2 ∷ []) ∷ [])
unfolding listing after_row extend_after
by_the_order = (refl, refl)

-- ---- no variables: the start gives the empty row, going on none

nothing_at_a_start : asked [] false (9 ∷ []) (listing 0 [] []) ≡ [] ∷ []
unfolding listing
nothing_at_a_start = refl

nothing_going_on : (asked [] true (9 ∷ []) (listing 0 [] []) ≡ []) × (extend_after 0 [] [] [] (9 ∷ []) ≡ [])
unfolding listing after_row extend_after
nothing_going_on = (refl, refl)

-- ---- the window and the row handed back

-- room for one row of two that remain: 12, and the row written is handed back, zeros behind it
one_of_two : told (windowed (8 ∷ 8 ∷ 8 ∷ []) 3 (after (1 ∷ 2 ∷ 3 ∷ 7 ∷ 7 ∷ 7 ∷ 7 ∷ 7 ∷ []))) ≡ record { number = 12; rows = 1; words = 1 ∷ 3 ∷ 1 ∷ [] }
unfolding listing after_row told windowed
one_of_two = refl

its_last : padded (last_of (stood_at 3 true (1 ∷ 2 ∷ 3 ∷ 7 ∷ 7 ∷ 7 ∷ 7 ∷ 7 ∷ [])) (take 1 (after (1 ∷ 2 ∷ 3 ∷ 7 ∷ 7 ∷ 7 ∷ 7 ∷ 7 ∷ [])))) ≡ 1 ∷ 3 ∷ 1 ∷ 0 ∷ 0 ∷ 0 ∷ 0 ∷ 0 ∷ []
unfolding listing after_row last_of
its_last = refl

-- no room while rows remain: 12 and no rows; the given row is handed back where the call goes on, and zeros at a start
no_room : told (windowed [] 3 (after (1 ∷ 2 ∷ 3 ∷ 7 ∷ 7 ∷ 7 ∷ 7 ∷ 7 ∷ []))) ≡ record { number = 12; rows = 0; words = [] }
unfolding listing after_row told windowed
no_room = refl

handed_back : padded (last_of (stood_at 3 true (1 ∷ 2 ∷ 3 ∷ 7 ∷ 7 ∷ 7 ∷ 7 ∷ 7 ∷ [])) []) ≡ 1 ∷ 2 ∷ 3 ∷ 0 ∷ 0 ∷ 0 ∷ 0 ∷ 0 ∷ []
unfolding last_of
handed_back = refl

zeros_at_a_start : padded (last_of (stood_at 3 false (1 ∷ 2 ∷ 3 ∷ 7 ∷ 7 ∷ 7 ∷ 7 ∷ 7 ∷ [])) []) ≡ 0 ∷ 0 ∷ 0 ∷ 0 ∷ 0 ∷ 0 ∷ 0 ∷ 0 ∷ []
unfolding last_of
zeros_at_a_start = refl

-- no room and none remain: 0
no_room_needed : told (windowed [] 3 (after (2 ∷ 3 ∷ 1 ∷ 0 ∷ 0 ∷ 0 ∷ 0 ∷ 0 ∷ []))) ≡ record { number = 0; rows = 0; words = [] }
unfolding listing after_row told windowed
no_room_needed = refl
