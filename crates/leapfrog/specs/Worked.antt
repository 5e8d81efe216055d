-- Of theorems: small cases, computed.
use Rattle.std.specs.Prelude.{◌≡◌, refl, List, [], ◌∷◌, ℕ}
use Rattle.relation.specs.Runs.{from}
use Rattle.relation.specs.Layers.{prefixes, under, keys_under}
use Rattle.query.specs.Meaning.{Atom}
use Rattle.query.specs.Meet.{total}
use Rattle.query.specs.Solve.{beyond, headed, bind, runs}
use Rattle.query.specs.Window.{emit}
use Rattle.leapfrog.specs.Search.{Went, on, out, search_from, search_of, go_on, next_of, place_run, sorted_runs, some_none, init_of}
use Rattle.leapfrog.specs.Walk.{depth_of, walk_of, join_seeks}

-- Veldhuizen 2014, figure 2: three runs whose only common key is 8
abbrev pub figure : List (List ℕ)
figure = (0 ∷ 1 ∷ 3 ∷ 4 ∷ 5 ∷ 6 ∷ 7 ∷ 8 ∷ 9 ∷ 11 ∷ []) ∷ (0 ∷ 2 ∷ 6 ∷ 7 ∷ 8 ∷ 9 ∷ []) ∷ (2 ∷ 4 ∷ 5 ∷ 8 ∷ 10 ∷ []) ∷ []

abbrev pub stands : Went
stands = record { runs = (8 ∷ 9 ∷ 11 ∷ []) ∷ (8 ∷ 9 ∷ []) ∷ (8 ∷ 10 ∷ []) ∷ []; place = 2; stop = on 8; seeks = 5 }

first_key : init_of figure ≡ stands
unfolding init_of some_none sorted_runs place_run search_of search_from from total
first_key = refl

-- from there C passes 8, A seeks 10, and B seeks 11, which it has not
then_none : next_of stands.runs stands.place ≡ record { runs = (11 ∷ []) ∷ [] ∷ (10 ∷ []) ∷ []; place = 1; stop = out; seeks = 2 }
unfolding next_of go_on search_of search_from from total
then_none = refl

-- with the ring in atom order again A passes 8 and stands on 9, B seeks 9, and C seeks 9 and stands on 10, A seeks 10, and B seeks 11: four seeks
anew_none : (next_of stands.runs 0).seeks ≡ 4
unfolding next_of go_on search_of search_from from total
anew_none = refl

-- the join R(0,1), S(1,2), T(0,2), docs/DIFFERENCES.md, 14: R seeks 2 at depth 0; under it, R and S agree on 2 with no seek, and S and T have 3 and 0, so T seeks 3,
-- which it has not; then the ring is in atom order again, and R, at its first place, goes past 2 and has ended. The paper, whose ring stands at T there, makes three
abbrev triangle : List Atom
triangle =
    record { vars = 0 ∷ 1 ∷ []; rows = (1 ∷ 0 ∷ []) ∷ (2 ∷ 2 ∷ []) ∷ [] } ∷
    record { vars = 1 ∷ 2 ∷ []; rows = (2 ∷ 3 ∷ []) ∷ [] } ∷
    record { vars = 0 ∷ 2 ∷ []; rows = (2 ∷ 0 ∷ []) ∷ (3 ∷ 1 ∷ []) ∷ [] } ∷
    []

two_seeks : join_seeks 3 (0 ∷ 1 ∷ 2 ∷ []) triangle [] ≡ 2
unfolding join_seeks walk_of depth_of init_of some_none sorted_runs place_run next_of go_on search_of search_from from total runs bind headed beyond under keys_under prefixes emit
two_seeks = refl
