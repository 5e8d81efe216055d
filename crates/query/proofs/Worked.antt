-- Two of document 01's worked joins by the meaning itself: the triangle's three rows are its listing, so what is proved of queries that pass is not
-- empty, and "no atoms and no variables give one empty row".
-- Idea: all is computed; rows that are their own set ascend.
use Prim.Native.Nat.{◌<◌}
use native.Mathlib.Omega.{arith}
use mathlib.Core.Path.{◌≡◌, refl, subst}
use mathlib.Core.Bool.{true}
use mathlib.Core.List.{List, [], ◌∷◌}
use lib.ListN.{length}
use lib.Dec.{eqb}
use borrow.Author.Tests.{eqb-true}
use Rattle.relation.specs.Order.{Row}
use Rattle.relation.specs.Lists.{◌∈◌, hd, tl, not_in_nil}
use Rattle.relation.specs.Rows.{Asc, as_set}
use Rattle.relation.proofs.Sorting.{as_set_asc}
use Rattle.query.specs.Meaning.{Atom, Listing, follows, Table, Passes}
use Rattle.query.specs.Solve.{listing}
use Rattle.query.specs.Checks.{every, permutes, covers}
use Rattle.query.proofs.Checks.{every_in, passes_of}
use Rattle.query.proofs.Listed.{listing_listing}

-- R(0,1) = (1,2),(1,3),(2,3); S(1,2) = (2,3),(3,1); T(0,2) = (1,1),(1,3),(2,1)
abbrev pub triangle : List Atom
triangle =
    record { vars = 0 ∷ 1 ∷ []; rows = (1 ∷ 2 ∷ []) ∷ (1 ∷ 3 ∷ []) ∷ (2 ∷ 3 ∷ []) ∷ [] } ∷
    record { vars = 1 ∷ 2 ∷ []; rows = (2 ∷ 3 ∷ []) ∷ (3 ∷ 1 ∷ []) ∷ [] } ∷
    record { vars = 0 ∷ 2 ∷ []; rows = (1 ∷ 1 ∷ []) ∷ (1 ∷ 3 ∷ []) ∷ (2 ∷ 1 ∷ []) ∷ [] } ∷
    []

table : (a : Atom) → 0 < length a.vars → every (λ (r : Row). eqb (length r) (length a.vars)) a.rows ≡ true → as_set a.rows ≡ a.rows → Table a
table a h w s = record {
  positive = h;
  wide = λ r m. eqb-true (length r) (length a.vars) (every_in (λ (r : Row). eqb (length r) (length a.vars)) a.rows w r m);
  ascending = subst Asc s (as_set_asc a.rows);
}

triangle_passes : Passes 3 (0 ∷ 1 ∷ 2 ∷ []) triangle
unfolding permutes follows covers every as_set
triangle_passes = passes_of 3 (0 ∷ 1 ∷ 2 ∷ []) triangle refl follow refl tables
  where
    follow : (a : Atom) → a ∈ triangle → follows (0 ∷ 1 ∷ 2 ∷ []) a.vars ≡ true
    follow a (hd e) = rw e refl
    follow a (tl (hd e)) = rw e refl
    follow a (tl (tl (hd e))) = rw e refl
    follow a (tl (tl (tl m))) = absurd (not_in_nil m)

    tables : (a : Atom) → a ∈ triangle → Table a
    tables a (hd e) = rw e (table _ (omega arith) refl refl)
    tables a (tl (hd e)) = rw e (table _ (omega arith) refl refl)
    tables a (tl (tl (hd e))) = rw e (table _ (omega arith) refl refl)
    tables a (tl (tl (tl m))) = absurd (not_in_nil m)

pub triangle_listing : Listing 3 (0 ∷ 1 ∷ 2 ∷ []) triangle ((1 ∷ 2 ∷ 3 ∷ []) ∷ (1 ∷ 3 ∷ 1 ∷ []) ∷ (2 ∷ 3 ∷ 1 ∷ []) ∷ [])
unfolding listing
triangle_listing = listing_listing triangle_passes

pub no_atoms_no_variables : Listing 0 [] [] ([] ∷ [])
unfolding permutes covers listing
no_atoms_no_variables = listing_listing (passes_of 0 [] [] refl (λ a m. absurd (not_in_nil m)) refl (λ a m. absurd (not_in_nil m)))
