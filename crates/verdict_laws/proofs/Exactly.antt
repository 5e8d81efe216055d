-- What each verdict says of the rows: accepted exactly for the complete listing, wrong at the first row that is not right, missing the least row that is not listed.
use Prim.Native.Nat.{ℕ}
use native.Mathlib.Omega.{arith}
use mathlib.Core.Path.{◌≡◌, sym, subst, ◌∙◌}
use mathlib.Core.List.{List, []}
use lib.ListN.{get_or}
use Rattle.relation.specs.Exactly.{Exactly}
use Rattle.relation.specs.Order.{Row}
use Rattle.relation.specs.Lists.{◌∈◌}
use Rattle.relation.proofs.Lists.{get_or_in, same_members}
use Rattle.relation.proofs.Order.{asym}
use Rattle.listing_verdict.specs.Verdict.{accepted, wrong, missing, verdict}
use Rattle.listing_verdict.specs.Facts.{InOrder, AllRight, FirstWrong, LeastMissing}
use Rattle.listing_verdict.proofs.Told.{Case, found, clean, cases, rise, comes_lacks}
use Rattle.listing_verdict.proofs.Lacks.{not_wrong, wrong_not_missing, same_wrong, lacks_never_wrong, lacks_none, none_lacking, lacking_least}
use Rattle.listing_verdict.proofs.Differs.{right_ascend, right_among}

-- rows in order that are all among `all` are right
pub sub_right : (order : List ℕ) (all : List Row) {rows : List Row} → InOrder order rows → ((r : Row) → r ∈ rows → r ∈ all) → AllRight order all rows
sub_right order all {rows} s f i h = record {
  among = f (get_or rows i []) (get_or_in rows i [] h);
  after = λ j e. rise order s j i (omega arith) h;
}

module _ (order : List ℕ) {all : List Row} (s : InOrder order all) (rows : List Row) where
  pub accepted_rows : verdict order all rows ≡ accepted → rows ≡ all
  accepted_rows e = go (cases order all rows)
    where
      go : Case order all rows → rows ≡ all
      go (found i w d) = absurd (not_wrong (sym e ∙ d))
      go (clean f d) = same_members (λ a b. asym) (right_ascend order all rows f) s (right_among order all rows f) (none_lacking rows all (sym d ∙ e))

  pub rows_accepted : rows ≡ all → verdict order all rows ≡ accepted
  rows_accepted e =
      let f : AllRight order all rows = sub_right order all (subst (InOrder order) (sym e) s) (λ r m. subst (λ (l : List Row). r ∈ l) e m) in
      comes_lacks order all rows f ∙ lacks_none rows all (λ r m. subst (λ (l : List Row). r ∈ l) (sym e) m)

  pub accepted_exactly_the_listing : Exactly (verdict order all rows ≡ accepted) (rows ≡ all)
  accepted_exactly_the_listing = (accepted_rows, rows_accepted)

  pub the_row_named_is_the_first_wrong_one : {i : ℕ} → verdict order all rows ≡ wrong i → FirstWrong order all rows i
  the_row_named_is_the_first_wrong_one {i} e = go (cases order all rows)
    where
      go : Case order all rows → FirstWrong order all rows i
      go (found j w d) = subst (FirstWrong order all rows) (same_wrong (sym d ∙ e)) w
      go (clean f d) = absurd (lacks_never_wrong rows all (sym d ∙ e))

  pub the_row_missing_is_the_least_one : {r : Row} → verdict order all rows ≡ missing r → AllRight order all rows × LeastMissing order all rows r
  the_row_missing_is_the_least_one {r} e = go (cases order all rows)
    where
      go : Case order all rows → AllRight order all rows × LeastMissing order all rows r
      go (found j w d) = absurd (wrong_not_missing (sym d ∙ e))
      go (clean f d) = (f, lacking_least order rows s (sym d ∙ e))
