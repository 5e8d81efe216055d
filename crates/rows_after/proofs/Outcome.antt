-- What comes of a call, by the number of its checks: a refusal alone, or the rows that it lists in its window and the row handed back.
use Prim.Native.Nat.{ℕ, suc}
use mathlib.Core.Path.{◌≡◌, ap}
use mathlib.Core.Bool.{Bool}
use mathlib.Core.List.{List, []}
use lib.ListN.{length, take}
use Rattle.relation.specs.Order.{Row}
use Rattle.query.specs.Outcome.{told, refused}
use Rattle.join_query.specs.Query.{join_number}
use Rattle.join_query.specs.Outcome.{answered}
use Rattle.join_query.specs.declared.Query.{Query}
use Rattle.join_query.specs.declared.Tables.{Tables}
use Rattle.rows_after.specs.After.{rows_asked, listed_after, last_of, stood_at, padded, handed_back, last_after, outcome_after}

module _ (pool : List ℕ) (ts : Tables) (q : Query) (goes_on : Bool) (given : Row) (window : List ℕ) where
  -- the row that an accepted call hands back
  abbrev pub last_row : Row
  last_row = last_of (stood_at q.n goes_on given) (take (listed_after pool ts q goes_on given window).count (rows_asked pool ts q goes_on given))

  outcome_by : {number : ℕ} → join_number pool ts q (length window) ≡ number → outcome_after pool ts q goes_on given window ≡ answered number window (listed_after pool ts q goes_on given window)
  unfolding outcome_after
  outcome_by e = ap (λ (n : ℕ). answered n window (listed_after pool ts q goes_on given window)) e

  last_by : {number : ℕ} → join_number pool ts q (length window) ≡ number → last_after pool ts q goes_on given window ≡ handed_back number last_row
  unfolding last_after
  last_by e = ap (λ (n : ℕ). handed_back n last_row) e

  pub outcome_refused : {number : ℕ} → join_number pool ts q (length window) ≡ suc number → outcome_after pool ts q goes_on given window ≡ refused (suc number) window
  unfolding answered
  outcome_refused e = outcome_by e

  pub outcome_listed : join_number pool ts q (length window) ≡ 0 → outcome_after pool ts q goes_on given window ≡ told (listed_after pool ts q goes_on given window)
  unfolding answered
  outcome_listed e = outcome_by e

  pub last_refused : {number : ℕ} → join_number pool ts q (length window) ≡ suc number → last_after pool ts q goes_on given window ≡ padded []
  unfolding handed_back
  last_refused e = last_by e

  pub last_listed : join_number pool ts q (length window) ≡ 0 → last_after pool ts q goes_on given window ≡ padded (last_of (stood_at q.n goes_on given) (take (listed_after pool ts q goes_on given window).count (rows_asked pool ts q goes_on given)))
  unfolding handed_back
  last_listed e = last_by e
