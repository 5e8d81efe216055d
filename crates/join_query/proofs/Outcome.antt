-- What comes of a query, by the number of its checks: a refusal alone, or its listing in the window.
use Prim.Native.Nat.{ℕ, suc}
use mathlib.Core.Path.{◌≡◌, ap}
use mathlib.Core.List.{List}
use lib.ListN.{length}
use Rattle.query.specs.Outcome.{told, refused}
use Rattle.join_query.specs.Query.{join_number}
use Rattle.join_query.specs.Outcome.{listed, answered, outcome}
use Rattle.join_query.specs.declared.Query.{Query}
use Rattle.join_query.specs.declared.Tables.{Tables}

module _ (pool : List ℕ) (ts : Tables) (q : Query) (window : List ℕ) where
  outcome_by : {number : ℕ} → join_number pool ts q (length window) ≡ number → outcome pool ts q window ≡ answered number window (listed pool ts q window)
  unfolding outcome
  outcome_by e = ap (λ (n : ℕ). answered n window (listed pool ts q window)) e

  pub outcome_refused : {number : ℕ} → join_number pool ts q (length window) ≡ suc number → outcome pool ts q window ≡ refused (suc number) window
  unfolding answered
  outcome_refused e = outcome_by e

  pub outcome_listed : join_number pool ts q (length window) ≡ 0 → outcome pool ts q window ≡ told (listed pool ts q window)
  unfolding answered
  outcome_listed e = outcome_by e
