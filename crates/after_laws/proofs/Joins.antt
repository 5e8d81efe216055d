-- A start beside the join: the same number, rows and window words on every input; so calls that go on from a start give, joined, what one join writes.
-- Idea: at a start the rows listed are the listing, so the two outcomes are one.
use Prim.Native.Nat.{ℕ}
use mathlib.Core.Path.{◌≡◌, refl, sym, ap, ◌∙◌}
use mathlib.Core.Bool.{false}
use mathlib.Core.List.{List}
use Rattle.relation.specs.Order.{Row}
use Rattle.relation.specs.Rows.{cut}
use Rattle.query.specs.Outcome.{Comes}
use Rattle.join_query.specs.Facts.{Typed}
use Rattle.join_query.specs.Outcome.{outcome}
use Rattle.join_query.specs.declared.Query.{Query}
use Rattle.join_query.specs.declared.Tables.{Tables}
use Rattle.leapfrog_triejoin.specs.Outcome.{Joins}
use Rattle.leapfrog_triejoin.specs.declared.Joined.{Joined}
use Rattle.rows_after.specs.After.{outcome_after, last_after, JoinsAfter}
use Rattle.rows_after.specs.declared.JoinedAfter.{JoinedAfter}
use Rattle.after_laws.specs.Calls.{Calls, ends}
use Rattle.after_laws.specs.Agree.{Agree}
use Rattle.after_laws.proofs.Calls.{pieces}

start_is : (pool : List ℕ) (ts : Tables) (q : Query) (given window : List ℕ) → outcome_after pool ts q false given window ≡ outcome pool ts q window
unfolding outcome_after outcome
start_is pool ts q given window = refl

module _ {pool : List ℕ} {ts : Tables} {q : Query} {given window : List ℕ} where
  pub a_start_joins : {r : JoinedAfter} {after : List ℕ} {p : Joined} {join_after : List ℕ} → JoinsAfter pool ts q false given window r after → Joins pool ts q window p join_after → Agree r after p join_after
  a_start_joins j k =
      let o = start_is pool ts q given window in
      record {
        number = j.number ∙ ap (λ (c : Comes). c.number) o ∙ sym k.number;
        rows = j.rows ∙ ap (λ (c : Comes). c.rows) o ∙ sym k.rows;
        words = j.words ∙ ap (λ (c : Comes). c.words) o ∙ sym k.words;
      }

  -- the join's answer as a start's
  as_start : {p : Joined} {after : List ℕ} → Joins pool ts q window p after → JoinsAfter pool ts q false given window (record { number = p.number; rows = p.rows; last = last_after pool ts q false given window }) after
  as_start k =
      let o = start_is pool ts q given window in
      record {
        number = k.number ∙ sym (ap (λ (c : Comes). c.number) o);
        rows = k.rows ∙ sym (ap (λ (c : Comes). c.rows) o);
        words = k.words ∙ sym (ap (λ (c : Comes). c.words) o);
        last = refl;
      }

-- calls from a start, joined, and a join whose window had room for all
pub the_join_in_pieces : {pool : List ℕ} {ts : Tables} {q : Query} {given window : List ℕ} {p : Joined} {after : List ℕ} {calls : ℕ} {rows : List Row} → Typed q → Calls pool ts q false given calls rows → Joins pool ts q window p after → p.number ≡ 0 → rows ≡ cut p.rows q.n after
the_join_in_pieces {given = given} y c k e = pieces y c ∙ sym (pieces y (ends (as_start {given = given} k) e))
