-- "eight words by value, of which n count": calls whose given rows differ only past their first n words answer alike, and a start's given row does not count at all.
use Prim.Native.Nat.{ℕ, zero, suc}
use mathlib.Core.Path.{◌≡◌, refl, sym, ap, ap₂, ◌∙◌}
use mathlib.Core.Bool.{Bool, true, false}
use mathlib.Core.List.{List}
use lib.ListN.{length, take}
use Rattle.relation.specs.Order.{Row}
use Rattle.query.specs.Meaning.{part}
use Rattle.query.specs.Solve.{listing}
use Rattle.query.specs.Window.{windowed}
use Rattle.query.specs.Outcome.{Comes, told}
use Rattle.join_query.specs.Query.{order_of, atoms_of, join_number, Accepted}
use Rattle.join_query.specs.Facts.{Typed}
use Rattle.join_query.specs.declared.Query.{Query}
use Rattle.join_query.specs.declared.Tables.{Tables}
use Rattle.join_query.proofs.Accepted.{passes}
use Rattle.rows_after.specs.After.{rows_asked, last_of, stood_at, padded, outcome_after, last_after, JoinsAfter}
use Rattle.rows_after.specs.declared.JoinedAfter.{JoinedAfter}
use Rattle.rows_after.proofs.After.{after_same}
use Rattle.rows_after.proofs.Last.{counted_part}
use Rattle.rows_after.proofs.Outcome.{outcome_refused, outcome_listed, last_refused, last_listed}
use Rattle.rows_after.proofs.Determined.{one_answer, one_window}
use Rattle.after_laws.specs.Agree.{Alike}

module _ {pool : List ℕ} {ts : Tables} {q : Query} {goes_on : Bool} {given₁ given₂ window : List ℕ} where
  -- contracts with one outcome allow one answer
  alike : outcome_after pool ts q goes_on given₁ window ≡ outcome_after pool ts q goes_on given₂ window → last_after pool ts q goes_on given₁ window ≡ last_after pool ts q goes_on given₂ window → {r₁ r₂ : JoinedAfter} {w₁ w₂ : List ℕ} → JoinsAfter pool ts q goes_on given₁ window r₁ w₁ → JoinsAfter pool ts q goes_on given₂ window r₂ w₂ → Alike r₁ r₂ w₁ w₂
  alike o l {r₂ = r₂} {w₂ = w₂} one two = record { answer = one_answer one again; window = one_window one again }
    where
      again : JoinsAfter pool ts q goes_on given₁ window r₂ w₂
      again = record {
        number = two.number ∙ sym (ap (λ (c : Comes). c.number) o);
        rows = two.rows ∙ sym (ap (λ (c : Comes). c.rows) o);
        words = two.words ∙ sym (ap (λ (c : Comes). c.words) o);
        last = two.last ∙ sym l;
      }

module _ (pool : List ℕ) (ts : Tables) (q : Query) (goes_on : Bool) (given₁ given₂ window : List ℕ) (y : Typed q) (e : take q.n given₁ ≡ take q.n given₂) where
  stood_same : (b : Bool) → stood_at q.n b given₁ ≡ stood_at q.n b given₂
  stood_same true = e
  stood_same false = refl

  rows_same : Accepted pool ts q (length window) → (b : Bool) → rows_asked pool ts q b given₁ ≡ rows_asked pool ts q b given₂
  rows_same a true =
      let below = (passes a).permutation.below in
      after_same (order_of q) given₁ given₂
      (sym (counted_part q.n (order_of q) given₁ below) ∙ ap (part (order_of q)) e ∙ counted_part q.n (order_of q) given₂ below)
      (listing q.n (order_of q) (atoms_of pool ts q))
  rows_same a false = refl

  outcome_same : (k : ℕ) → join_number pool ts q (length window) ≡ k → outcome_after pool ts q goes_on given₁ window ≡ outcome_after pool ts q goes_on given₂ window
  outcome_same zero d =
      outcome_listed pool ts q goes_on given₁ window d
      ∙ ap (λ (rows : List Row). told (windowed window q.n rows)) (rows_same (record { passed = d; whole = y.atoms }) goes_on)
      ∙ sym (outcome_listed pool ts q goes_on given₂ window d)
  outcome_same (suc k) d = outcome_refused pool ts q goes_on given₁ window d ∙ sym (outcome_refused pool ts q goes_on given₂ window d)

  last_same : (k : ℕ) → join_number pool ts q (length window) ≡ k → last_after pool ts q goes_on given₁ window ≡ last_after pool ts q goes_on given₂ window
  last_same zero d =
      last_listed pool ts q goes_on given₁ window d
      ∙ ap₂ (λ (row : Row) (rows : List Row). padded (last_of row (take (windowed window q.n rows).count rows))) (stood_same goes_on) (rows_same (record { passed = d; whole = y.atoms }) goes_on)
      ∙ sym (last_listed pool ts q goes_on given₂ window d)
  last_same (suc k) d = last_refused pool ts q goes_on given₁ window d ∙ sym (last_refused pool ts q goes_on given₂ window d)

pub of_which_n_count : {pool : List ℕ} {ts : Tables} {q : Query} {goes_on : Bool} {given₁ given₂ window : List ℕ} {r₁ r₂ : JoinedAfter} {w₁ w₂ : List ℕ} → Typed q → take q.n given₁ ≡ take q.n given₂ → JoinsAfter pool ts q goes_on given₁ window r₁ w₁ → JoinsAfter pool ts q goes_on given₂ window r₂ w₂ → Alike r₁ r₂ w₁ w₂
of_which_n_count {pool} {ts} {q} {goes_on} {given₁} {given₂} {window} y e one two =
    let k = join_number pool ts q (length window) in
    alike (outcome_same pool ts q goes_on given₁ given₂ window y e k refl) (last_same pool ts q goes_on given₁ given₂ window y e k refl) one two

pub none_at_a_start : {pool : List ℕ} {ts : Tables} {q : Query} {given₁ given₂ window : List ℕ} {r₁ r₂ : JoinedAfter} {w₁ w₂ : List ℕ} → JoinsAfter pool ts q false given₁ window r₁ w₁ → JoinsAfter pool ts q false given₂ window r₂ w₂ → Alike r₁ r₂ w₁ w₂
unfolding outcome_after last_after
none_at_a_start one two = alike refl refl one two
