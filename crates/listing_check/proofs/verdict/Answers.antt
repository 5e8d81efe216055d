-- `verdict` meets its contract: the rows that agree with the complete listing are right, so that the first wrong one is behind them; where none is, the walk says what is missing.
use Prim.Native.Nat.{ℕ}
use native.Mathlib.Omega.{arith}
use mathlib.Core.Path.{refl, sym, ap, ◌∙◌}
use Rattle.std.specs.Prelude.{Option, is_some, unwrap_or}
use Rattle.relation.specs.Order.{Row, pick}
use Rattle.listing_verdict.specs.Checked.{no_row}
use Rattle.join_query.proofs.Accepted.{sized}
use Rattle.listing_check.proofs.Meeting.{padded_none}
use Rattle.listing_check.proofs.Checking.{agreed_inside, agreed_good, says_wrong, says_ended}
use Rattle.listing_check.proofs.verdict.Goals as goal
use Rattle.listing_check.proofs.verdict.Goals.{in-Some-missing, in-None}

pub search-end-requires : goal.search-end-requires
search-end-requires c =
    (omega arith, c.requires, padded_none c.args.asked.query.now.n (sized c.args.asked.passed.accepted).few, refl)

pub first_wrong-requires : goal.first_wrong-requires
first_wrong-requires c =
    let z = c.args.asked.passed.accepted in
    let ws = c.args.listing.now in
    (c.requires, agreed_inside z ws c.args.rows c.search-end.ensures, agreed_good z ws c.args.rows c.search-end.ensures)

pub returns-in-Some : goal.returns-in-Some
returns-in-Some c =
    says_wrong c.args.asked.passed.accepted c.args.listing.now c.args.rows c.search-end.ensures c.in-Some.ensures.number c.in-Some.ensures.inside

pub returns : goal.returns
returns c =
    let z = c.args.asked.passed.accepted in
    elim c.match-end.branch [
      | in-Some-missing w ↦
          says_ended z c.args.listing.now c.args.rows c.search-end.ensures c.in_default.ensures.number (omega arith)
          (ap (λ (v : ℕ × Row). v.0) w.verdict-is ∙ ap (λ (m : Option Row). pick {A = ℕ} (is_some m) 3 1) (sym w.in-Some-missing.is))
          (ap (λ (v : ℕ × Row). v.1) w.verdict-is ∙ ap (λ (m : Option Row). unwrap_or m no_row) (sym w.in-Some-missing.is))
      | in-None w ↦
          says_ended z c.args.listing.now c.args.rows c.search-end.ensures c.in_default.ensures.number (omega arith)
          (ap (λ (v : ℕ × Row). v.0) w.verdict-is ∙ ap (λ (m : Option Row). pick {A = ℕ} (is_some m) 3 1) (sym w.in-None.is))
          (ap (λ (v : ℕ × Row). v.1) w.verdict-is ∙ ap (λ (m : Option Row). unwrap_or m no_row) (sym w.in-None.is))
    ]
