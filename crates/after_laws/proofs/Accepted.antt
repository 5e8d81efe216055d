-- A call whose checks found nothing: its answer is that of its window; and a call that says 0 or 12 is such a one.
use Prim.Native.Nat.{ℕ, zero, suc, ◌-◌, ◌/◌, ◌≤◌, ◌<◌}
use native.Mathlib.Omega.{arith}
use native.Mathlib.Nat.{le-div_iff_mul-le}
use mathlib.Core.Path.{◌≡◌, refl, sym, ap, ap₂, ◌∙◌}
use mathlib.Core.Logic.{◌⊎◌}
use mathlib.Core.Bool.{Bool, true, false}
use mathlib.Core.List.{List, []}
use lib.ListN.{length, get_or, take, length-take, get_or-eq_default}
use borrow.Author.Tests.{ltb-true}
use Rattle.relation.specs.Order.{Row, pick}
use Rattle.relation.specs.Rows.{cut}
use Rattle.relation.proofs.Lists.{get_or_in}
use Rattle.query.specs.Window.{fit, windowed}
use Rattle.query.specs.Outcome.{Comes, told}
use Rattle.join_query.specs.Query.{max_variables, join_number, Accepted}
use Rattle.join_query.specs.Facts.{Typed}
use Rattle.join_query.specs.declared.Query.{Query}
use Rattle.join_query.specs.declared.Tables.{Tables}
use Rattle.join_query.proofs.Exactly.{checks_0, not_12, answered_late}
use Rattle.rows_after.specs.After.{rows_asked, listed_after, last_of, stood_at, padded, outcome_after, JoinsAfter}
use Rattle.rows_after.specs.declared.JoinedAfter.{JoinedAfter}
use Rattle.rows_after.proofs.Last.{get_or_zeros, padded_length, last_at, count_le, written_rows, last_none}
use Rattle.rows_after.proofs.Outcome.{outcome_listed, last_listed}
use Rattle.after_laws.specs.Calls.{piece}
use Rattle.after_laws.proofs.Asked.{asked_wide}

-- a row has room where n words do, so one of some is written
fit_some : (n l c : ℕ) → n ≤ l → 0 < c → 0 < fit n l c
unfolding fit
fit_some zero l c h p = p
fit_some (suc n) l c h p =
    let z : 0 < suc n = omega arith in
    let g : 1 ≤ l / suc n = (le-div_iff_mul-le z).1 (omega arith) in
    omega arith

module _ {pool : List ℕ} {ts : Tables} {q : Query} {goes_on : Bool} {given window : List ℕ} {r : JoinedAfter} {after : List ℕ} (j : JoinsAfter pool ts q goes_on given window r after) where
  -- 0 and 12 are said where the checks found nothing
  pub accepted_late : Typed q → (k : ℕ) → (k ≡ 0) ⊎ (k ≡ 12) → r.number ≡ k → Accepted pool ts q (length window)
  unfolding outcome_after
  accepted_late y k w e = record {
    passed = answered_late (join_number pool ts q (length window)) k window (listed_after pool ts q goes_on given window) (not_12 pool ts q (length window) y) w (sym j.number ∙ e);
    whole = y.atoms;
  }

  module _ (a : Accepted pool ts q (length window)) where
    abbrev rows : List Row
    rows = rows_asked pool ts q goes_on given

    abbrev count : ℕ
    count = (listed_after pool ts q goes_on given window).count

    abbrev full : Bool
    full = (listed_after pool ts q goes_on given window).full

    outcome_is : outcome_after pool ts q goes_on given window ≡ told (listed_after pool ts q goes_on given window)
    outcome_is = outcome_listed pool ts q goes_on given window a.passed

    pub number_is : r.number ≡ pick (listed_after pool ts q goes_on given window).full 12 0
    unfolding told
    number_is = j.number ∙ ap (λ (c : Comes). c.number) outcome_is

    pub rows_is : r.rows ≡ (listed_after pool ts q goes_on given window).count
    unfolding told
    rows_is = j.rows ∙ ap (λ (c : Comes). c.rows) outcome_is

    pub words_is : after ≡ (listed_after pool ts q goes_on given window).words
    unfolding told
    words_is = j.words ∙ ap (λ (c : Comes). c.words) outcome_is

    pub last_is : r.last ≡ padded (last_of (stood_at q.n goes_on given) (take (listed_after pool ts q goes_on given window).count (rows_asked pool ts q goes_on given)))
    last_is = j.last ∙ last_listed pool ts q goes_on given window a.passed

    -- the row handed back: the last written, else the one that the call stood at
    pub last_some : (i : ℕ) → r.rows ≡ suc i → r.last ≡ padded (get_or (rows_asked pool ts q goes_on given) i [])
    last_some i e =
        let c : count ≡ suc i = sym rows_is ∙ e in
        last_is ∙ ap padded (ap (λ (m : ℕ). last_of (stood_at q.n goes_on given) (take m rows)) c ∙ last_at (stood_at q.n goes_on given) rows i (omega (arith, count_le window q.n rows)))

    pub last_stood : r.rows ≡ 0 → r.last ≡ padded (stood_at q.n goes_on given)
    last_stood e = last_is ∙ ap padded (last_none window q.n rows (stood_at q.n goes_on given) (sym rows_is ∙ e))

    -- what is handed back is a row of no more than n words, zeros behind it
    handed : (row : Row) × (length row ≤ q.n) × (r.last ≡ padded row)
    handed = go r.rows refl
      where
        stood_short : (b : Bool) → length (stood_at q.n b given) ≤ q.n
        stood_short true = omega (arith, length-take q.n given)
        stood_short false = omega arith

        go : (m : ℕ) → r.rows ≡ m → (row : Row) × (length row ≤ q.n) × (r.last ≡ padded row)
        go zero e = (stood_at q.n goes_on given, stood_short goes_on, last_stood e)
        go (suc i) e =
            let wide = asked_wide a given goes_on (get_or rows i []) (get_or_in rows i [] (omega (arith, count_le window q.n rows, rows_is, e))) in
            (get_or rows i [], omega (arith, wide), last_some i e)

    -- "eight words", "words past n are zero"
    pub eight_words : Typed q → length r.last ≡ max_variables
    eight_words y =
        let t = handed in
        ap (length {A = ℕ}) t.2 ∙ padded_length t.0 (omega (arith, t.1, ((checks_0 pool ts q (length window) y).0 a.passed).ordered.few))

    pub zero_past_n : (i : ℕ) → q.n ≤ i → get_or r.last i 0 ≡ 0
    zero_past_n i h =
        let t = handed in
        ap (λ (l : List ℕ). get_or l i 0) t.2 ∙ get_or_zeros t.0 (max_variables - length t.0) i ∙ get_or-eq_default t.0 0 (let g : length t.0 ≤ i = omega (arith, t.1) in g)

    -- the rows written, read from the window
    pub piece_is : piece q r after ≡ take (listed_after pool ts q goes_on given window).count (rows_asked pool ts q goes_on given)
    piece_is = ap₂ (λ (m : ℕ) (l : List ℕ). cut m q.n l) rows_is words_is ∙ written_rows window q.n rows (asked_wide a given goes_on)

    -- the number says whether more remain
    pub full_12 : r.number ≡ 12 → (listed_after pool ts q goes_on given window).full ≡ true
    full_12 e = go full (sym number_is ∙ e)
      where
        go : (b : Bool) → ◌≡◌ {A = ℕ} (pick b 12 0) 12 → b ≡ true
        go true e = refl
        go false e = absurd (omega arith)

    pub not_full_0 : r.number ≡ 0 → (listed_after pool ts q goes_on given window).full ≡ false
    not_full_0 e = go full (sym number_is ∙ e)
      where
        go : (b : Bool) → ◌≡◌ {A = ℕ} (pick b 12 0) 0 → b ≡ false
        go true e = absurd (omega arith)
        go false e = refl

    pub left_over : (listed_after pool ts q goes_on given window).full ≡ true → (listed_after pool ts q goes_on given window).count < length (rows_asked pool ts q goes_on given)
    unfolding windowed
    left_over e = ltb-true count (length rows) e

    -- where more remain and a row has room, one at least is written
    pub progress : q.n ≤ length window → (listed_after pool ts q goes_on given window).full ≡ true → 0 < (listed_after pool ts q goes_on given window).count
    unfolding windowed
    progress h e = fit_some q.n (length window) (length rows) h (omega (arith, left_over e))
