-- "With tables unchanged and a window of at least one row, the pieces joined equal demand 3's listing", and calls that go on come to an end.
-- Idea: a call writes the first of the rows that it lists, and the next one lists those behind them; where it says 12 and had room it wrote a row, so fewer are left.
use Prim.Native.Nat.{ℕ, zero, suc, ◌-◌, ◌≤◌, ◌<◌}
use native.Mathlib.Omega.{arith}
use mathlib.Core.Path.{◌≡◌, refl, sym, subst, ap, ap₂, ◌∙◌}
use mathlib.Core.Logic.{inl, inr}
use mathlib.Core.Bool.{Bool, true, false}
use mathlib.Core.List.{List, ◌++◌}
use lib.ListN.{length, drop, length-append, length-drop, take-append-drop}
use lib.Seq.{take_all}
use borrow.Author.Tests.{ltb-false}
use Rattle.relation.specs.Order.{Row, pick}
use Rattle.relation.proofs.Words.{length_cut}
use Rattle.query.specs.Meaning.{Listing}
use Rattle.query.specs.Window.{windowed}
use Rattle.query.proofs.Listed.{listing_listing}
use Rattle.join_query.specs.Query.{order_of, atoms_of, Accepted}
use Rattle.join_query.specs.Facts.{Typed}
use Rattle.join_query.specs.declared.Query.{Query}
use Rattle.join_query.specs.declared.Tables.{Tables}
use Rattle.join_query.proofs.Accepted.{passes}
use Rattle.rows_after.specs.After.{rows_asked, listed_after, JoinsAfter}
use Rattle.rows_after.specs.declared.JoinedAfter.{JoinedAfter}
use Rattle.after_laws.specs.Calls.{piece, Calls, ends, goes, Answered, ComesUp, first, next, Ended}
use Rattle.after_laws.proofs.Asked.{asked_behind}
use Rattle.after_laws.proofs.Accepted.{accepted_late, number_is, rows_is, last_some, piece_is, full_12, not_full_0, left_over, progress}

-- ---- one call

module _ {pool : List ℕ} {ts : Tables} {q : Query} {goes_on : Bool} {given window : List ℕ} {r : JoinedAfter} {after : List ℕ} (j : JoinsAfter pool ts q goes_on given window r after) (a : Accepted pool ts q (length window)) where
  abbrev rows : List Row
  rows = rows_asked pool ts q goes_on given

  abbrev count : ℕ
  count = (listed_after pool ts q goes_on given window).count

  -- one that says 0 wrote all
  all_written : r.number ≡ 0 → piece q r after ≡ rows_asked pool ts q goes_on given
  unfolding windowed
  all_written e = piece_is j a ∙ take_all count rows (ltb-false count (length rows) (not_full_0 j a e))

  -- one that says 12 and had room wrote some, and who goes on after the row handed back lists those behind
  module _ (h : q.n ≤ length window) (e : r.number ≡ 12) where
    some : 0 < count
    some = progress j a h (full_12 j a e)

    pub wrote : 0 < r.rows
    wrote = omega (arith, some, rows_is j a)

    last_row : suc (count - 1) ≡ count
    last_row = omega (arith, some)

    rest : rows_asked pool ts q true r.last ≡ drop count rows
    rest =
        ap (rows_asked pool ts q true) (last_some j a (count - 1) (rows_is j a ∙ sym last_row))
        ∙ asked_behind a given goes_on (count - 1) (omega (arith, some, left_over j a (full_12 j a e)))
        ∙ ap (λ (m : ℕ). drop m rows) last_row

    fewer : length (rows_asked pool ts q true r.last) < length rows
    fewer = omega (arith, ap (length {A = Row}) rest, length-drop count rows, some, left_over j a (full_12 j a e))

-- ---- calls that go on

module _ {pool : List ℕ} {ts : Tables} {q : Query} (y : Typed q) where
  -- the pieces joined are the rows that the first call was asked for
  pub pieces : {goes_on : Bool} {given : Row} {calls : ℕ} {rows : List Row} → Calls pool ts q goes_on given calls rows → rows ≡ rows_asked pool ts q goes_on given
  pieces (ends j e) = all_written j (accepted_late j y 0 (inl refl) e) e
  pieces {goes_on} {given} (goes {window = window} j h e c) =
      let a = accepted_late j y 12 (inr refl) e in
      ap₂ (λ (xs ys : List Row). xs ++ ys) (piece_is j a) (pieces c ∙ rest j a h e)
      ∙ take-append-drop (listed_after pool ts q goes_on given window).count (rows_asked pool ts q goes_on given)

  accepted_len : {goes_on : Bool} {given : Row} {calls : ℕ} {rows : List Row} → Calls pool ts q goes_on given calls rows → (len : ℕ) × Accepted pool ts q len
  accepted_len (ends {window = window} j e) = (length window, accepted_late j y 0 (inl refl) e)
  accepted_len (goes {window = window} j h e c) = (length window, accepted_late j y 12 (inr refl) e)

  -- from a start they are demand 3's listing
  pub the_pieces_joined : {given : Row} {calls : ℕ} {rows : List Row} → Calls pool ts q false given calls rows → Listing q.n (order_of q) (atoms_of pool ts q) rows
  the_pieces_joined c = subst (Listing q.n (order_of q) (atoms_of pool ts q)) (sym (pieces c)) (listing_listing (passes (accepted_len c).1))

  -- each call but the last writes a row
  pub few_calls : {goes_on : Bool} {given : Row} {calls : ℕ} {rows : List Row} → Calls pool ts q goes_on given calls rows → calls ≤ suc (length rows)
  few_calls (ends j e) = omega arith
  few_calls (goes {r = r} {after} {rows = rows} j h e c) =
      omega (arith, few_calls c, length-append (piece q r after) rows, length_cut r.rows q.n after, wrote j (accepted_late j y 12 (inr refl) e) h e)

  -- ---- and they come to an end, where each that comes up is answered by the contract

  ended : {goes_on : Bool} {given : Row} {count : ℕ} {rows : List Row} → Calls pool ts q goes_on given count rows → Ended pool ts q goes_on given
  ended {count = count} {rows} c = record { count = count; rows = rows; calls = c; few = few_calls c }

  module _ (goes_on₀ : Bool) (given₀ : Row) (call : (goes_on : Bool) (given : Row) → ComesUp pool ts q goes_on₀ given₀ goes_on given → Answered pool ts q goes_on given) where
    within : (fuel : ℕ) (goes_on : Bool) (given : Row) → ComesUp pool ts q goes_on₀ given₀ goes_on given → length (rows_asked pool ts q goes_on given) ≤ fuel → Ended pool ts q goes_on given
    within zero goes_on given c h =
        let t = call goes_on given c in
        go t (listed_after pool ts q goes_on given t.window).full refl
      where
        go : (t : Answered pool ts q goes_on given) (b : Bool) → (listed_after pool ts q goes_on given t.window).full ≡ b → Ended pool ts q goes_on given
        go t true e = absurd (omega (arith, left_over t.joins t.accepted e))
        go t false e = ended (ends t.joins (number_is t.joins t.accepted ∙ ap (λ (b : Bool). pick b 12 0) e))
    within (suc fuel) goes_on given c h =
        let t = call goes_on given c in
        go t (λ e. within fuel true t.answer.last (next c t e)) (listed_after pool ts q goes_on given t.window).full refl
      where
        go : (t : Answered pool ts q goes_on given) → (t.answer.number ≡ 12 → length (rows_asked pool ts q true t.answer.last) ≤ fuel → Ended pool ts q true t.answer.last) → (b : Bool) → (listed_after pool ts q goes_on given t.window).full ≡ b → Ended pool ts q goes_on given
        go t ih true e =
            let n : t.answer.number ≡ 12 = number_is t.joins t.accepted ∙ ap (λ (b : Bool). pick b 12 0) e in
            ended (goes t.joins t.room n (ih n (omega (arith, fewer t.joins t.accepted t.room n))).calls)
        go t ih false e = ended (ends t.joins (number_is t.joins t.accepted ∙ ap (λ (b : Bool). pick b 12 0) e))

    pub calls_end : Ended pool ts q goes_on₀ given₀
    calls_end = within (length (rows_asked pool ts q goes_on₀ given₀)) goes_on₀ given₀ first (omega arith)
