-- What the checker's answer says, of its contract alone: accepted exactly when the words are the complete listing; the row named is the first wrong one; the row missing is the least.
use Prim.Native.Nat.{ℕ, suc, ◌<◌}
use native.Mathlib.Omega.{arith}
use mathlib.Core.Path.{◌≡◌, refl, sym, ap, subst, ◌∙◌}
use mathlib.Core.List.{List, [], ◌∷◌}
use lib.ListN.{length, get_or, take}
use Rattle.relation.specs.Exactly.{Exactly}
use Rattle.relation.specs.Order.{Row}
use Rattle.relation.specs.Lists.{◌∈◌}
use Rattle.relation.specs.Rows.{Width, cut, flat}
use Rattle.relation.proofs.Words.{length_cut}
use Rattle.query.specs.Meaning.{Listing}
use Rattle.query.specs.Solve.{listing}
use Rattle.query.proofs.Listed.{listing_listing}
use Rattle.from_sorted.proofs.Given.{length_flat}
use Rattle.join_query.specs.Query.{order_of, atoms_of, join_number, Accepted}
use Rattle.join_query.specs.declared.Query.{Query}
use Rattle.join_query.specs.declared.Tables.{Tables}
use Rattle.join_query.proofs.Accepted.{passes}
use Rattle.listing_verdict.specs.Verdict.{Verdict, accepted, wrong, missing, how_many, rows_listed, verdict}
use Rattle.listing_verdict.specs.Checked.{eight, no_row, says, checked, complete, verdict_on, Checks}
use Rattle.listing_verdict.specs.Facts.{InOrder, Right, AllRight, FirstWrong, LeastMissing}
use Rattle.listing_verdict.specs.declared.Checked.{Checked}
use Rattle.verdict_laws.specs.Calls.{IsAnswer, Fine}
use Rattle.verdict_laws.proofs.Exactly.{accepted_rows, rows_accepted, the_row_named_is_the_first_wrong_one, the_row_missing_is_the_least_one}
use Rattle.verdict_laws.proofs.Words.{listed_flat, flat_listed, count_unread, passed_with, passed_whole}

-- ---- the verdict in the answer's words

said_accepted : (v : Verdict) → (says v).verdict ≡ 1 → v ≡ accepted
unfolding says
said_accepted accepted e = refl
said_accepted (wrong i) e = absurd (omega (arith, e))
said_accepted (missing r) e = absurd (omega (arith, e))

said_wrong : (v : Verdict) → (says v).verdict ≡ 2 → v ≡ wrong (says v).row
unfolding says
said_wrong accepted e = absurd (omega (arith, e))
said_wrong (wrong i) e = refl
said_wrong (missing r) e = absurd (omega (arith, e))

said_missing : (v : Verdict) → (says v).verdict ≡ 3 → (r : Row) × (v ≡ missing r) × ((says v).missing ≡ eight r)
unfolding says
said_missing accepted e = absurd (omega (arith, e))
said_missing (wrong i) e = absurd (omega (arith, e))
said_missing (missing r) e = (r, refl, refl)

accepted_said : (v : Verdict) → v ≡ accepted → (says v).verdict ≡ 1
unfolding says
accepted_said v e = ap (λ (w : Verdict). (says w).verdict) e

-- ---- a refused query

pub a_refusal_checks_nothing : {pool : List ℕ} {ts : Tables} {q : Query} {words : List ℕ} {count : ℕ} {c : Checked} → Checks pool ts q words count c → {number : ℕ} → join_number pool ts q (length words) ≡ suc number → c ≡ record { number = suc number; verdict = 0; row = 0; missing = no_row }
unfolding checked
a_refusal_checks_nothing {pool} {ts} {q} {words} {count} k e = k.answer ∙ ap (λ (n : ℕ). checked n (verdict_on pool ts q words count)) e

-- ---- a query that passed

module _ {pool : List ℕ} {ts : Tables} {q : Query} {len : ℕ} (z : Accepted pool ts q len) where
  lists : Listing q.n (order_of q) (atoms_of pool ts q) (complete pool ts q)
  lists = listing_listing (passes z)

  pub in_order : InOrder (order_of q) (complete pool ts q)
  in_order = lists.ascending

  pub complete_wide : Width q.n (complete pool ts q)
  complete_wide = lists.wide

  -- to be in the complete listing is to be an answer
  pub complete_answers : (v : Row) → Exactly (v ∈ complete pool ts q) (IsAnswer q.n (atoms_of pool ts q) v)
  complete_answers v = (λ m. record { wide = lists.wide v m; stored = lists.sound v m }, λ a. lists.complete v a.wide a.stored)

  -- so a row is right exactly when it is an answer that comes after the row before it
  pub right_fine : (rows : List Row) (i : ℕ) → Exactly (Right (order_of q) (complete pool ts q) rows i) (Fine q.n (order_of q) (atoms_of pool ts q) rows i)
  right_fine rows i = (
    λ r. record { answer = (complete_answers (get_or rows i [])).0 r.among; after = r.after },
    λ f. record { among = (complete_answers (get_or rows i [])).1 f.answer; after = f.after },
  )

  -- no variables: one row, without words
  complete_none : q.n ≡ 0 → complete pool ts q ≡ [] ∷ []
  unfolding listing
  complete_none e = ap (λ (n : ℕ). listing n (take n q.order) (atoms_of pool ts q)) e

module _ {pool : List ℕ} {ts : Tables} {q : Query} {words : List ℕ} {count : ℕ} (z : Accepted pool ts q (length words)) {c : Checked} (k : Checks pool ts q words count c) where
  pub says_verdict : c ≡ says (verdict_on pool ts q words count)
  unfolding checked
  says_verdict = k.answer ∙ ap (λ (n : ℕ). checked n (verdict_on pool ts q words count)) z.passed

  verdict_is : c.verdict ≡ (says (verdict_on pool ts q words count)).verdict
  verdict_is = ap (λ (x : Checked). x.verdict) says_verdict

  pub accepted_exactly_for_the_complete_listing : Exactly (c.verdict ≡ 1) (rows_listed q.n words count ≡ complete pool ts q)
  accepted_exactly_for_the_complete_listing = (
    λ e. accepted_rows (order_of q) (in_order z) (rows_listed q.n words count) (said_accepted (verdict_on pool ts q words count) (sym verdict_is ∙ e)),
    λ e. verdict_is ∙ accepted_said (verdict_on pool ts q words count) (rows_accepted (order_of q) (in_order z) (rows_listed q.n words count) e),
  )

  -- in words: those of the complete listing, and no others
  pub accepted_exactly_for_its_words : 0 < q.n → Exactly (c.verdict ≡ 1) (words ≡ flat (complete pool ts q))
  accepted_exactly_for_its_words h = (
    λ e. sym (flat_listed q.n h words count (passed_whole z h)) ∙ ap flat (accepted_exactly_for_the_complete_listing.0 e),
    λ e. accepted_exactly_for_the_complete_listing.1
        (ap (λ (l : List ℕ). rows_listed q.n l count) e
        ∙ count_unread q.n h (flat (complete pool ts q)) count (length (complete pool ts q))
        ∙ listed_flat q.n (complete pool ts q) (complete_wide z)),
  )

  -- without variables: exactly for the count 1
  pub accepted_exactly_for_one_row : q.n ≡ 0 → Exactly (c.verdict ≡ 1) (count ≡ 1)
  unfolding how_many cut
  accepted_exactly_for_one_row h = (
    λ e. sym (length_cut count 0 words) ∙ ap length (sym (ap (λ (n : ℕ). rows_listed n words count) h) ∙ accepted_exactly_for_the_complete_listing.0 e ∙ complete_none z h),
    λ e. accepted_exactly_for_the_complete_listing.1 (ap (λ (n : ℕ). rows_listed n words count) h ∙ ap (λ (m : ℕ). cut m 0 words) e ∙ sym (complete_none z h)),
  )

  pub the_row_named_is_the_first_wrong : c.verdict ≡ 2 → FirstWrong (order_of q) (complete pool ts q) (rows_listed q.n words count) c.row
  the_row_named_is_the_first_wrong e =
      subst (FirstWrong (order_of q) (complete pool ts q) (rows_listed q.n words count)) (sym (ap (λ (x : Checked). x.row) says_verdict))
      (the_row_named_is_the_first_wrong_one (order_of q) (in_order z) (rows_listed q.n words count) (said_wrong (verdict_on pool ts q words count) (sym verdict_is ∙ e)))

  pub the_row_missing_is_the_least : c.verdict ≡ 3 → (r : Row) × (c.missing ≡ eight r) × AllRight (order_of q) (complete pool ts q) (rows_listed q.n words count) × LeastMissing (order_of q) (complete pool ts q) (rows_listed q.n words count) r
  the_row_missing_is_the_least e =
      let t = said_missing (verdict_on pool ts q words count) (sym verdict_is ∙ e) in
      let l = the_row_missing_is_the_least_one (order_of q) (in_order z) (rows_listed q.n words count) t.1 in
      (t.0, ap (λ (x : Checked). x.missing) says_verdict ∙ t.2, l.0, l.1)

-- rows laid flat, their number beside them
pub says_of_rows : {pool : List ℕ} {ts : Tables} {q : Query} {len : ℕ} → Accepted pool ts q len → (rows : List Row) → Width q.n rows → {c : Checked} → Checks pool ts q (flat rows) (length rows) c → c ≡ says (verdict (order_of q) (complete pool ts q) rows)
says_of_rows {pool} {ts} {q} z rows w k =
    let y : Accepted pool ts q (length (flat rows)) = subst (Accepted pool ts q) (sym (length_flat rows w)) (passed_with z (length rows)) in
    says_verdict y k ∙ ap (λ (l : List Row). says (verdict (order_of q) (complete pool ts q) l)) (listed_flat q.n rows w)
