-- The checker from its checks to its answer: a refusal alone, or the verdict; and the verdict, which is a wrong row behind those that agree, or what the walk comes to: that is what
-- the listing lacks, since every listed row is right.
use Prim.Native.Nat.{ℕ, zero, suc, ◌-◌, ◌≤◌, ◌<◌}
use native.Mathlib.Omega.{arith}
use mathlib.Core.Path.{◌≡◌, refl, sym, ap, ◌∙◌}
use mathlib.Core.Bool.{Bool, true}
use mathlib.Core.List.{List, []}
use Rattle.std.specs.Prelude.{is_some, unwrap_or}
use lib.ListN.{length, drop, replicate}
use lib.Dec.{ltb}
use borrow.Author.Tests.{lt-ltb, le-ltb}
use Rattle.relation.specs.Order.{Row, pick}
use Rattle.relation.specs.Rows.{cut}
use Rattle.relation.proofs.Lists.{get_or_in}
use Rattle.relation.proofs.Words.{length_cut}
use Rattle.query.proofs.Listed.{listing_listing}
use Rattle.join_query.specs.Query.{max_variables, order_of, atoms_of, join_number, Accepted}
use Rattle.join_query.specs.declared.Query.{Query}
use Rattle.join_query.specs.declared.Tables.{Tables}
use Rattle.join_query.proofs.Accepted.{sized, passes}
use Rattle.plain.specs.Plain.{plainly}
use Rattle.plain.proofs.Plain.{plainly_is}
use Rattle.listing_verdict.specs.Checked.{no_row, says, checked, complete, verdict_on, Checks}
use Rattle.listing_verdict.specs.Facts.{InOrder, AllRight}
use Rattle.listing_verdict.specs.Verdict.{wrong, how_many, good, first_fail, lacks, verdict}
use Rattle.listing_verdict.specs.declared.Checked.{Checked}
use Rattle.listing_verdict.proofs.Differs.{right_differs}
use Rattle.listing_verdict.proofs.Lacks.{lacks_never_wrong}
use Rattle.listing_verdict.proofs.Told.{rise, right_good, Case, found, clean, cases}
use Rattle.listing_check.specs.Walk.{agreed, meets}
use Rattle.listing_check.specs.declared.Reached.{Reached}
use Rattle.listing_check.proofs.Meeting.{ended, meets_ended, meets_same}

module _ (pool : List ℕ) (ts : Tables) (q : Query) (ws : List ℕ) (count : ℕ) where
  pub checks_refused : (k : ℕ) → k ≡ join_number pool ts q (length ws) → (k ≡ 0 → ⊥) → Checks pool ts q ws count (record { number = k; verdict = 0; row = 0; missing = no_row })
  unfolding checked
  checks_refused zero e f = absurd (f refl)
  checks_refused (suc k) e f = record { answer = ap (λ (n : ℕ). checked n (verdict_on pool ts q ws count)) e }

  -- where the checks pass, the answer is the verdict's
  pub checks_says : 0 ≡ join_number pool ts q (length ws) → {rows : ℕ} → rows ≡ how_many q.n (length ws) count → {r : Checked} → r ≡ says (verdict (order_of q) (complete pool ts q) (cut rows q.n ws)) → Checks pool ts q ws count r
  unfolding checked
  checks_says e m d = record {
    answer =
        d
        ∙ ap (λ (k : ℕ). says (verdict (order_of q) (complete pool ts q) (cut k q.n ws))) m
        ∙ ap (λ (n : ℕ). checked n (verdict_on pool ts q ws count)) e;
  }

module _ {pool : List ℕ} {ts : Tables} {q : Query} {len : ℕ} (z : Accepted pool ts q len) (ws : List ℕ) (rows : ℕ) where
  abbrev lines : List Row
  lines = cut rows q.n ws

  abbrev all : List Row
  all = complete pool ts q

  ordered : InOrder (order_of q) all
  ordered = (listing_listing (passes z)).ascending

  module _ {s : Reached} (e : s ≡ meets (cut rows q.n ws) (agreed 0) (plainly q.n (drop (q.n - q.n) (order_of q)) (atoms_of pool ts q) (replicate max_variables 0))) where
    walked : s ≡ meets lines (agreed 0) all
    walked =
        e
        ∙ ap (λ (k : ℕ). meets lines (agreed 0) (plainly q.n (drop k (order_of q)) (atoms_of pool ts q) (replicate max_variables 0))) (let d : q.n - q.n ≡ 0 = omega arith in d)
        ∙ ap (meets lines (agreed 0)) (plainly_is (passes z) (replicate max_variables 0) (omega (arith, (sized z).few)))

    -- the rows that agree are listed, and are good
    pub agreed_inside : s.at ≤ rows
    agreed_inside = go s.at (λ k h. (meets_same lines all walked k h).0)
      where
        go : (n : ℕ) → ((k : ℕ) → k < n → k < length lines) → n ≤ rows
        go zero f = omega arith
        go (suc k) f = omega (arith, f k (omega arith), length_cut rows q.n ws)

    pub agreed_good : (k : ℕ) → k < s.at → good (order_of q) (complete pool ts q) (cut rows q.n ws) k ≡ true
    agreed_good k h =
        let f = meets_same lines all walked in
        let i = f k h in
        right_good (order_of q) all lines k
        (record {
          among = rw i.2 (get_or_in all k [] i.1);
          after = λ j d. let p = f j (omega arith) in rw (p.2, i.2) (rise (order_of q) ordered j k (omega arith) i.1);
        })

    module _ {row : ℕ} (w : row ≡ first_fail rows (good (order_of q) (complete pool ts q) (cut rows q.n ws))) where
      -- the verdict by the row that was found
      by_row : verdict (order_of q) all lines ≡ pick (ltb row rows) (wrong row) (lacks lines all)
      unfolding verdict
      by_row =
          ap (λ (k : ℕ). pick (ltb (first_fail k (good (order_of q) all lines)) k) (wrong (first_fail k (good (order_of q) all lines))) (lacks lines all)) (length_cut rows q.n ws)
          ∙ ap (λ (i : ℕ). pick (ltb i rows) (wrong i) (lacks lines all)) (sym w)

      pub says_wrong : row < rows → record { number = 0; verdict = 2; row = row; missing = no_row } ≡ says (verdict (order_of q) (complete pool ts q) (cut rows q.n ws))
      unfolding says
      says_wrong h = sym (ap says (by_row ∙ ap (λ (b : Bool). pick b (wrong row) (lacks lines all)) (lt-ltb row rows h)))

      -- and by what the walk came to, with the word for it
      pub says_ended : rows ≤ row → {v : ℕ} {m : Row} → v ≡ pick (is_some s.missing) 3 1 → m ≡ unwrap_or s.missing no_row → record { number = 0; verdict = v; row = 0; missing = m } ≡ says (verdict (order_of q) (complete pool ts q) (cut rows q.n ws))
      unfolding ended
      says_ended h {v} {m} d e =
          ap {B = Checked} (λ (x : ℕ). record { number = 0; verdict = x; row = 0; missing = m }) d
          ∙ ap {B = Checked} (λ (x : Row). record { number = 0; verdict = pick (is_some s.missing) 3 1; row = 0; missing = x }) e
          ∙ ap ended walked
          ∙ meets_ended lines all
          ∙ ap says (right_differs (order_of q) all lines ordered (right (cases (order_of q) all lines)) ∙ sym by_lacks)
        where
          by_lacks : verdict (order_of q) all lines ≡ lacks lines all
          by_lacks = by_row ∙ ap (λ (b : Bool). pick b (wrong row) (lacks lines all)) (le-ltb row rows h)

          right : Case (order_of q) all lines → AllRight (order_of q) all lines
          right (found i x d) = absurd (lacks_never_wrong lines all (sym by_lacks ∙ d))
          right (clean f d) = f
