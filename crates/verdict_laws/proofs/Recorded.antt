-- What becomes of the listing that a join wrote: complete it is accepted, cut by 12 it lacks the first row that did not fit, and bent it is refused with the verdict that says
-- where. Of the calls' contracts alone.
use Prim.Native.Nat.{ℕ, zero, suc, ◌*◌, ◌≤◌, ◌<◌}
use native.Mathlib.Omega.{arith}
use mathlib.Core.Path.{◌≡◌, refl, sym, ap, subst, ◌∙◌}
use mathlib.Core.Logic.{◌⊎◌, inl, inr, ⊎_elim}
use mathlib.Core.Bool.{Bool, true, false}
use mathlib.Core.List.Memᴰ
use mathlib.Core.List.{List, [], ◌∷◌, ◌++◌}
use lib.ListN.{length, get_or, set, take, drop, length-set}
use lib.Seq.{take_all, take_at, length-take-le, split_at, get_or-set_same}
use lib.Dec.{ltb}
use borrow.Author.Tests.{ltb-true, ltb-false}
use Rattle.relation.specs.Order.{Row, pick}
use Rattle.relation.specs.Lists.{◌∈◌, hd, tl, in_cons}
use Rattle.relation.specs.Rows.{Width, same, flat}
use Rattle.relation.proofs.Lists.{get_or_in}
use Rattle.relation.proofs.Words.{in_front}
use Rattle.query.specs.Checks.{some}
use Rattle.query.specs.Outcome.{Comes, told}
use Rattle.query.specs.Window.{fit, windowed}
use Rattle.from_sorted.proofs.Given.{length_flat}
use Rattle.join_query.specs.Query.{order_of, Accepted}
use Rattle.join_query.specs.Outcome.{outcome}
use Rattle.join_query.specs.declared.Query.{Query}
use Rattle.join_query.specs.declared.Tables.{Tables}
use Rattle.join_query.proofs.Outcome.{outcome_listed}
use Rattle.leapfrog_triejoin.specs.Outcome.{Joins}
use Rattle.leapfrog_triejoin.specs.declared.Joined.{Joined}
use Rattle.listing_verdict.specs.Verdict.{Verdict, accepted, wrong, missing, verdict}
use Rattle.listing_verdict.specs.Checked.{says, complete, Checks}
use Rattle.listing_verdict.specs.Facts.{InOrder}
use Rattle.listing_verdict.specs.declared.Checked.{Checked}
use Rattle.listing_verdict.proofs.Fails.{among_in, among_not}
use Rattle.verdict_laws.specs.Calls.{recorded}
use Rattle.verdict_laws.proofs.Exactly.{rows_accepted}
use Rattle.verdict_laws.proofs.Bent.{a_listing_cut_lacks_the_first_row_cut_off, a_row_dropped_is_missing, a_row_doubled_is_wrong_at_the_second, a_row_changed_into_a_later_answer_is_wrong_behind_it, a_row_changed_else_is_wrong_there, rows_exchanged_are_wrong_behind_the_first}
use Rattle.verdict_laws.proofs.Calls.{in_order, complete_wide, says_of_rows}

-- ---- what a join wrote

take_in : (m : ℕ) (rows : List Row) (r : Row) → r ∈ take m rows → r ∈ rows
take_in m rows r i = let t = in_front rows m r i in subst (λ (x : Row). x ∈ rows) (sym t.3) (get_or_in rows t.0 [] t.2)

fit_le : (n l c : ℕ) → fit n l c ≤ c
unfolding fit
fit_le zero l c = omega arith
fit_le (suc n) l c = omega arith

module _ {pool : List ℕ} {ts : Tables} {q : Query} {window : List ℕ} (z : Accepted pool ts q (length window)) {r : Joined} {after : List ℕ} (j : Joins pool ts q window r after) where
  abbrev all : List Row
  all = complete pool ts q

  abbrev m : ℕ
  m = fit q.n (length window) (length all)

  comes : outcome pool ts q window ≡ told (windowed window q.n all)
  comes = outcome_listed pool ts q window z.passed

  rows_are : r.rows ≡ m
  unfolding told windowed
  rows_are = j.rows ∙ ap (λ (c : Comes). c.rows) comes

  number_is : r.number ≡ pick (ltb m (length all)) 12 0
  unfolding told windowed
  number_is = j.number ∙ ap (λ (c : Comes). c.number) comes

  words_are : after ≡ flat (take m all) ++ drop (m * q.n) window
  unfolding told windowed
  words_are = j.words ∙ ap (λ (c : Comes). c.words) comes

  -- the rows that it wrote, the first m of all
  written_wide : Width q.n (take m all)
  written_wide v i = complete_wide z v (take_in m all v i)

  written_many : length (take m all) ≡ m
  written_many = length-take-le m all (fit_le q.n (length window) (length all))

  recorded_is : recorded q.n r.rows after ≡ flat (take m all)
  recorded_is =
      ap (λ (k : ℕ). take (k * q.n) after) rows_are
      ∙ ap (take (m * q.n)) words_are
      ∙ take_at (flat (take m all)) (drop (m * q.n) window) (m * q.n) (length_flat (take m all) written_wide ∙ ap (λ (k : ℕ). k * q.n) written_many)

  module _ {c : Checked} (k : Checks pool ts q (recorded q.n r.rows after) r.rows c) where
    says_of_written : c ≡ says (verdict (order_of q) all (take m all))
    says_of_written =
        says_of_rows z (take m all) written_wide
        (subst (λ (l : ℕ). Checks pool ts q (flat (take m all)) l c) (rows_are ∙ sym written_many)
        (subst (λ (l : List ℕ). Checks pool ts q l r.rows c) recorded_is k))

    pub what_a_join_lists_in_full_is_accepted : r.number ≡ 0 → c ≡ says accepted
    what_a_join_lists_in_full_is_accepted e =
        says_of_written
        ∙ ap says (rows_accepted (order_of q) (in_order z) (take m all) (go (ltb m (length all)) refl (sym number_is ∙ e)))
      where
        go : (b : Bool) → ltb m (length all) ≡ b → ◌≡◌ {A = ℕ} (pick b 12 0) 0 → take m all ≡ all
        go true d n = absurd (omega (arith, n))
        go false d n = take_all m all (omega (arith, ltb-false m (length all) d))

    pub a_listing_cut_by_12_lacks_the_first_row_that_did_not_fit : r.number ≡ 12 → c ≡ says (missing (get_or (complete pool ts q) r.rows []))
    a_listing_cut_by_12_lacks_the_first_row_that_did_not_fit e =
        says_of_written
        ∙ ap says (go (ltb m (length all)) refl (sym number_is ∙ e))
        ∙ ap (λ (i : ℕ). says (missing (get_or all i []))) (sym rows_are)
      where
        go : (b : Bool) → ltb m (length all) ≡ b → ◌≡◌ {A = ℕ} (pick b 12 0) 12 → verdict (order_of q) all (take m all) ≡ missing (get_or all m [])
        go false d n = absurd (omega (arith, n))
        go true d n =
            let p = split_at all m [] (ltb-true m (length all) d) in
            subst (λ (l : List Row). verdict (order_of q) l (take m all) ≡ missing (get_or all m [])) (sym p)
            (a_listing_cut_lacks_the_first_row_cut_off (order_of q) (take m all) (get_or all m []) (drop (suc m) all) (subst (InOrder (order_of q)) p (in_order z)))

-- ---- the complete listing, bent: it is xs, then a row v, then ys

module _ {pool : List ℕ} {ts : Tables} {q : Query} {len : ℕ} (z : Accepted pool ts q len) (xs : List Row) (v : Row) (ys : List Row) (e : complete pool ts q ≡ xs ++ v ∷ ys) where
  order_of_lem : InOrder (order_of q) (xs ++ v ∷ ys)
  order_of_lem = subst (InOrder (order_of q)) e (in_order z)

  wide_of : Width q.n (xs ++ v ∷ ys)
  wide_of = subst (Width q.n) e (complete_wide z)

  -- rows that are all among those
  wide_among : (rows : List Row) → ((r : Row) → r ∈ rows → (r ∈ xs) ⊎ (r ∈ (v ∷ ys))) → Width q.n rows
  wide_among rows f r m = wide_of r (⊎_elim {C = r ∈ (xs ++ v ∷ ys)} (Memᴰ.append_left (v ∷ ys)) (Memᴰ.append_right xs) (f r m))

  says_bent : (rows : List Row) → Width q.n rows → {d : Verdict} → verdict (order_of q) (xs ++ v ∷ ys) rows ≡ d → {c : Checked} → Checks pool ts q (flat rows) (length rows) c → c ≡ says d
  says_bent rows w {d} g k = says_of_rows z rows w k ∙ ap says (subst (λ (l : List Row). verdict (order_of q) l rows ≡ d) (sym e) g)

  pub one_row_dropped : {c : Checked} → Checks pool ts q (flat (xs ++ ys)) (length (xs ++ ys)) c → c ≡ says (missing v)
  one_row_dropped = says_bent (xs ++ ys) (wide_among (xs ++ ys) (λ r m. ⊎_elim {C = (r ∈ xs) ⊎ (r ∈ (v ∷ ys))} inl (λ (i : r ∈ ys). inr (tl i)) (Memᴰ.append_cases xs m))) (a_row_dropped_is_missing (order_of q) xs v ys order_of_lem)

  pub one_row_doubled : {c : Checked} → Checks pool ts q (flat (xs ++ v ∷ v ∷ ys)) (length (xs ++ v ∷ v ∷ ys)) c → c ≡ says (wrong (suc (length xs)))
  one_row_doubled =
      says_bent (xs ++ v ∷ v ∷ ys)
      (wide_among (xs ++ v ∷ v ∷ ys) (λ r m. ⊎_elim {C = (r ∈ xs) ⊎ (r ∈ (v ∷ ys))} inl (λ (i : r ∈ (v ∷ v ∷ ys)). inr (⊎_elim {C = r ∈ (v ∷ ys)} (λ (d : r ≡ v). hd d) (λ (n : r ∈ (v ∷ ys)). n) (in_cons i))) (Memᴰ.append_cases xs m)))
      (a_row_doubled_is_wrong_at_the_second (order_of q) xs v ys order_of_lem)

  -- another row of n words in its place
  module _ (s : Row) (h : length s ≡ q.n) {c : Checked} (k : Checks pool ts q (flat (xs ++ s ∷ ys)) (length (xs ++ s ∷ ys)) c) where
    wide_changed : Width q.n (xs ++ s ∷ ys)
    wide_changed r m =
        ⊎_elim {C = length r ≡ q.n}
        (λ (i : r ∈ xs). wide_of r (Memᴰ.append_left (v ∷ ys) i))
        (λ (i : r ∈ (s ∷ ys)). ⊎_elim {C = length r ≡ q.n} (λ (d : r ≡ s). ap length d ∙ h) (λ (n : r ∈ ys). wide_of r (Memᴰ.append_right xs (tl n))) (in_cons i))
        (Memᴰ.append_cases xs m)

    pub one_row_changed_into_a_later_answer : s ∈ ys → c ≡ says (wrong (suc (length xs)))
    one_row_changed_into_a_later_answer m = says_bent (xs ++ s ∷ ys) wide_changed (a_row_changed_into_a_later_answer_is_wrong_behind_it (order_of q) xs v ys order_of_lem s m) k

    pub one_row_changed_else : (s ≡ v → ⊥) → (s ∈ ys → ⊥) → c ≡ says (wrong (length xs))
    one_row_changed_else f g = says_bent (xs ++ s ∷ ys) wide_changed (a_row_changed_else_is_wrong_there (order_of q) xs v ys order_of_lem s f g) k

    -- either way it is wrong there or behind it
    pub one_row_changed : (s ≡ v → ⊥) → (c ≡ says (wrong (length xs))) ⊎ (c ≡ says (wrong (suc (length xs))))
    one_row_changed f = go (some (same s) ys) refl
      where
        go : (b : Bool) → some (same s) ys ≡ b → (c ≡ says (wrong (length xs))) ⊎ (c ≡ says (wrong (suc (length xs))))
        go true d = inr (one_row_changed_into_a_later_answer (among_in s ys d))
        go false d = inl (one_row_changed_else f (among_not d))

  -- one word changed
  pub one_word_changed : (i w : ℕ) → i < q.n → (w ≡ get_or v i 0 → ⊥) → {c : Checked} → Checks pool ts q (flat (xs ++ set v i w ∷ ys)) (length (xs ++ set v i w ∷ ys)) c → (c ≡ says (wrong (length xs))) ⊎ (c ≡ says (wrong (suc (length xs))))
  one_word_changed i w h f k =
      let l : length v ≡ q.n = wide_of v (Memᴰ.append_right xs (hd refl)) in
      one_row_changed (set v i w) (length-set v i w ∙ l) k (λ d. f (sym (get_or-set_same v i w 0 (omega (arith, l))) ∙ ap (λ (r : Row). get_or r i 0) d))

-- two rows exchanged: a, and b somewhere behind it
pub two_rows_exchanged : {pool : List ℕ} {ts : Tables} {q : Query} {len : ℕ} → Accepted pool ts q len → (xs : List Row) (a : Row) (ys : List Row) (b : Row) (zs : List Row) → complete pool ts q ≡ xs ++ a ∷ (ys ++ b ∷ zs) → {c : Checked} → Checks pool ts q (flat (xs ++ b ∷ (ys ++ a ∷ zs))) (length (xs ++ b ∷ (ys ++ a ∷ zs))) c → c ≡ says (wrong (suc (length xs)))
two_rows_exchanged {pool} {ts} {q} z xs a ys b zs e k =
    says_bent z xs a (ys ++ b ∷ zs) e (xs ++ b ∷ (ys ++ a ∷ zs)) wide (rows_exchanged_are_wrong_behind_the_first (order_of q) xs a ys b zs (order_of_lem z xs a (ys ++ b ∷ zs) e)) k
  where
    wide : Width q.n (xs ++ b ∷ (ys ++ a ∷ zs))
    wide = wide_among z xs a (ys ++ b ∷ zs) e (xs ++ b ∷ (ys ++ a ∷ zs)) (λ r m. ⊎_elim {C = (r ∈ xs) ⊎ (r ∈ (a ∷ (ys ++ b ∷ zs)))} inl (λ (i : r ∈ (b ∷ (ys ++ a ∷ zs))). inr (first r i)) (Memᴰ.append_cases xs m))
      where
        behind : (r : Row) → r ∈ (ys ++ a ∷ zs) → r ∈ (a ∷ (ys ++ b ∷ zs))
        behind r i =
            ⊎_elim {C = r ∈ (a ∷ (ys ++ b ∷ zs))}
            (λ (n : r ∈ ys). tl (Memᴰ.append_left (b ∷ zs) n))
            (λ (n : r ∈ (a ∷ zs)). ⊎_elim {C = r ∈ (a ∷ (ys ++ b ∷ zs))} (λ (d : r ≡ a). hd d) (λ (o : r ∈ zs). tl (Memᴰ.append_right ys (tl o))) (in_cons n))
            (Memᴰ.append_cases ys i)

        first : (r : Row) → r ∈ (b ∷ (ys ++ a ∷ zs)) → r ∈ (a ∷ (ys ++ b ∷ zs))
        first r i = ⊎_elim {C = r ∈ (a ∷ (ys ++ b ∷ zs))} (λ (d : r ≡ b). tl (Memᴰ.append_right ys (hd d))) (behind r) (in_cons i)
