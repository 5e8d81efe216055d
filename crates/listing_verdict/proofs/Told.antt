-- What each verdict says, and which one comes of rows that are known: wrong exactly at the first row that is not right, missing the first row of all that is not listed.
use Prim.Native.Nat.{ℕ, zero, suc, ◌<◌}
use native.Mathlib.Omega.{arith}
use mathlib.Core.Path.{◌≡◌, refl, sym, ap, subst, ◌∙◌}
use mathlib.Core.Logic.{⊎_elim}
use mathlib.Core.Bool.{Bool, true, false}
use mathlib.Core.List.{List, [], ◌∷◌}
use lib.ListN.{length, get_or}
use lib.Dec.{ltb}
use borrow.Author.Tests.{ltb-true, ltb-false, lt-ltb, le-ltb}
use Rattle.relation.specs.Order.{Row, pick, before}
use Rattle.relation.specs.Lists.{◌∈◌, not_in_nil, in_cons, anone, amore}
use Rattle.relation.specs.Rows.{same}
use Rattle.relation.proofs.Lists.{ascends_head, get_or_in}
use Rattle.relation.proofs.Order.{≺→before, before→≺, trans}
use Rattle.relation.proofs.Tests.{T_true, true_T, and_true, and_left, and_right, not_both}
use Rattle.query.specs.Meaning.{part}
use Rattle.query.specs.Checks.{some}
use Rattle.listing_verdict.specs.Verdict.{wrong, in_sequence, good, first_fail, lacks, verdict}
use Rattle.listing_verdict.specs.Facts.{Earlier, InOrder, Right, AllRight, FirstWrong}
use Rattle.listing_verdict.proofs.Fails.{fail_before, fail_here, fail_is, among_in, in_among, decided}

-- ---- rows in order

-- neighbours in order
pub ascend : (order : List ℕ) (rows : List Row) → ((i : ℕ) → suc i < length rows → Earlier order (get_or rows i []) (get_or rows (suc i) [])) → InOrder order rows
ascend order [] f = anone
ascend order (r ∷ []) f = amore (λ q m. absurd (not_in_nil m)) anone
ascend order (r ∷ (s ∷ rows)) f =
    let ih = ascend order (s ∷ rows) (λ i h. f (suc i) (omega arith)) in
    let first : Earlier order r s = f 0 (omega arith) in
    amore (λ q m. ⊎_elim {C = Earlier order r q} (λ (e : q ≡ s). subst (λ (x : Row). Earlier order r x) (sym e) first) (λ (i : q ∈ rows). trans first (ascends_head ih q i)) (in_cons m)) ih

pub rise : (order : List ℕ) {rows : List Row} → InOrder order rows → (i j : ℕ) → i < j → j < length rows → Earlier order (get_or rows i []) (get_or rows j [])
rise order anone i j h k = absurd (omega arith)
rise order (amore f s) zero zero h k = absurd (omega arith)
rise order (amore {rs = rows} f s) zero (suc j) h k = f (get_or rows j []) (get_or_in rows j [] (omega arith))
rise order (amore f s) (suc i) zero h k = absurd (omega arith)
rise order (amore f s) (suc i) (suc j) h k = rise order s i j (omega arith) (omega arith)

-- ---- a row that is right, as a test

module _ (order : List ℕ) (all rows : List Row) where
  good_right : (i : ℕ) → good order all rows i ≡ true → Right order all rows i
  unfolding good in_sequence
  good_right i e = record {
    among = among_in (get_or rows i []) all (and_left (some (same (get_or rows i [])) all) (in_sequence order rows i) e);
    after = λ j d. go i d (and_right (some (same (get_or rows i [])) all) (in_sequence order rows i) e);
  }
    where
      go : {j : ℕ} (k : ℕ) → suc j ≡ k → in_sequence order rows k ≡ true → Earlier order (get_or rows j []) (get_or rows k [])
      go zero d t = absurd (omega arith)
      go {j} (suc k) d t = let h : j ≡ k = omega arith in rw h (before→≺ (part order (get_or rows k [])) (part order (get_or rows (suc k) [])) (true_T (before (part order (get_or rows k [])) (part order (get_or rows (suc k) []))) t))

  pub right_good : (i : ℕ) → Right order all rows i → good order all rows i ≡ true
  unfolding good in_sequence
  right_good i r = and_true (some (same (get_or rows i [])) all) (in_sequence order rows i) (in_among r.among) (go i r.after)
    where
      go : (k : ℕ) → ((j : ℕ) → suc j ≡ k → Earlier order (get_or rows j []) (get_or rows k [])) → in_sequence order rows k ≡ true
      go zero f = refl
      go (suc k) f = T_true (before (part order (get_or rows k [])) (part order (get_or rows (suc k) []))) (≺→before (f k refl))

  abbrev at : ℕ
  at = first_fail (length rows) (good order all rows)

  -- ---- which verdict comes

  pub comes_wrong : {i : ℕ} → FirstWrong order all rows i → verdict order all rows ≡ wrong i
  unfolding verdict
  comes_wrong {i} w =
      let e : at ≡ i = fail_is (length rows) (good order all rows) i (omega (arith, w.inside)) (λ j h. right_good j (w.before j h)) (λ h. decided (good order all rows i) (λ t. w.wrong (good_right i t))) in
      ap (λ (k : ℕ). pick (ltb k (length rows)) (wrong k) (lacks rows all)) e ∙ ap (λ (b : Bool). pick b (wrong i) (lacks rows all)) (lt-ltb i (length rows) w.inside)

  pub comes_lacks : AllRight order all rows → verdict order all rows ≡ lacks rows all
  unfolding verdict
  comes_lacks f =
      let e : at ≡ length rows = fail_is (length rows) (good order all rows) (length rows) (omega arith) (λ j h. right_good j (f j h)) (λ h. absurd (omega arith)) in
      ap (λ (k : ℕ). pick (ltb k (length rows)) (wrong k) (lacks rows all)) e ∙ ap (λ (b : Bool). pick b (wrong (length rows)) (lacks rows all)) (le-ltb (length rows) (length rows) (omega arith))

  -- ---- what a verdict says

  -- either way, by where the first failure is
  pub data Case : Type 0 where
    found : (i : ℕ) → FirstWrong order all rows i → verdict order all rows ≡ wrong i → Case
    clean : AllRight order all rows → verdict order all rows ≡ lacks rows all → Case

  pub cases : Case
  cases = go (ltb at (length rows)) refl
    where
      go : (b : Bool) → ltb at (length rows) ≡ b → Case
      go true e =
          let w : FirstWrong order all rows at = record {
            inside = ltb-true at (length rows) e;
            wrong = λ r. not_both (good order all rows at) (right_good at r) (fail_here (length rows) (good order all rows) (ltb-true at (length rows) e));
            before = λ j h. good_right j (fail_before (length rows) (good order all rows) j h);
          } in
          found at w (comes_wrong w)
      go false e =
          let f : AllRight order all rows = λ i h. good_right i (fail_before (length rows) (good order all rows) i (omega (arith, ltb-false at (length rows) e))) in
          clean f (comes_lacks f)
