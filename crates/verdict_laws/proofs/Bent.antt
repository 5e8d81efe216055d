-- What becomes of a complete listing that is bent: cut, or with a row dropped, doubled, exchanged with another or changed. Idea: the rows before the place are right; what stands
-- there is not in sequence, or is no answer, or all is right and the row is missing.
use Prim.Native.Nat.{ℕ, suc, ◌-◌, ◌<◌}
use native.Mathlib.Omega.{arith}
use native.Mathlib.Decide.{ℕ_discrete}
use mathlib.Core.Path.{◌≡◌, refl, sym, ap, subst, ◌∙◌}
use mathlib.Core.Logic.{⊎_elim}
use mathlib.Core.Bool.{Bool, true, false}
use mathlib.Core.List.Memᴰ
use mathlib.Core.List.{List, [], ◌∷◌, ◌++◌}
use lib.ListN.{length, get_or, length-append, get_or-append}
use lib.Seq.{get_or-append_seam, append_snoc}
use Rattle.relation.specs.Order.{Row}
use Rattle.relation.specs.Lists.{◌∈◌, hd, tl, not_in_nil, in_cons, Ascends, anone, amore}
use Rattle.relation.proofs.Lists.{get_or_in, in_get_or, ascends_append, ascends_head, ascends_tail}
use Rattle.relation.proofs.Order.{irrefl, asym, trans}
use Rattle.relation.specs.Rows.{same}
use Rattle.query.specs.Checks.{some}
use Rattle.listing_verdict.specs.Verdict.{wrong, missing, lacks, verdict}
use Rattle.listing_verdict.specs.Facts.{Earlier, InOrder, Right}
use Rattle.listing_verdict.proofs.Fails.{among_in, among_not}
use Rattle.listing_verdict.proofs.Told.{rise, comes_wrong, comes_lacks}
use Rattle.listing_verdict.proofs.Lacks.{lacks_at}
use Rattle.verdict_laws.proofs.Exactly.{sub_right}

module _ {A : Type 0} {R : A → A → Type 0} where
  ascends_left : (xs ys : List A) → Ascends R (xs ++ ys) → Ascends R xs
  ascends_left [] ys s = anone
  ascends_left (x ∷ xs) ys (amore f s) = amore (λ q m. f q (Memᴰ.append_left ys m)) (ascends_left xs ys s)

  ascends_right : (xs ys : List A) → Ascends R (xs ++ ys) → Ascends R ys
  ascends_right [] ys s = s
  ascends_right (x ∷ xs) ys (amore f s) = ascends_right xs ys s

  ascends_across : (xs ys : List A) → Ascends R (xs ++ ys) → (a b : A) → a ∈ xs → b ∈ ys → R a b
  ascends_across [] ys s a b i j = absurd (not_in_nil i)
  ascends_across (x ∷ xs) ys (amore f s) a b i j =
      ⊎_elim {C = R a b} (λ (e : a ≡ x). subst (λ (z : A). R z b) (sym e) (f b (Memᴰ.append_right xs j))) (λ (m : a ∈ xs). ascends_across xs ys s a b m j) (in_cons i)

module _ (order : List ℕ) (all : List Row) where
  -- rows at the front stay right, whatever stands behind them
  front_right : (xs zs : List Row) → InOrder order xs → ((r : Row) → r ∈ xs → r ∈ all) → (j : ℕ) → j < length xs → Right order all (xs ++ zs) j
  front_right xs zs s f j h =
      let t = sub_right order all s f j h in
      let at : (k : ℕ) → k < length xs → get_or (xs ++ zs) k [] ≡ get_or xs k [] = λ k l. get_or-append xs zs [] k l in
      record {
        among = rw (at j h) t.among;
        after = λ k e. rw (at j h, at k (omega arith)) (t.after k e);
      }

  -- the row behind them is the first wrong one
  next_wrong : (xs : List Row) (b : Row) (zs : List Row) → InOrder order xs → ((r : Row) → r ∈ xs → r ∈ all) → (Right order all (xs ++ b ∷ zs) (length xs) → ⊥) → verdict order all (xs ++ b ∷ zs) ≡ wrong (length xs)
  next_wrong xs b zs s f g = comes_wrong order all (xs ++ b ∷ zs) (record {
    inside = omega (arith, length-append xs (b ∷ zs));
    wrong = g;
    before = front_right xs (b ∷ zs) s f;
  })

  -- it is no answer
  no_answer : (xs : List Row) (b : Row) (zs : List Row) → InOrder order xs → ((r : Row) → r ∈ xs → r ∈ all) → (b ∈ all → ⊥) → verdict order all (xs ++ b ∷ zs) ≡ wrong (length xs)
  no_answer xs b zs s f g = next_wrong xs b zs s f (λ r. g (subst (λ (x : Row). x ∈ all) (get_or-append_seam xs b zs []) r.among))

  -- or it does not come after one of them
  no_step : (xs : List Row) (a b : Row) (zs : List Row) → InOrder order xs → ((r : Row) → r ∈ xs → r ∈ all) → a ∈ xs → (Earlier order a b → ⊥) → verdict order all (xs ++ b ∷ zs) ≡ wrong (length xs)
  no_step xs a b zs s f m g = next_wrong xs b zs s f (λ r. g (later r))
    where
      later : Right order all (xs ++ b ∷ zs) (length xs) → Earlier order a b
      later r =
          let t = in_get_or [] m in
          let l = length xs - 1 in
          let last : Earlier order (get_or xs l []) b = subst (λ (x : Row). Earlier order x b) (get_or-append xs (b ∷ zs) [] l (omega (arith, t.1))) (subst (Earlier order (get_or (xs ++ b ∷ zs) l [])) (get_or-append_seam xs b zs []) (r.after l (omega (arith, t.1)))) in
          go t (ℕ_discrete t.0 l) last
        where
          go : (t : (i : ℕ) × (i < length xs) × (get_or xs i [] ≡ a)) → Dec (t.0 ≡ length xs - 1) → Earlier order (get_or xs (length xs - 1) []) b → Earlier order a b
          go t (yes e) last = subst (λ (x : Row). Earlier order x b) (ap (λ (k : ℕ). get_or xs k []) (sym e) ∙ t.2) last
          go t (no n) last = trans (subst (λ (x : Row). Earlier order x (get_or xs (length xs - 1) [])) t.2 (rise order s t.0 (length xs - 1) (omega (arith, t.1)) (omega (arith, t.1)))) last

-- ---- the complete listing is xs, then a row r, then ys

module _ (order : List ℕ) (xs : List Row) (r : Row) (ys : List Row) (o : InOrder order (xs ++ r ∷ ys)) where
  front : InOrder order xs
  front = ascends_left xs (r ∷ ys) o

  back : InOrder order (r ∷ ys)
  back = ascends_right xs (r ∷ ys) o

  in_front : (q : Row) → q ∈ xs → q ∈ (xs ++ r ∷ ys)
  in_front q m = Memᴰ.append_left (r ∷ ys) m

  across : (a b : Row) → a ∈ xs → b ∈ (r ∷ ys) → Earlier order a b
  across = ascends_across xs (r ∷ ys) o

  not_front : r ∈ xs → ⊥
  not_front m = irrefl (across r r m (hd refl))

  -- rows that hold all of xs and not r
  lacks_it : (rows : List Row) → ((q : Row) → q ∈ xs → q ∈ rows) → (r ∈ rows → ⊥) → lacks rows (xs ++ r ∷ ys) ≡ missing r
  lacks_it rows f g =
      lacks_at rows (xs ++ r ∷ ys) (length xs) (omega (arith, length-append xs (r ∷ ys)))
      (λ m. g (subst (λ (q : Row). q ∈ rows) (get_or-append_seam xs r ys []) m))
      (λ j h. subst (λ (q : Row). q ∈ rows) (sym (get_or-append xs (r ∷ ys) [] j h)) (f (get_or xs j []) (get_or_in xs j [] h)))
      ∙ ap missing (get_or-append_seam xs r ys [])

  -- ---- cut behind xs
  pub a_listing_cut_lacks_the_first_row_cut_off : verdict order (xs ++ r ∷ ys) xs ≡ missing r
  a_listing_cut_lacks_the_first_row_cut_off = comes_lacks order (xs ++ r ∷ ys) xs (sub_right order (xs ++ r ∷ ys) front in_front) ∙ lacks_it xs (λ q m. m) not_front

  -- ---- the row dropped
  pub a_row_dropped_is_missing : verdict order (xs ++ r ∷ ys) (xs ++ ys) ≡ missing r
  a_row_dropped_is_missing =
      comes_lacks order (xs ++ r ∷ ys) (xs ++ ys)
      (sub_right order (xs ++ r ∷ ys) (ascends_append front (ascends_tail back) (λ a b i j. across a b i (tl j)))
      (λ q m. ⊎_elim {C = q ∈ (xs ++ r ∷ ys)} (in_front q) (λ (i : q ∈ ys). Memᴰ.append_right xs (tl i)) (Memᴰ.append_cases xs m)))
      ∙ lacks_it (xs ++ ys) (λ q m. Memᴰ.append_left ys m)
      (λ m. ⊎_elim {C = ⊥} not_front (λ (i : r ∈ ys). irrefl (ascends_head back r i)) (Memᴰ.append_cases xs m))

  -- ---- a row s of all in its place or behind it, with a row behind s that does not come after it
  out_behind : (s b : Row) (zs : List Row) → s ∈ (r ∷ ys) → (Earlier order s b → ⊥) → verdict order (xs ++ r ∷ ys) (xs ++ s ∷ b ∷ zs) ≡ wrong (suc (length xs))
  out_behind s b zs m g =
      subst (λ (l : List Row). verdict order (xs ++ r ∷ ys) l ≡ wrong (suc (length xs))) (append_snoc xs s (b ∷ zs))
      (no_step order (xs ++ r ∷ ys) (xs ++ s ∷ []) s b zs
      (ascends_append front (amore (λ q i. absurd (not_in_nil i)) anone) (λ a c i j. across a c i (subst (λ (q : Row). q ∈ (r ∷ ys)) (sym (Memᴰ.eq_of_singleton j)) m)))
      (λ q i. ⊎_elim {C = q ∈ (xs ++ r ∷ ys)} (in_front q) (λ (j : q ∈ (s ∷ [])). Memᴰ.append_right xs (subst (λ (p : Row). p ∈ (r ∷ ys)) (sym (Memᴰ.eq_of_singleton j)) m)) (Memᴰ.append_cases xs i))
      (Memᴰ.append_right xs (hd refl)) g
      ∙ ap wrong (let e : length (xs ++ s ∷ []) ≡ suc (length xs) = omega (arith, length-append xs (s ∷ [])) in e))

  -- ---- the row doubled
  pub a_row_doubled_is_wrong_at_the_second : verdict order (xs ++ r ∷ ys) (xs ++ r ∷ r ∷ ys) ≡ wrong (suc (length xs))
  a_row_doubled_is_wrong_at_the_second = out_behind r r ys (hd refl) irrefl

  -- ---- another row s in its place: wrong there, unless s is an answer that comes later, and then wrong behind it
  pub a_row_changed_into_a_later_answer_is_wrong_behind_it : (s : Row) → s ∈ ys → verdict order (xs ++ r ∷ ys) (xs ++ s ∷ ys) ≡ wrong (suc (length xs))
  a_row_changed_into_a_later_answer_is_wrong_behind_it s m = go ys refl
    where
      go : (l : List Row) → ys ≡ l → verdict order (xs ++ r ∷ ys) (xs ++ s ∷ l) ≡ wrong (suc (length xs))
      go [] e = absurd (not_in_nil (subst (λ (l : List Row). s ∈ l) e m))
      go (y ∷ l) e =
          let t = subst (InOrder order) e (ascends_tail back) in
          out_behind s y l (tl m)
          (λ h. ⊎_elim {C = ⊥} (λ (d : s ≡ y). irrefl (subst (Earlier order s) (sym d) h)) (λ (i : s ∈ l). asym h (ascends_head t s i)) (in_cons (subst (λ (l : List Row). s ∈ l) e m)))

  pub a_row_changed_else_is_wrong_there : (s : Row) → (s ≡ r → ⊥) → (s ∈ ys → ⊥) → verdict order (xs ++ r ∷ ys) (xs ++ s ∷ ys) ≡ wrong (length xs)
  a_row_changed_else_is_wrong_there s n f = go (some (same s) xs) refl
    where
      go : (b : Bool) → some (same s) xs ≡ b → verdict order (xs ++ r ∷ ys) (xs ++ s ∷ ys) ≡ wrong (length xs)
      go true e = no_step order (xs ++ r ∷ ys) xs s s ys front in_front (among_in s xs e) irrefl
      go false e =
          no_answer order (xs ++ r ∷ ys) xs s ys front in_front
          (λ m. ⊎_elim {C = ⊥} (among_not e) (λ (i : s ∈ (r ∷ ys)). ⊎_elim {C = ⊥} n f (in_cons i)) (Memᴰ.append_cases xs m))

-- ---- two rows a and b exchanged

pub rows_exchanged_are_wrong_behind_the_first : (order : List ℕ) (xs : List Row) (a : Row) (ys : List Row) (b : Row) (zs : List Row) → InOrder order (xs ++ a ∷ (ys ++ b ∷ zs)) → verdict order (xs ++ a ∷ (ys ++ b ∷ zs)) (xs ++ b ∷ (ys ++ a ∷ zs)) ≡ wrong (suc (length xs))
rows_exchanged_are_wrong_behind_the_first order xs a [] b zs o =
    out_behind order xs a (b ∷ zs) o b a zs (tl (hd refl)) (λ h. asym h (ascends_head (back order xs a (b ∷ zs) o) b (hd refl)))
rows_exchanged_are_wrong_behind_the_first order xs a (y ∷ ys) b zs o =
    out_behind order xs a (y ∷ (ys ++ b ∷ zs)) o b y (ys ++ a ∷ zs) (tl (tl (Memᴰ.append_right ys (hd refl))))
    (λ h. asym h (ascends_head (ascends_tail (back order xs a (y ∷ (ys ++ b ∷ zs)) o)) b (Memᴰ.append_right ys (hd refl))))
