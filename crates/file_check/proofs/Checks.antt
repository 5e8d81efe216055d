-- The field of rows at the front, by its bytes.
use Prim.Native.Nat.{ℕ, zero, suc, ◌+◌, ◌*◌, ◌/◌, ◌%◌, ◌-◌, ◌<◌, ◌≤◌}
use mathlib.Core.Path.{◌≡◌, refl, sym, ap, ap₂, ◌∙◌, subst}
use mathlib.Core.Bool.{Bool, true, false, ◌&&◌, ◌||◌}
use mathlib.Core.Logic.{◌⊎◌, inl, inr, ⊎_elim}
use mathlib.Core.List.{List, ◌∷◌, ◌++◌, append_assoc}
use native.Mathlib.Omega.{arith}
use native.Mathlib.Nat.{div-add-mod', suc-mul}
use lib.ListN.{length, take, drop, get_or, length-append, length-drop, take-append-drop}
use lib.Dec.{eqb}
use lib.Seq.{drop-drop, drop-cons, take_all}
use borrow.Author.Tests.{eqb-true, eq-eqb}
use Rattle.std.specs.Prelude.{Some, None}
use Rattle.std.proofs.lemmas.Option.{none-some, same_Some}
use Rattle.relation.specs.Rows.{cut, flat, same}
use Rattle.relation.proofs.Tests.{and_true, or_right, not_both}
use Rattle.relation.proofs.Words.{flat_cut}
use Rattle.table_file.specs.Bytes.{bytes_of, number, encode, decode, begins, Bytes}
use Rattle.table_file.specs.File.{per_field, rows_field, end, rows_here, behind, not_empty, field_ok}
use Rattle.file_check.specs.Checks.{field_rows}
use Rattle.table_file.proofs.Numbers.{length_bytes_of, number_bytes, bytes_number, length_encode, length_decode, encode_decode, bytes_drop, begins_append, begins_true}
use Rattle.table_file.proofs.Fields.{eights, two, per_fits, length_flat, length_field, rows_not_empty, not_empty_rows, length_here, here_few, here_width, tests}

either : (x y : Bool) → (x || y) ≡ true → (x ≡ true) ⊎ (y ≡ true)
either true y h = inl refl
either false y h = inr h

-- a product with a factor that is not 0
pub times : (k a : ℕ) → 0 < a → k ≤ k * a
times zero a h = omega arith
times (suc k) a h = omega (arith, times k a h, suc-mul k a)

or_left : (x y : Bool) → x ≡ true → (x || y) ≡ true
or_left x y h = ap (λ (z : Bool). z || y) h

module _ (a : ℕ) (pos : 0 < a) (bs : List ℕ) (b : Bytes bs) where
  -- the length that the field has, and how many rows that is
  abbrev said : ℕ
  said = number 2 (drop 1 bs)

  abbrev rows_said : ℕ
  rows_said = number 2 (drop 1 bs) / (8 * a)

  -- what the bytes of a good field are like
  pub record Good : Type 0 where
    pub tag : get_or bs 0 0 ≡ 2
    pub whole : said % (8 * a) ≡ 0
    pub long : 3 + said ≤ length bs
    pub last : (rows_said ≡ per_field a) ⊎ (same (drop (3 + said) bs) end ≡ true)

  exact : said % (8 * a) ≡ 0 → 8 * (rows_said * a) ≡ said
  exact h = eights rows_said a ∙ omega (arith, h, div-add-mod' said (8 * a))

  there_good : begins (rows_field (rows_here a bs)) bs ≡ true → (get_or bs 0 0 ≡ 2) × (said % (8 * a) ≡ 0) × (3 + said ≤ length bs)
  unfolding rows_field
  there_good h =
      let rs = rows_here a bs in
      let v = encode (flat rs) in
      let rest = drop (length (rows_field rs)) bs in
      let e : bs ≡ 2 ∷ ((bytes_of 2 (length v) ++ v) ++ rest) = begins_true (rows_field rs) bs h in
      let k : length rs ≡ rows_said = length_here a pos bs in
      let l : length v ≡ 8 * (length rs * a) = length_encode (flat rs) ∙ ap (λ (n : ℕ). 8 * n) (length_flat rs (here_width a pos bs)) in
      let m : length v ≤ 65535 = omega (arith, per_fits a pos (length rs) (here_few a pos bs b)) in
      let n : said ≡ length v = ap (λ (x : List ℕ). number 2 (drop 1 x)) e ∙ ap (number 2) (append_assoc (bytes_of 2 (length v)) v rest) ∙ number_bytes 2 (length v) (v ++ rest) (two m) in
      let o : 8 * (length rs * a) ≡ rows_said * (8 * a) = ap (λ (j : ℕ). 8 * (j * a)) k ∙ eights rows_said a in (
        ap (λ (x : List ℕ). get_or x 0 0) e,
        omega (arith, div-add-mod' said (8 * a)),
        omega (arith, ap length e, length-append (bytes_of 2 (length v) ++ v) rest, length-append (bytes_of 2 (length v)) v, length_bytes_of 2 (length v)),
      )

  good_there : get_or bs 0 0 ≡ 2 → said % (8 * a) ≡ 0 → 3 + said ≤ length bs → begins (rows_field (rows_here a bs)) bs ≡ true
  unfolding rows_field rows_here
  good_there t w l =
      let k = rows_said in
      let ds = decode (k * a) (drop 3 bs) in
      let x = exact w in
      let f : flat (cut k a ds) ≡ ds = flat_cut k a ds (omega (arith, length_decode (k * a) (drop 3 bs))) ∙ take_all (k * a) ds (omega (arith, length_decode (k * a) (drop 3 bs))) in
      let v : encode (flat (cut k a ds)) ≡ take said (drop 3 bs) = ap encode f ∙ encode_decode (k * a) (drop 3 bs) (bytes_drop 3 bs b) (omega (arith, length-drop 3 bs)) ∙ ap (λ (n : ℕ). take n (drop 3 bs)) x in
      let n : length (encode (flat (cut k a ds))) ≡ said = length_encode (flat (cut k a ds)) ∙ ap (λ (ws : List ℕ). 8 * length ws) f ∙ ap (λ (j : ℕ). 8 * j) (length_decode (k * a) (drop 3 bs)) ∙ x in
      let h : bytes_of 2 said ≡ take 2 (drop 1 bs) = bytes_number 2 (drop 1 bs) (bytes_drop 1 bs b) (omega (arith, length-drop 1 bs)) in
      let u : bs ≡ get_or bs 0 0 ∷ drop 1 bs = drop-cons bs 0 0 (omega arith) in
      let p : drop 1 bs ≡ take 2 (drop 1 bs) ++ drop 3 bs = sym (take-append-drop 2 (drop 1 bs)) ∙ ap (λ (r : List ℕ). take 2 (drop 1 bs) ++ r) (drop-drop 2 1 bs) in
      let q : drop 3 bs ≡ take said (drop 3 bs) ++ drop said (drop 3 bs) = sym (take-append-drop said (drop 3 bs)) in
      let r : bs ≡ (2 ∷ (bytes_of 2 (length (encode (flat (cut k a ds)))) ++ encode (flat (cut k a ds)))) ++ drop said (drop 3 bs) =
      u ∙
      ap₂ {C = List ℕ} (λ (y : ℕ) (z : List ℕ). y ∷ z) t
      (p ∙ ap₂ {C = List ℕ} ◌++◌ (sym h ∙ ap (bytes_of 2) (sym n)) (q ∙ ap (λ (z : List ℕ). z ++ drop said (drop 3 bs)) (sym v)) ∙
      sym (append_assoc (bytes_of 2 (length (encode (flat (cut k a ds))))) (encode (flat (cut k a ds))) (drop said (drop 3 bs)))) in
      subst (λ (z : List ℕ). begins (rows_field (rows_here a bs)) z ≡ true) (sym r) (begins_append (rows_field (rows_here a bs)) (drop said (drop 3 bs)))

  pub behind_is : said % (8 * a) ≡ 0 → behind a bs ≡ drop (3 + said) bs
  behind_is h =
      ap (λ (n : ℕ). drop n bs)
      (length_field (rows_here a bs) (here_width a pos bs) ∙ ap (λ (n : ℕ). 3 + n) (ap (λ (j : ℕ). 8 * (j * a)) (length_here a pos bs) ∙ exact h))

  ok_good : field_ok a bs ≡ true → Good
  ok_good h =
      let t = tests a pos bs h in
      let g = there_good t.0 in
      record {
        tag = g.0;
        whole = g.1;
        long = g.2;
        last = ⊎_elim (λ e. inl (sym (length_here a pos bs) ∙ eqb-true (length (rows_here a bs)) (per_field a) e)) (λ e. inr (subst (λ (l : List ℕ). same l end ≡ true) (behind_is g.1) e)) (either (eqb (length (rows_here a bs)) (per_field a)) (same (behind a bs) end) t.2);
      }

  good_ok : Good → 0 < rows_said → field_ok a bs ≡ true
  unfolding field_ok
  good_ok g s =
      and_true (begins (rows_field (rows_here a bs)) bs) (not_empty (rows_here a bs) && (eqb (length (rows_here a bs)) (per_field a) || same (behind a bs) end)) (good_there g.tag g.whole g.long)
      (and_true (not_empty (rows_here a bs)) (eqb (length (rows_here a bs)) (per_field a) || same (behind a bs) end)
      (rows_not_empty (rows_here a bs) (omega (arith, length_here a pos bs)))
      (⊎_elim
      (λ (e : rows_said ≡ per_field a). or_left (eqb (length (rows_here a bs)) (per_field a)) (same (behind a bs) end) (eq-eqb (length (rows_here a bs)) (per_field a) (length_here a pos bs ∙ e)))
      (λ (e : same (drop (3 + said) bs) end ≡ true). or_right (eqb (length (rows_here a bs)) (per_field a)) (same (behind a bs) end) (subst (λ (l : List ℕ). same l end ≡ true) (sym (behind_is g.whole)) e))
      g.last))

  rows_ok : field_ok a bs ≡ true → field_rows a bs ≡ Some (length (rows_here a bs))
  unfolding field_rows
  rows_ok h = simp (field_rows, h)

  rows_none : field_ok a bs ≡ false → field_rows a bs ≡ None
  unfolding field_rows
  rows_none h = simp (field_rows, h)

  pub rows_bad : (Good → ⊥) → field_rows a bs ≡ None
  rows_bad n = go (field_ok a bs) refl
    where
      go : (x : Bool) → field_ok a bs ≡ x → field_rows a bs ≡ None
      go true h = absurd (n (ok_good h))
      go false h = rows_none h

  pub rows_empty : said ≡ 0 → field_rows a bs ≡ None
  rows_empty z = go (field_ok a bs) refl
    where
      go : (x : Bool) → field_ok a bs ≡ x → field_rows a bs ≡ None
      go true h = absurd (omega (arith, exact (ok_good h).whole, eights rows_said a, not_empty_rows (rows_here a bs) (tests a pos bs h).1, length_here a pos bs, times rows_said a pos))
      go false h = rows_none h

  pub rows_good : Good → 0 < said → field_rows a bs ≡ Some rows_said
  rows_good g s = rows_ok (good_ok g (some_said rows_said refl)) ∙ ap Some (length_here a pos bs)
    where
      some_said : (q : ℕ) → rows_said ≡ q → 0 < rows_said
      some_said zero e = absurd (omega (arith, exact g.whole, ap (λ (j : ℕ). 8 * (j * a)) e))
      some_said (suc q) e = omega arith

  -- a field that is there
  pub some_ok : {k : ℕ} → Some k ≡ field_rows a bs → field_ok a bs ≡ true
  some_ok {k} e = go (field_ok a bs) refl
    where
      go : (x : Bool) → field_ok a bs ≡ x → field_ok a bs ≡ true
      go true h = h
      go false h = absurd (none-some k (sym (e ∙ rows_none h)))

  pub none_bad : None ≡ field_rows a bs → field_ok a bs ≡ false
  none_bad e = go (field_ok a bs) refl
    where
      go : (x : Bool) → field_ok a bs ≡ x → field_ok a bs ≡ false
      go true h = absurd (none-some _ (e ∙ rows_ok h))
      go false h = h

  -- where it ends, by its rows
  pub behind_rows : {k : ℕ} → Some k ≡ field_rows a bs → (behind a bs ≡ drop (3 + 8 * (k * a)) bs) × (3 + 8 * (k * a) ≤ length bs) × (length (rows_here a bs) ≡ k) × (0 < k)
  behind_rows {k} e =
      let h = some_ok e in
      let g = ok_good h in
      let n : length (rows_here a bs) ≡ k = sym (same_Some k (length (rows_here a bs)) (e ∙ rows_ok h)) in (
        ap (λ (n : ℕ). drop n bs) (length_field (rows_here a bs) (here_width a pos bs) ∙ ap (λ (j : ℕ). 3 + 8 * (j * a)) n),
        omega (arith, ap (λ (j : ℕ). 8 * (j * a)) (sym n ∙ length_here a pos bs), exact g.whole, g.long),
        n,
        omega (arith, n, not_empty_rows (rows_here a bs) (tests a pos bs h).1),
      )

-- ---- by the length that the code has read

module _ (a : ℕ) (pos : 0 < a) (bs : List ℕ) (b : Bytes bs) where
  pub at_short : length bs < 3 → field_rows a bs ≡ None
  at_short h = rows_bad a pos bs b (λ g. omega (arith, g.long))

  pub at_tag : (get_or bs 0 0 ≡ 2 → ⊥) → field_rows a bs ≡ None
  at_tag h = rows_bad a pos bs b (λ g. h g.tag)

  module _ (n : ℕ) (e : n ≡ number 2 (drop 1 bs)) where
    pub at_empty : n ≡ 0 → field_rows a bs ≡ None
    at_empty h = rows_empty a pos bs b (sym e ∙ h)

    pub at_part : (n % (8 * a) ≡ 0 → ⊥) → field_rows a bs ≡ None
    at_part h = rows_bad a pos bs b (λ g. h (ap (λ (k : ℕ). k % (8 * a)) e ∙ g.whole))

    pub at_long : length bs - 3 < n → field_rows a bs ≡ None
    at_long h = rows_bad a pos bs b (λ g. omega (arith, g.long))

    count : n / (8 * a) ≡ number 2 (drop 1 bs) / (8 * a)
    count = ap (λ (k : ℕ). k / (8 * a)) e

    more : same (drop (3 + n) bs) end ≡ same (drop (3 + number 2 (drop 1 bs)) bs) end
    more = ap (λ (k : ℕ). same (drop (3 + k) bs) end) e

    pub at_none : (n / (8 * a) ≡ per_field a → ⊥) → same (drop (3 + n) bs) end ≡ false → field_rows a bs ≡ None
    at_none h k = rows_bad a pos bs b (λ g. ⊎_elim (λ x. h (count ∙ x)) (λ x. not_both (same (drop (3 + n) bs) end) (more ∙ x) k) g.last)

    pub at_some : get_or bs 0 0 ≡ 2 → 0 < n → n % (8 * a) ≡ 0 → 3 ≤ length bs → n ≤ length bs - 3 → (n / (8 * a) ≡ per_field a) ⊎ (same (drop (3 + n) bs) end ≡ true) → field_rows a bs ≡ Some (n / (8 * a))
    at_some t s w l m o =
        rows_good a pos bs b (record { tag = t; whole = ap (λ (k : ℕ). k % (8 * a)) (sym e) ∙ w; long = omega arith; last = ⊎_elim (λ x. inl (sym count ∙ x)) (λ x. inr (sym more ∙ x)) o }) (omega arith) ∙ ap Some (sym count)
