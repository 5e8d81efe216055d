-- Fields of rows: what is written is read back, and what is read was written.
use Prim.Native.Nat.{ℕ, zero, suc, ◌+◌, ◌*◌, ◌/◌, ◌<◌, ◌≤◌}
use mathlib.Core.Path.{◌≡◌, refl, sym, ap, ap₂, ◌∙◌, subst}
use mathlib.Core.Bool.{Bool, true, false, ◌&&◌, ◌||◌}
use mathlib.Core.Logic.{◌⊎◌, inl, inr, ⊎_elim}
use mathlib.Core.List.Memᴰ
use mathlib.Core.List.{List, [], ◌∷◌, ◌++◌, append_assoc, append-nil}
use native.Mathlib.Omega.{arith}
use native.Mathlib.Nat.{suc-mul, zero-mul, mul-div_cancel, le-div_iff_mul-le, div-mul-le_self}
use lib.ListN.{length, take, drop, length-append, length-drop, length-take, take-append-drop, drop_of_length-le}
use lib.Dec.{eqb, leb}
use lib.Seq.{drop_at, take_at, take_all, length-take-le}
use borrow.Author.Tests.{eqb-true, eq-eqb, leb-true, leb-false}
use Rattle.std.proofs.lemmas.Option.{none-some}
use Rattle.std.specs.Prelude.{Option, Some, None}
use Rattle.relation.specs.Order.{Row}
use Rattle.relation.specs.Lists.{◌∈◌, hd, tl, not_in_nil}
use Rattle.relation.specs.Rows.{Width, cut, flat, same}
use Rattle.relation.proofs.Tests.{and_left, and_right, and_true, or_right, T_true, true_T, not_both}
use Rattle.relation.proofs.Sorting.{same→eq, same_refl}
use Rattle.relation.proofs.Words.{cut_flat, cut_width, length_cut}
use Rattle.table_file.specs.Bytes.{bytes_of, number, encode, decode, begins, Bytes}
use Rattle.table_file.specs.File.{per_field, rows_field, rows_fields, end, rows_here, behind, not_empty, field_ok, after, rows_read}
use Rattle.table_file.proofs.Numbers.{top, length_bytes_of, number_bytes, number_top, Words, length_encode, length_decode, decode_encode, decode_words, bytes_drop, begins_append, begins_true}

-- every word of every row
abbrev pub RowWords : List Row → Type 0
RowWords rows = (r : Row) → r ∈ rows → Words r

pub length_flat : {a : ℕ} (rows : List Row) → Width a rows → length (flat rows) ≡ length rows * a
unfolding flat
length_flat {a} [] w = sym (zero-mul a)
length_flat {a} (r ∷ rs) w = length-append r (flat rs) ∙ omega (arith, length_flat rs (λ q m. w q (tl m)), w r (hd refl), suc-mul (length rs) a)

pub flat_words : (rows : List Row) → RowWords rows → Words (flat rows)
unfolding flat
flat_words [] h w m = absurd (not_in_nil m)
flat_words (r ∷ rs) h w m = ⊎_elim (λ (i : w ∈ r). h r (hd refl) w i) (λ (i : w ∈ flat rs). flat_words rs (λ q j. h q (tl j)) w i) (Memᴰ.append_cases r m)

-- ---- how many rows a field takes

pub eights : (k a : ℕ) → 8 * (k * a) ≡ k * (8 * a)
eights zero a = omega (arith, zero-mul a, zero-mul (8 * a))
eights (suc k) a = omega (arith, eights k a, suc-mul k a, suc-mul k (8 * a))

module _ (a : ℕ) (pos : 0 < a) where
  pub per_fits : (k : ℕ) → k ≤ per_field a → 8 * (k * a) ≤ 65535
  unfolding per_field
  per_fits k h = omega (arith, eights k a, (le-div_iff_mul-le {k = 8 * a} {x = k} {y = 65535} (omega arith)).0 h)

  pub fits_per : (k : ℕ) → 8 * (k * a) ≤ 65535 → k ≤ per_field a
  unfolding per_field
  fits_per k h = (le-div_iff_mul-le {k = 8 * a} {x = k} {y = 65535} (omega arith)).1 (omega (arith, eights k a))

  pub rows_of_length : (k : ℕ) → 8 * (k * a) / (8 * a) ≡ k
  rows_of_length k = ap (λ (n : ℕ). n / (8 * a)) (eights k a) ∙ mul-div_cancel k (omega arith)

pub per_some : (a : ℕ) → 0 < a → a ≤ 8 → 0 < per_field a
per_some a p h = fits_per a p 1 (omega arith)

-- ---- a field of rows

pub length_field : {a : ℕ} (rows : List Row) → Width a rows → length (rows_field rows) ≡ 3 + 8 * (length rows * a)
unfolding rows_field
length_field {a} rows w =
    omega (arith, length-append (bytes_of 2 (length (encode (flat rows)))) (encode (flat rows)), length_bytes_of 2 (length (encode (flat rows))), length_encode (flat rows), length_flat rows w)

pub two : {x : ℕ} → x ≤ 65535 → x < top 2
unfolding top
two h = omega arith

pub here_field : {a : ℕ} (rows : List Row) (rest : List ℕ) → 0 < a → Width a rows → RowWords rows → length rows ≤ per_field a → rows_here a (rows_field rows ++ rest) ≡ rows
unfolding rows_here rows_field
here_field {a} rows rest p w ws h =
    let v = encode (flat rows) in
    let f = length_flat rows w in
    let l : length v ≡ 8 * (length rows * a) = omega (arith, length_encode (flat rows), f) in
    let fits = per_fits a p (length rows) h in
    let e : (bytes_of 2 (length v) ++ v) ++ rest ≡ bytes_of 2 (length v) ++ (v ++ rest) = append_assoc (bytes_of 2 (length v)) v rest in
    let n : number 2 ((bytes_of 2 (length v) ++ v) ++ rest) ≡ length v = ap (number 2) e ∙ number_bytes 2 (length v) (v ++ rest) (two (omega arith)) in
    let d : drop 2 ((bytes_of 2 (length v) ++ v) ++ rest) ≡ v ++ rest = ap (drop 2) e ∙ drop_at (bytes_of 2 (length v)) (v ++ rest) 2 (length_bytes_of 2 (length v)) in
    let k : number 2 ((bytes_of 2 (length v) ++ v) ++ rest) / (8 * a) ≡ length rows = ap (λ (x : ℕ). x / (8 * a)) (n ∙ l) ∙ rows_of_length a p (length rows) in
    let x : decode (length rows * a) (v ++ rest) ≡ flat rows = ap (λ (j : ℕ). decode j (v ++ rest)) (sym f) ∙ decode_encode (flat rows) rest (flat_words rows ws) in
    let y : cut (length rows) a (flat rows) ≡ rows = ap (cut (length rows) a) (sym (append-nil (flat rows))) ∙ cut_flat a rows [] w in
    ap₂ (λ (j : ℕ) (t : List ℕ). cut j a (decode (j * a) t)) k d ∙ ap (cut (length rows) a) x ∙ y

-- a field that is not empty has a row
pub rows_not_empty : (rows : List Row) → 0 < length rows → not_empty rows ≡ true
rows_not_empty [] h = absurd (omega arith)
rows_not_empty (r ∷ rs) h = refl

pub not_empty_rows : (rows : List Row) → not_empty rows ≡ true → 0 < length rows
not_empty_rows [] h = not_both false h refl
not_empty_rows (r ∷ rs) h = omega arith

-- ---- the steps of reading

module _ (n a : ℕ) (bs : List ℕ) where
  pub read_end : same bs end ≡ true → rows_read (suc n) a bs ≡ Some []
  unfolding rows_read
  read_end h = simp (rows_read, h)

  pub read_more : same bs end ≡ false → field_ok a bs ≡ true → rows_read (suc n) a bs ≡ after (rows_here a bs) (rows_read n a (behind a bs))
  unfolding rows_read
  read_more h k = simp (rows_read, h, k)

  pub read_bad : same bs end ≡ false → field_ok a bs ≡ false → rows_read (suc n) a bs ≡ None
  unfolding rows_read
  read_bad h k = simp (rows_read, h, k)

pub same_true : {a b : List ℕ} → a ≡ b → same a b ≡ true
same_true {a} {b} e = subst (λ (x : List ℕ). same a x ≡ true) e (T_true (same a a) (same_refl a))

pub same_is : (a b : List ℕ) → same a b ≡ true → a ≡ b
same_is a b h = same→eq a b (true_T (same a b) h)

pub field_no_end : (rows : List Row) (rest : List ℕ) → same (rows_field rows ++ rest) end ≡ false
unfolding rows_field end same
field_no_end rows rest = refl

-- parts of rows
pub in_take : {A : Type 0} (n : ℕ) {q : A} (xs : List A) → q ∈ take n xs → q ∈ xs
in_take zero xs m = absurd (not_in_nil m)
in_take (suc n) [] m = absurd (not_in_nil m)
in_take (suc n) (x ∷ xs) (hd e) = hd e
in_take (suc n) (x ∷ xs) (tl m) = tl (in_take n xs m)

pub in_drop : {A : Type 0} (n : ℕ) {q : A} (xs : List A) → q ∈ drop n xs → q ∈ xs
in_drop zero xs m = m
in_drop (suc n) [] m = absurd (not_in_nil m)
in_drop (suc n) (x ∷ xs) m = tl (in_drop n xs m)

pub end_length : length end ≡ 3
unfolding end bytes_of
end_length = refl

no_fields : (n m : ℕ) → rows_fields n m [] ≡ []
unfolding rows_fields
no_fields zero m = refl
no_fields (suc n) m = refl

full_or_last_lem : (n m : ℕ) (rows : List Row) → (length (take m rows) ≡ m) ⊎ (rows_fields n m (drop m rows) ++ end ≡ end)
full_or_last_lem n m rows = go (leb m (length rows)) refl
  where
    go : (b : Bool) → leb m (length rows) ≡ b → (length (take m rows) ≡ m) ⊎ (rows_fields n m (drop m rows) ++ end ≡ end)
    go true h = inl (length-take-le m rows (leb-true m (length rows) h))
    go false h =
        let d : drop m rows ≡ [] = drop_of_length-le rows {i = m} (omega (arith, leb-false m (length rows) h)) in
        inr (ap (λ (l : List ℕ). l ++ end) (ap (rows_fields n m) d ∙ no_fields n m))

-- ---- what is written is read

module _ (a : ℕ) (pos : 0 < a) (few : a ≤ 8) where
  field_ok_lem : (rows : List Row) (rest : List ℕ) → Width a rows → RowWords rows → 0 < length rows → length rows ≤ per_field a → (length rows ≡ per_field a) ⊎ (rest ≡ end) →
      field_ok a (rows_field rows ++ rest) ≡ true
  unfolding field_ok
  field_ok_lem rows rest w ws p h o =
      let e = here_field rows rest pos w ws h in
      let b : begins (rows_field (rows_here a (rows_field rows ++ rest))) (rows_field rows ++ rest) ≡ true = rw e (begins_append (rows_field rows) rest) in
      let s : not_empty (rows_here a (rows_field rows ++ rest)) ≡ true = rw e (rows_not_empty rows p) in
      let t : (eqb (length (rows_here a (rows_field rows ++ rest))) (per_field a) || same (behind a (rows_field rows ++ rest)) end) ≡ true = rw e (last o) in
      and_true _ _ b (and_true _ _ s t)
    where
      last : (length rows ≡ per_field a) ⊎ (rest ≡ end) → (eqb (length rows) (per_field a) || same (drop (length (rows_field rows)) (rows_field rows ++ rest)) end) ≡ true
      last (inl q) = rw (eq-eqb (length rows) (per_field a) q) refl
      last (inr q) = or_right (eqb (length rows) (per_field a)) (same (drop (length (rows_field rows)) (rows_field rows ++ rest)) end) (rw (drop_at (rows_field rows) rest (length (rows_field rows)) refl) (same_true q))

  read_ends : (f : ℕ) → length end ≤ f → rows_read f a end ≡ Some []
  unfolding end
  read_ends zero h = absurd (omega arith)
  read_ends (suc f) h = read_end f a end (same_true refl)

  -- a field of rows in front of what reads as rows
  pub read_field : (f : ℕ) (rows qs : List Row) (rest : List ℕ) → Width a rows → RowWords rows → 0 < length rows → length rows ≤ per_field a → (length rows ≡ per_field a) ⊎ (rest ≡ end) →
      rows_read f a rest ≡ Some qs → rows_read (suc f) a (rows_field rows ++ rest) ≡ Some (rows ++ qs)
  read_field f rows qs rest w ws p h o g =
      let e = here_field rows rest pos w ws h in
      let d : behind a (rows_field rows ++ rest) ≡ rest = rw e (drop_at (rows_field rows) rest (length (rows_field rows)) refl) in
      read_more f a (rows_field rows ++ rest) (field_no_end rows rest) (field_ok_lem rows rest w ws p h o) ∙ ap₂ after e (ap (rows_read f a) d ∙ g)

  pub read_fields : (f n : ℕ) (rows : List Row) → Width a rows → RowWords rows → length rows ≤ n → length (rows_fields n (per_field a) rows ++ end) ≤ f →
      rows_read f a (rows_fields n (per_field a) rows ++ end) ≡ Some rows
  unfolding rows_fields
  read_fields f zero [] w ws h k = read_ends f k
  read_fields f zero (r ∷ rs) w ws h k = absurd (omega arith)
  read_fields f (suc n) [] w ws h k = read_ends f k
  read_fields zero (suc n) (r ∷ rs) w ws h k = absurd (omega (arith, length-append (rows_fields (suc n) (per_field a) (r ∷ rs)) end, end_length))
  read_fields (suc f) (suc n) (r ∷ rs) w ws h k =
      let m = per_field a in
      let rows : List Row = r ∷ rs in
      let F = rows_fields n m (drop m rows) in
      let t : Width a (take m rows) = λ q i. w q (in_take m rows i) in
      let l = length-take m rows in
      let b = per_some a pos few in
      let e : (rows_field (take m rows) ++ F) ++ end ≡ rows_field (take m rows) ++ (F ++ end) = append_assoc (rows_field (take m rows)) F end in
      let ih : rows_read f a (F ++ end) ≡ Some (drop m rows) =
      read_fields f n (drop m rows) (λ q i. w q (in_drop m rows i)) (λ q i. ws q (in_drop m rows i)) (omega (arith, length-drop m rows))
      (omega (arith, ap length e, length-append (rows_field (take m rows)) (F ++ end), length_field (take m rows) t)) in
      ap (rows_read (suc f) a) e ∙
      read_field f (take m rows) (drop m rows) (F ++ end) t (λ q i. ws q (in_take m rows i)) (omega arith) (omega arith) (full_or_last_lem n m rows) ih ∙
      ap Some (take-append-drop m rows)

-- ---- what is read was written

two_top : {x : ℕ} → x < top 2 → x ≤ 65535
unfolding top
two_top h = omega arith

pub record Written (a : ℕ) (bs : List ℕ) (rows : List Row) : Type 0 where
  pub fields : (n : ℕ) → length rows ≤ n → bs ≡ rows_fields n (per_field a) rows ++ end
  pub width : Width a rows
  pub words : RowWords rows

cut_words : (n a : ℕ) (ws : List ℕ) → Words ws → RowWords (cut n a ws)
unfolding cut
cut_words zero a ws h q m = absurd (not_in_nil m)
cut_words (suc n) a ws h q (hd e) = λ w i. h w (in_take a ws (subst (λ (r : Row). w ∈ r) e i))
cut_words (suc n) a ws h q (tl m) = cut_words n a (drop a ws) (λ w i. h w (in_drop a ws i)) q m

written_end : {a : ℕ} {bs : List ℕ} {rows : List Row} → bs ≡ end → rows ≡ [] → Written a bs rows
written_end {a} {bs} {rows} e r =
    subst (Written a bs) (sym r) (record { fields = λ n h. e ∙ ap (λ (l : List ℕ). l ++ end) (sym (no_fields n (per_field a))); width = λ q m. absurd (not_in_nil m); words = λ q m. absurd (not_in_nil m) })

-- a field of rows in front of fields
fields_more : (n m : ℕ) (rows qs : List Row) → 0 < length rows → take m (rows ++ qs) ≡ rows → drop m (rows ++ qs) ≡ qs → rows_fields (suc n) m (rows ++ qs) ≡ rows_field rows ++ rows_fields n m qs
unfolding rows_fields
fields_more n m [] qs p t d = absurd (omega arith)
fields_more n m (r ∷ rs) qs p t d = ap₂ (λ (x y : List Row). rows_field x ++ rows_fields n m y) t d

module _ (a : ℕ) (pos : 0 < a) where
  pub length_here : (bs : List ℕ) → length (rows_here a bs) ≡ number 2 (drop 1 bs) / (8 * a)
  unfolding rows_here
  length_here bs = length_cut _ a _

  pub here_few : (bs : List ℕ) → Bytes bs → length (rows_here a bs) ≤ per_field a
  here_few bs b =
      let k = number 2 (drop 1 bs) / (8 * a) in
      rw (length_here bs) (fits_per a pos k (omega (arith, eights k a, div-mul-le_self (number 2 (drop 1 bs)) (8 * a), two_top (number_top 2 (drop 1 bs) (bytes_drop 1 bs b)))))

  pub here_width : (bs : List ℕ) → Width a (rows_here a bs)
  unfolding rows_here
  here_width bs = cut_width k a (decode (k * a) (drop 3 bs)) (omega (arith, length_decode (k * a) (drop 3 bs)))
    where
      k : ℕ
      k = number 2 (drop 1 bs) / (8 * a)

  here_words : (bs : List ℕ) → Bytes bs → RowWords (rows_here a bs)
  unfolding rows_here
  here_words bs b = cut_words k a (decode (k * a) (drop 3 bs)) (decode_words (k * a) (drop 3 bs) (bytes_drop 3 bs b))
    where
      k : ℕ
      k = number 2 (drop 1 bs) / (8 * a)

  -- the three tests of a field
  abbrev pub there : List ℕ → Bool
  there bs = begins (rows_field (rows_here a bs)) bs

  abbrev pub filled : List ℕ → Bool
  filled bs = not_empty (rows_here a bs)

  abbrev pub full_or_last : List ℕ → Bool
  full_or_last bs = eqb (length (rows_here a bs)) (per_field a) || same (behind a bs) end

  pub tests : (bs : List ℕ) → field_ok a bs ≡ true → (there bs ≡ true) × (filled bs ≡ true) × (full_or_last bs ≡ true)
  unfolding field_ok
  tests bs ok =
      let r = and_right (there bs) (filled bs && full_or_last bs) ok in
      (and_left (there bs) (filled bs && full_or_last bs) ok, and_left (filled bs) (full_or_last bs) r, and_right (filled bs) (full_or_last bs) r)

  written_more : (bs : List ℕ) (qs : List Row) → Bytes bs → field_ok a bs ≡ true → (behind a bs ≡ end → qs ≡ []) → Written a (behind a bs) qs → Written a bs (rows_here a bs ++ qs)
  written_more bs qs b ok last w =
      record {
        fields = fields;
        width = λ q m. ⊎_elim (here_width bs q) (w.width q) (Memᴰ.append_cases (rows_here a bs) m);
        words = λ q m. ⊎_elim (here_words bs b q) (w.words q) (Memᴰ.append_cases (rows_here a bs) m);
      }
    where
      rs : List Row
      rs = rows_here a bs

      front : bs ≡ rows_field rs ++ behind a bs
      front = begins_true (rows_field (rows_here a bs)) bs (tests bs ok).0

      some : 0 < length rs
      some = not_empty_rows rs (tests bs ok).1

      cuts : (m : ℕ) → m ≡ per_field a → (length rs ≡ m) ⊎ (behind a bs ≡ end) → (take m (rs ++ qs) ≡ rs) × (drop m (rs ++ qs) ≡ qs)
      cuts m e (inl l) = (take_at rs qs m l, drop_at rs qs m l)
      cuts m e (inr l) =
          let z : rs ++ qs ≡ rs = ap (λ (x : List Row). rs ++ x) (last l) ∙ append-nil rs in
          let h : length rs ≤ m = omega (arith, here_few bs b) in
          (ap (take m) z ∙ take_all m rs h, ap (drop m) z ∙ drop_of_length-le rs {i = m} h ∙ sym (last l))

      either : (x y : Bool) → (x || y) ≡ true → (x ≡ true) ⊎ (y ≡ true)
      either true y h = inl refl
      either false y h = inr h

      which : (length rs ≡ per_field a) ⊎ (behind a bs ≡ end)
      which = ⊎_elim (λ h. inl (eqb-true (length rs) (per_field a) h)) (λ h. inr (same_is (behind a bs) end h)) (either (eqb (length rs) (per_field a)) (same (behind a bs) end) (tests bs ok).2)

      fields : (n : ℕ) → length (rs ++ qs) ≤ n → bs ≡ rows_fields n (per_field a) (rs ++ qs) ++ end
      fields zero h = absurd (omega (arith, length-append rs qs, some))
      fields (suc n) h =
          let c = cuts (per_field a) refl which in
          let r : behind a bs ≡ rows_fields n (per_field a) qs ++ end = w.fields n (omega (arith, length-append rs qs, some)) in
          front ∙ ap (λ (l : List ℕ). rows_field rs ++ l) r ∙ sym (append_assoc (rows_field rs) (rows_fields n (per_field a) qs) end) ∙
          ap (λ (l : List ℕ). l ++ end) (sym (fields_more n (per_field a) rs qs some c.0 c.1))

  only_end : (f : ℕ) (bs : List ℕ) (qs : List Row) → rows_read f a bs ≡ Some qs → bs ≡ end → qs ≡ []
  unfolding rows_read
  only_end zero bs qs h e = let z : ◌≡◌ {A = Option (List Row)} None (Some qs) = h in cc
  only_end (suc f) bs qs h e = let k : rows_read (suc f) a bs ≡ Some [] = read_end f a bs (same_true e) in cc

  pub written : (f : ℕ) (bs : List ℕ) (rows : List Row) → Bytes bs → rows_read f a bs ≡ Some rows → Written a bs rows
  unfolding rows_read
  written zero bs rows b h = absurd (none-some rows h)
  written (suc f) bs rows b h = go (written f (behind a bs)) (same bs end) refl (field_ok a bs) refl
    where
      step : (x : Option (List Row)) → rows_read f a (behind a bs) ≡ x → ((qs : List Row) → Bytes (behind a bs) → rows_read f a (behind a bs) ≡ Some qs → Written a (behind a bs) qs) →
          field_ok a bs ≡ true → after (rows_here a bs) x ≡ Some rows → Written a bs rows
      step None e ih k q = absurd (none-some _ q)
      step (Some qs) e ih k q =
          let z : rows_here a bs ++ qs ≡ rows = cc in
          subst (Written a bs) z (written_more bs qs b k (only_end f (behind a bs) qs e) (ih qs (bytes_drop (length (rows_field (rows_here a bs))) bs b) e))

      go : ((qs : List Row) → Bytes (behind a bs) → rows_read f a (behind a bs) ≡ Some qs → Written a (behind a bs) qs) → (x : Bool) → same bs end ≡ x → (y : Bool) → field_ok a bs ≡ y → Written a bs rows
      go ih true p y q = let k : rows_read (suc f) a bs ≡ Some [] = read_end f a bs p in written_end (same_is bs end p) (let z : rows ≡ [] = cc in z)
      go ih false p true q = step (rows_read f a (behind a bs)) refl ih q (sym (read_more f a bs p q) ∙ h)
      go ih false p false q = absurd (none-some _ (sym (read_bad f a bs p q) ∙ h))
