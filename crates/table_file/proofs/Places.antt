-- Where a row lies in a file.
use Prim.Native.Nat.{ℕ, zero, suc, ◌+◌, ◌*◌, ◌-◌, ◌<◌, ◌≤◌}
use mathlib.Core.Path.{◌≡◌, refl, sym, ap, ap₂, ◌∙◌, subst}
use mathlib.Core.Bool.{Bool, true, false}
use mathlib.Core.List.{List, [], ◌∷◌, ◌++◌, append_assoc}
use native.Mathlib.Omega.{arith}
use native.Mathlib.Nat.{suc-mul, zero-mul, div-eq_of_lt, div-eq-sub-div}
use lib.ListN.{length, take, drop, get_or, length-append, length-drop, length-take}
use lib.Dec.{leb}
use lib.Seq.{drop-drop, drop_at, length-take-le, drop-append-add, get_or-take, get_or-drop, split_at}
use borrow.Author.Tests.{leb-true, leb-false}
use Rattle.relation.specs.Order.{Row}
use Rattle.relation.specs.Lists.{◌∈◌}
use Rattle.relation.specs.Rows.{Width, flat}
use Rattle.relation.proofs.Lists.{get_or_in}
use Rattle.table_file.specs.Bytes.{bytes_of, encode, decode}
use Rattle.table_file.specs.File.{head, per_field, rows_field, rows_fields, end, file_of, Table}
use Rattle.table_file.specs.Places.{place}
use Rattle.table_file.proofs.Numbers.{Words, length_bytes_of, length_encode, decode_encode}
use Rattle.table_file.proofs.Fields.{per_some, length_flat, length_field, in_take, in_drop}
use Rattle.table_file.proofs.Laws.{file_is}

pub encode_append : (xs ys : List ℕ) → encode (xs ++ ys) ≡ encode xs ++ encode ys
unfolding encode
encode_append [] ys = refl
encode_append (x ∷ xs) ys = ap (λ (l : List ℕ). bytes_of 8 x ++ l) (encode_append xs ys) ∙ sym (append_assoc (bytes_of 8 x) (encode xs) (encode ys))

pub flat_append : (xs ys : List Row) → flat (xs ++ ys) ≡ flat xs ++ flat ys
unfolding flat
flat_append [] ys = refl
flat_append (x ∷ xs) ys = ap (λ (l : List ℕ). x ++ l) (flat_append xs ys) ∙ sym (append_assoc x (flat xs) (flat ys))

pub flat_one : (r : Row) (rs : List Row) → flat (r ∷ rs) ≡ r ++ flat rs
unfolding flat
flat_one r rs = refl

-- what stands at a row's place
pub record At (a : ℕ) (row : Row) (bs : List ℕ) (p : ℕ) : Type 0 where
  pub rest : List ℕ
  pub here : drop p bs ≡ encode row ++ rest
  pub inside : p + 8 * a ≤ length bs

-- inside a field
in_field : {a : ℕ} (rows : List Row) (rest : List ℕ) → Width a rows → (i : ℕ) → i < length rows → At a (get_or rows i []) (rows_field rows ++ rest) (3 + 8 * (i * a))
unfolding rows_field
in_field {a} rows rest w i h =
    let row = get_or rows i [] in
    let front = take i rows in
    let back = drop (suc i) rows in
    let v = encode (flat rows) in
    let s : rows ≡ front ++ (row ∷ back) = split_at rows i [] h in
    let l : length (encode (flat front)) ≡ 8 * (i * a) = length_encode (flat front) ∙ ap (λ (n : ℕ). 8 * n) (length_flat front (λ q m. w q (in_take i rows m)) ∙ ap (λ (n : ℕ). n * a) (length-take-le i rows (omega arith))) in
    let e : v ≡ encode (flat front) ++ (encode row ++ encode (flat back)) =
    ap (λ (rs : List Row). encode (flat rs)) s ∙ ap encode (flat_append front (row ∷ back) ∙ ap (λ (z : List ℕ). flat front ++ z) (flat_one row back)) ∙
    encode_append (flat front) (row ++ flat back) ∙ ap (λ (z : List ℕ). encode (flat front) ++ z) (encode_append row (flat back)) in
    let d : drop (3 + 8 * (i * a)) (rows_field rows ++ rest) ≡ drop (8 * (i * a)) (v ++ rest) =
    sym (drop-drop (8 * (i * a)) 3 (rows_field rows ++ rest)) ∙
    ap (drop (8 * (i * a))) (ap (drop 2) (append_assoc (bytes_of 2 (length v)) v rest) ∙ drop_at (bytes_of 2 (length v)) (v ++ rest) 2 (length_bytes_of 2 (length v))) in
    let f : v ++ rest ≡ encode (flat front) ++ (encode row ++ (encode (flat back) ++ rest)) =
    ap (λ (z : List ℕ). z ++ rest) e ∙ append_assoc (encode (flat front)) (encode row ++ encode (flat back)) rest ∙ ap (λ (z : List ℕ). encode (flat front) ++ z) (append_assoc (encode row) (encode (flat back)) rest) in
    record {
      rest = encode (flat back) ++ rest;
      here = d ∙ ap (drop (8 * (i * a))) f ∙ drop_at (encode (flat front)) (encode row ++ (encode (flat back) ++ rest)) (8 * (i * a)) l;
      inside = omega (arith, length-append (rows_field rows) rest, length_field rows w, more (length rows) a i h);
    }
  where
    more : (n a i : ℕ) → i < n → i * a + a ≤ n * a
    more zero a i h = absurd (omega arith)
    more (suc n) a zero h = omega (arith, suc-mul n a, zero-mul a)
    more (suc n) a (suc i) h = omega (arith, more n a i (omega arith), suc-mul n a, suc-mul i a)

-- among all fields
module _ (a : ℕ) (pos : 0 < a) (few : 0 < per_field a) where
  further : (i : ℕ) → per_field a ≤ i → place a i ≡ 3 + 8 * (per_field a * a) + place a (i - per_field a)
  further i h =
      omega (arith, div-eq-sub-div {m = per_field a} {n = i} few h, split (i - per_field a) (per_field a), ap (λ (n : ℕ). n * a) (let e : i ≡ i - per_field a + per_field a = omega arith in e))
    where
      split : (x y : ℕ) → (x + y) * a ≡ x * a + y * a
      split zero y = omega (arith, zero-mul a)
      split (suc x) y = omega (arith, split x y, suc-mul (x + y) a, suc-mul x a)

  pub row_at : (n : ℕ) (rows : List Row) (rest : List ℕ) → Width a rows → length rows ≤ n → (i : ℕ) → i < length rows → At a (get_or rows i []) (rows_fields n (per_field a) rows ++ rest) (place a i)
  unfolding rows_fields
  row_at zero rows rest w h i k = absurd (omega arith)
  row_at (suc n) [] rest w h i k = absurd (omega arith)
  row_at (suc n) (r ∷ rs) rest w h i k = go (row_at n (drop m rows) rest (λ q j. w q (in_drop m rows j)) (omega (arith, length-drop m rows))) (leb m i) refl
    where
      m : ℕ
      m = per_field a

      rows : List Row
      rows = r ∷ rs

      tw : Width a (take m rows)
      tw q j = w q (in_take m rows j)

      F : List ℕ
      F = rows_fields n m (drop m rows)

      e : (rows_field (take m rows) ++ F) ++ rest ≡ rows_field (take m rows) ++ (F ++ rest)
      e = append_assoc (rows_field (take m rows)) F rest

      go : ((j : ℕ) → j < length (drop m rows) → At a (get_or (drop m rows) j []) (F ++ rest) (place a j)) → (b : Bool) → leb m i ≡ b → At a (get_or rows i []) ((rows_field (take m rows) ++ F) ++ rest) (place a i)
      go ih false l =
          let u : i < m = leb-false m i l in
          let v = in_field (take m rows) (F ++ rest) tw i (omega (arith, length-take m rows)) in
          let p : 3 + 8 * (i * a) ≡ place a i = omega (arith, div-eq_of_lt u) in
          subst (λ (z : ℕ). At a (get_or rows i []) ((rows_field (take m rows) ++ F) ++ rest) z) p
          (subst (λ (z : List ℕ). At a (get_or rows i []) z (3 + 8 * (i * a))) (sym e)
          (subst (λ (z : Row). At a z (rows_field (take m rows) ++ (F ++ rest)) (3 + 8 * (i * a))) (get_or-take m rows i [] u) v))
      go ih true l =
          let u : m ≤ i = leb-true m i l in
          let v = ih (i - m) (omega (arith, length-drop m rows)) in
          let f : length (rows_field (take m rows)) ≡ 3 + 8 * (m * a) = length_field (take m rows) tw ∙ ap (λ (j : ℕ). 3 + 8 * (j * a)) (length-take-le m rows (omega arith)) in
          let p : place a i ≡ length (rows_field (take m rows)) + place a (i - m) = further i u ∙ ap (λ (z : ℕ). z + place a (i - m)) (sym f) in
          let x : get_or (drop m rows) (i - m) [] ≡ get_or rows i [] = get_or-drop m rows (i - m) [] ∙ ap (λ (j : ℕ). get_or rows j []) (let o : m + (i - m) ≡ i = omega arith in o) in
          record {
            rest = v.rest;
            here = ap₂ (λ (j : ℕ) (z : List ℕ). drop j z) p e ∙ drop-append-add (rows_field (take m rows)) (F ++ rest) (place a (i - m)) ∙ v.here ∙ ap (λ (z : Row). encode z ++ v.rest) x;
            inside = omega (arith, p, ap length e, length-append (rows_field (take m rows)) (F ++ rest), v.inside);
          }

  -- so a row is read from there
  pub row_read : {row : Row} {bs : List ℕ} {p : ℕ} → At a row bs p → length row ≡ a → Words row → decode a (drop p bs) ≡ row
  row_read {row} {bs} {p} v l w = ap (decode a) v.here ∙ ap (λ (n : ℕ). decode n (encode row ++ v.rest)) (sym l) ∙ decode_encode row v.rest w

-- in a whole file
pub file_row : {a : ℕ} {ks : List Bool} {rows : List Row} → Table a ks rows → (i : ℕ) → i < length rows → At a (get_or rows i []) (file_of a ks rows) (length (head a ks) + place a i)
file_row {a} {ks} {rows} t i h =
    let body = rows_fields (length rows) (per_field a) rows ++ end in
    let v = row_at a t.some (per_some a t.some t.few) (length rows) rows end t.width (omega arith) i h in
    record {
      rest = v.rest;
      here = ap (drop (length (head a ks) + place a i)) (file_is a ks rows) ∙ drop-append-add (head a ks) body (place a i) ∙ v.here;
      inside = omega (arith, ap length (file_is a ks rows), length-append (head a ks) body, v.inside);
    }

pub file_row_read : {a : ℕ} {ks : List Bool} {rows : List Row} → Table a ks rows → (i : ℕ) → i < length rows → decode a (drop (length (head a ks) + place a i) (file_of a ks rows)) ≡ get_or rows i []
file_row_read {a} {ks} {rows} t i h =
    let m : get_or rows i [] ∈ rows = get_or_in rows i [] h in
    row_read a t.some (per_some a t.some t.few) (file_row t i h) (t.width (get_or rows i []) m) (t.words (get_or rows i []) m)
