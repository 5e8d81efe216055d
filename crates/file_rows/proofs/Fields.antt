-- Fields of rows laid one behind the other: how long they are, the field that comes next, and the end.
use Prim.Native.Nat.{ℕ, zero, suc, ◌+◌, ◌*◌, ◌/◌, ◌%◌, ◌-◌, ◌≤◌, ◌<◌, min}
use mathlib.Core.Path.{◌≡◌, refl, sym, ap, ap₂, ◌∙◌, subst}
use mathlib.Core.Bool.{true}
use mathlib.Core.List.{List, [], ◌∷◌, ◌++◌, append_assoc, append-nil}
use native.Mathlib.Omega.{arith}
use native.Mathlib.Decide.{dec_lt}
use lib.ListN.{length, take, drop, length-append, length-drop, drop_of_length-le}
use lib.Seq.{drop-drop, length-take-le, take_all}
use borrow.Rule.Slice.PartMut.{put_mid}
use Rattle.relation.specs.Order.{Row}
use Rattle.relation.specs.Rows.{flat}
use Rattle.column_trie.specs.Pool.{lay}
use Rattle.column_trie.specs.Table.{layers_in, rows_in, Undamaged, undamaged}
use Rattle.column_trie.specs.declared.ColumnTrie.{ColumnTrie}
use Rattle.column_trie.proofs.Layers.{Whole}
use Rattle.column_trie.proofs.Pool.{lay_length}
use Rattle.column_trie.proofs.Damage.{undamaged_told}
use Rattle.row_path.specs.Path.{OnPath}
use Rattle.table_file.specs.Bytes.{bytes_of, encode}
use Rattle.table_file.specs.File.{per_field, rows_field, rows_fields}
use Rattle.table_file.proofs.Numbers.{length_bytes_of}
use Rattle.table_file.proofs.Fields.{per_fits, length_field, in_take, in_drop}
use Rattle.file_bytes.proofs.Steps.{written}
use Rattle.file_rows.specs.Rows.{fields_in, Putting, RowsPut, Laid}
use Rattle.file_rows.proofs.Pieces.{lay_none, laid_more}
use Rattle.file_rows.proofs.Tables.{rows_wide, rows_many, next_long}

-- a tag and a length, written over three bytes
pub tag_laid : (bytes : List ℕ) (at k tag len : ℕ) {ys : List ℕ} → ys ≡ tag ∷ (len / 256 % 256 ∷ (len % 256 ∷ [])) → k ≡ 3 → at + 3 ≤ length bytes → put_mid at k bytes ys ≡ lay bytes at (tag ∷ bytes_of 2 len)
unfolding bytes_of
tag_laid bytes at k tag len {ys} e n h = written bytes at k ys (tag ∷ (len / 256 % 256 ∷ (len % 256 ∷ []))) e (omega arith) (omega arith)

-- a field is its tag and length, and its rows
field_is : (rows : List Row) → rows_field rows ≡ (2 ∷ bytes_of 2 (length (encode (flat rows)))) ++ encode (flat rows)
unfolding rows_field
field_is rows = refl

-- ---- one field

-- tag and length, and behind them the rows
pub field_laid :
    {pool : List ℕ} {t : ColumnTrie} → Whole t → undamaged pool t ≡ true → (i n : ℕ) → i + n ≤ t.tuple_count → (at : ℕ) (bytes : List ℕ) {bytes' bytes'' path : List ℕ} →
    bytes' ≡ lay bytes at (2 ∷ bytes_of 2 (8 * (n * t.arity))) → RowsPut pool t (i + n - 1) bytes' (at + 3) (encode (flat (take n (drop i (rows_in pool t))))) bytes'' path →
    RowsPut pool t (i + n - 1) bytes at (rows_field (take n (drop i (rows_in pool t)))) bytes'' path
field_laid {pool} {t} o s i n h at bytes {bytes'} p r =
    let rows = take n (drop i (rows_in pool t)) in
    let tag : List ℕ = 2 ∷ bytes_of 2 (8 * (n * t.arity)) in
    let l : length (encode (flat rows)) ≡ 8 * (n * t.arity) = next_long o (undamaged_told pool t s) i n h in
    let v : Laid bytes at tag bytes' (at + 3) = record { is = p; ends = omega (arith, length_bytes_of 2 (8 * (n * t.arity))) } in
    record { laid = laid_more v (encode (flat rows)) r.laid (field_is rows ∙ ap (λ (m : ℕ). (2 ∷ bytes_of 2 m) ++ encode (flat rows)) l); on = r.on }

-- ---- the fields from a row on

fields_none : (f m : ℕ) → rows_fields f m [] ≡ []
unfolding rows_fields
fields_none zero m = refl
fields_none (suc f) m = refl

fields_more : (f m : ℕ) (rows : List Row) → 0 < length rows → rows_fields (suc f) m rows ≡ rows_field (take m rows) ++ rows_fields f m (drop m rows)
unfolding rows_fields
fields_more f m [] h = absurd (omega arith)
fields_more f m (r ∷ rs) h = refl

no_rows_left : (f m : ℕ) (rows : List Row) → length rows ≤ 0 → rows_fields f m rows ≡ []
no_rows_left f m [] h = fields_none f m
no_rows_left f m (r ∷ rs) h = absurd (omega arith)

-- enough fields are enough
enough : (f g m : ℕ) (rows : List Row) → 0 < m → length rows ≤ f → length rows ≤ g → rows_fields f m rows ≡ rows_fields g m rows
enough zero g m rows k h j = no_rows_left zero m rows h ∙ sym (no_rows_left g m rows h)
enough (suc f) zero m rows k h j = no_rows_left (suc f) m rows j ∙ sym (no_rows_left zero m rows j)
enough (suc f) (suc g) m rows k h j = go (dec_lt 0 (length rows)) (λ x y. enough f g m (drop m rows) k x y)
  where
    go : Dec (0 < length rows) → (length (drop m rows) ≤ f → length (drop m rows) ≤ g → rows_fields f m (drop m rows) ≡ rows_fields g m (drop m rows)) → rows_fields (suc f) m rows ≡ rows_fields (suc g) m rows
    go (no n) ih = no_rows_left (suc f) m rows (omega arith) ∙ sym (no_rows_left (suc g) m rows (omega arith))
    go (yes p) ih =
        let d = length-drop m rows in
        fields_more f m rows p ∙ ap (λ (l : List ℕ). rows_field (take m rows) ++ l) (ih (omega arith) (omega arith)) ∙ sym (fields_more g m rows p)

-- the next field holds as many rows as fit, of those that are left
next_field : (m : ℕ) (rows : List Row) (f : ℕ) → 0 < m → 0 < length rows → length rows ≤ f → rows_fields f m rows ≡ rows_field (take (min m (length rows)) rows) ++ rows_fields f m (drop (min m (length rows)) rows)
next_field m rows f k h j =
    enough f (suc f) m rows k j (omega arith)
    ∙ fields_more f m rows h
    ∙ go (dec_lt (length rows) m)
  where
    go : Dec (length rows < m) → rows_field (take m rows) ++ rows_fields f m (drop m rows) ≡ rows_field (take (min m (length rows)) rows) ++ rows_fields f m (drop (min m (length rows)) rows)
    go (no n) = ap (λ (n : ℕ). rows_field (take n rows) ++ rows_fields f m (drop n rows)) (let e : m ≡ min m (length rows) = omega arith in e)
    go (yes l) =
        let e : length rows ≡ min m (length rows) = omega arith in
        let p : take m rows ≡ take (length rows) rows = take_all m rows (omega arith) ∙ sym (take_all (length rows) rows (omega arith)) in
        let q : drop m rows ≡ drop (length rows) rows = drop_of_length-le rows {i = m} (omega arith) ∙ sym (drop_of_length-le rows {i = length rows} (omega arith)) in
        ap₂ (λ (x y : List Row). rows_field x ++ rows_fields f m y) p q ∙ ap (λ (n : ℕ). rows_field (take n rows) ++ rows_fields f m (drop n rows)) e

-- the fields of the rows before row i are laid, up to p
pub record FieldsLaid (pool : List ℕ) (t : ColumnTrie) (bytes : List ℕ) (at : ℕ) (bytes' path : List ℕ) (p i : ℕ) : Type 0 where
  pub piece : List ℕ
  pub laid : Laid bytes at piece bytes' p
  pub rest : fields_in pool t ≡ piece ++ rows_fields (length (rows_in pool t)) (per_field t.arity) (drop i (rows_in pool t))
  pub before : OnPath (layers_in pool t) (i - 1) path
  pub counted : i ≤ t.tuple_count

pub no_fields : {pool : List ℕ} {t : ColumnTrie} (bytes : List ℕ) (at : ℕ) {path : List ℕ} → OnPath (layers_in pool t) 0 path → FieldsLaid pool t bytes at bytes path at 0
no_fields {pool} {t} bytes at {path} o =
    let e : 0 ≡ 0 - 1 = omega arith in
    record {
      piece = [];
      laid = record { is = lay_none bytes at; ends = omega arith };
      rest = refl;
      before = subst (λ (m : ℕ). OnPath (layers_in pool t) m path) e o;
      counted = omega arith;
    }

module _ {pool : List ℕ} {t : ColumnTrie} (o : Whole t) (s : undamaged pool t ≡ true) {bytes bytes' path : List ℕ} {at p i : ℕ} (l : FieldsLaid pool t bytes at bytes' path p i) where
  abbrev rows : List Row
  rows = rows_in pool t

  abbrev m : ℕ
  m = per_field t.arity

  u : Undamaged pool t
  u = undamaged_told pool t s

  pub fields_kept : length bytes' ≡ length bytes
  fields_kept = ap length l.laid.is ∙ lay_length bytes at l.piece

  pub fields_end : t.tuple_count ≤ i → Laid bytes at (fields_in pool t) bytes' p
  fields_end h =
      let e : fields_in pool t ≡ l.piece = l.rest ∙ ap (λ (qs : List Row). l.piece ++ rows_fields (length rows) m qs) (drop_of_length-le rows {i = i} (omega (arith, rows_many o u))) ∙ ap (λ (z : List ℕ). l.piece ++ z) (fields_none (length rows) m) ∙ append-nil l.piece in
      record { is = l.laid.is ∙ ap (lay bytes at) (sym e); ends = l.laid.ends ∙ ap (λ (z : List ℕ). at + length z) (sym e) }

  module _ (h : i < t.tuple_count) (f : 0 < m) where
    abbrev n : ℕ
    n = min m (t.tuple_count - i)

    left : length (drop i rows) ≡ t.tuple_count - i
    left = length-drop i rows ∙ ap (λ (k : ℕ). k - i) (rows_many o u)

    pub next_some : 0 < n
    next_some = omega arith

    pub next_there : i + n ≤ t.tuple_count
    next_there = omega arith

    next : rows_fields (length rows) m (drop i rows) ≡ rows_field (take n (drop i rows)) ++ rows_fields (length rows) m (drop (i + n) rows)
    next =
        next_field m (drop i rows) (length rows) f (omega (arith, left)) (omega (arith, length-drop i rows))
        ∙ ap (λ (k : ℕ). rows_field (take (min m k) (drop i rows)) ++ rows_fields (length rows) m (drop (min m k) (drop i rows))) left
        ∙ ap (λ (qs : List Row). rows_field (take n (drop i rows)) ++ rows_fields (length rows) m qs) (drop-drop n i rows)

    long : length (rows_field (take n (drop i rows))) ≡ 3 + 8 * (n * t.arity)
    long =
        length_field (take n (drop i rows)) (λ x j. rows_wide o u x (in_drop i rows (in_take n (drop i rows) j)))
        ∙ ap (λ (k : ℕ). 3 + 8 * (k * t.arity)) (length-take-le n (drop i rows) (omega (arith, left)))

    whole : fields_in pool t ≡ (l.piece ++ rows_field (take n (drop i rows))) ++ rows_fields (length rows) m (drop (i + n) rows)
    whole = l.rest ∙ ap (λ (z : List ℕ). l.piece ++ z) next ∙ sym (append_assoc l.piece (rows_field (take n (drop i rows))) (rows_fields (length rows) m (drop (i + n) rows)))

    -- the bytes have room for it
    pub next_room : at + length (fields_in pool t) ≤ length bytes → p + 3 + 8 * (n * t.arity) ≤ length bytes
    next_room r =
        omega
        (arith, l.laid.ends, long, ap length whole, length-append (l.piece ++ rows_field (take n (drop i rows))) (rows_fields (length rows) m (drop (i + n) rows)), length-append l.piece (rows_field (take n (drop i rows))))

    -- the rows are few enough
    pub next_few : 8 * (n * t.arity) ≤ 65535
    next_few = per_fits t.arity u.arity.0 n (omega arith)

    pub next_asked : at + length (fields_in pool t) ≤ length bytes → Putting pool t path i n (p + 3) (length bytes')
    next_asked r = record { there = next_there; before = l.before; fits = omega (arith, next_room r, fields_kept) }

    pub next_laid : {bytes'' path' : List ℕ} → RowsPut pool t (i + n - 1) bytes' p (rows_field (take n (drop i rows))) bytes'' path' → FieldsLaid pool t bytes at bytes'' path' (p + (3 + 8 * (n * t.arity))) (i + n)
    next_laid r =
        let z = rows_field (take n (drop i rows)) in
        record {
          piece = l.piece ++ z;
          laid = record { is = laid_more l.laid z r.laid refl; ends = omega (arith, l.laid.ends, long, length-append l.piece z) };
          rest = whole;
          before = r.on;
          counted = next_there;
        }
