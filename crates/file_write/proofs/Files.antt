-- The whole file: how long it is by the header, its three parts laid, and the ways out of a write.
use Prim.Native.Nat.{ℕ, zero, suc, ◌+◌, ◌*◌, ◌/◌, ◌%◌, ◌-◌, ◌≤◌, ◌<◌}
use mathlib.Core.Path.{◌≡◌, refl, sym, ap, ap₂, ◌∙◌}
use mathlib.Core.Bool.{true, false}
use mathlib.Core.List.{List, [], ◌∷◌, ◌++◌, append_assoc, append-nil}
use native.Mathlib.Omega.{arith}
use native.Mathlib.Decide.{dec_lt}
use native.Mathlib.Nat.{div-eq_of_lt, div-eq-sub-div, mod-eq_of_lt, mod-eq-sub-mod, add-mul, zero-mul}
use lib.ListN.{length, take, drop, length-append, length-drop}
use lib.Seq.{length-take-le, take_all, sets-eq}
use borrow.Author.Tests.{le-leb, lt-leb}
use Rattle.relation.specs.Order.{Row}
use Rattle.relation.specs.Rows.{Width}
use Rattle.column_trie.specs.Pool.{lay}
use Rattle.column_trie.specs.Table.{rows_in, Undamaged, undamaged}
use Rattle.column_trie.specs.declared.ColumnTrie.{ColumnTrie}
use Rattle.column_trie.proofs.Layers.{Whole}
use Rattle.table_file.specs.Bytes.{bytes_of}
use Rattle.table_file.specs.File.{per_field, rows_field, rows_fields, end, file_of}
use Rattle.table_file.proofs.Fields.{length_field, per_some, in_take, in_drop, end_length}
use Rattle.file_rows.specs.Rows.{fields_in, Laid}
use Rattle.file_rows.proofs.Pieces.{laid_more}
use Rattle.file_rows.proofs.Tables.{rows_wide, rows_many}
use Rattle.file_write.specs.declared.FileWritten.{FileWritten}
use Rattle.file_write.specs.Write.{file_in, write_number, Writes}
use Rattle.file_write.specs.Head.{head_of, rows_len, file_len}

-- ---- how long the fields of rows are

-- a field more
rows_more : (a m n : ℕ) → 0 < m → m ≤ n → rows_len a m n ≡ 3 + 8 * (m * a) + rows_len a m (n - m)
rows_more a m n f h =
    let d : n / m ≡ (n - m) / m + 1 = div-eq-sub-div {m = m} {n = n} f h in
    let r : n % m ≡ (n - m) % m = mod-eq-sub-mod h in
    let k : n * a ≡ m * a + (n - m) * a = ap (λ (x : ℕ). x * a) (let z : n ≡ m + (n - m) = omega arith in z) ∙ add-mul m (n - m) a in
    omega arith

-- the last field
rows_last : (a m n : ℕ) → 0 < n → n < m → rows_len a m n ≡ 3 + 8 * (n * a)
rows_last a m n f h =
    let d : n / m ≡ 0 = div-eq_of_lt h in
    let r : n % m ≡ n = mod-eq_of_lt h in
    omega arith

rows_none : (a m : ℕ) → 0 < m → rows_len a m 0 ≡ 0
rows_none a m f =
    let d : 0 / m ≡ 0 = div-eq_of_lt f in
    let r : 0 % m ≡ 0 = mod-eq_of_lt f in
    omega (arith, zero-mul a)

fields_long : {a : ℕ} (m : ℕ) → 0 < m → (f : ℕ) (rows : List Row) → Width a rows → length rows ≤ f → length (rows_fields f m rows) ≡ rows_len a m (length rows)
unfolding rows_fields
fields_long {a} m k zero [] w h = sym (rows_none a m k)
fields_long {a} m k zero (r ∷ rs) w h = absurd (omega arith)
fields_long {a} m k (suc f) [] w h = sym (rows_none a m k)
fields_long {a} m k (suc f) (r ∷ rs) w h =
    length-append (rows_field (take m rows)) (rows_fields f m (drop m rows))
    ∙ ap₂ (λ (x y : ℕ). x + y) (length_field (take m rows) (λ q j. w q (in_take m rows j))) (fields_long m k f (drop m rows) (λ q j. w q (in_drop m rows j)) (omega (arith, length-drop m rows)))
    ∙ go (dec_lt (length rows) m)
  where
    rows : List Row
    rows = r ∷ rs

    go : Dec (length rows < m) → 3 + 8 * (length (take m rows) * a) + rows_len a m (length (drop m rows)) ≡ rows_len a m (length rows)
    go (yes l) =
        let t : length (take m rows) ≡ length rows = ap length (take_all m rows (omega arith)) in
        let d : length (drop m rows) ≡ 0 = omega (arith, length-drop m rows) in
        ap₂ (λ (x y : ℕ). 3 + 8 * (x * a) + rows_len a m y) t d ∙ omega (arith, rows_none a m k, rows_last a m (length rows) (omega arith) l)
    go (no l) =
        let t : length (take m rows) ≡ m = length-take-le m rows (omega arith) in
        ap₂ (λ (x y : ℕ). 3 + 8 * (x * a) + rows_len a m y) t (length-drop m rows) ∙ sym (rows_more a m (length rows) k (omega arith))

-- ---- the file, part by part

module _ (pool : List ℕ) (t : ColumnTrie) where
  file_is : file_in pool t ≡ head_of t ++ (fields_in pool t ++ end)
  unfolding file_of
  file_is = refl

  pub file_parts : length (file_in pool t) ≡ length (head_of t) + length (fields_in pool t) + 3
  file_parts = ap length file_is ∙ length-append (head_of t) (fields_in pool t ++ end) ∙ omega (arith, length-append (fields_in pool t) end, end_length)

  -- what the header says of the length is so
  pub file_long : Whole t → Undamaged pool t → file_len t ≡ length (file_in pool t)
  file_long o u =
      let m = per_field t.arity in
      let f = fields_long m (per_some t.arity u.arity.0 u.arity.1) (length (rows_in pool t)) (rows_in pool t) (rows_wide o u) (omega arith) in
      let n = ap (rows_len t.arity m) (rows_many o u) in
      sym (file_parts ∙ ap (λ (k : ℕ). length (head_of t) + k + 3) (f ∙ n))

  end_is : end ≡ 3 ∷ bytes_of 2 0
  unfolding end
  end_is = ap (λ (l : List ℕ). 3 ∷ l) (append-nil (bytes_of 2 0))

  -- head, fields and end, one behind the other
  pub file_laid : {b b₁ b₂ b₃ : List ℕ} {x y : ℕ} → Laid b 0 (head_of t) b₁ x → Laid b₁ x (fields_in pool t) b₂ y → b₃ ≡ lay b₂ y (3 ∷ bytes_of 2 0) → b₃ ≡ lay b 0 (file_in pool t)
  file_laid {b} {b₁} {b₂} {b₃} {x} {y} h f e =
      let v : Laid b 0 (head_of t ++ fields_in pool t) b₂ y = record { is = laid_more h (fields_in pool t) f.is refl; ends = omega (arith, h.ends, f.ends, length-append (head_of t) (fields_in pool t)) } in
      laid_more v (3 ∷ bytes_of 2 0) e (file_is ∙ sym (append_assoc (head_of t) (fields_in pool t) end) ∙ ap (λ (l : List ℕ). (head_of t ++ fields_in pool t) ++ l) end_is)

-- ---- the ways out

-- laid over the front
lay_front : (bytes xs : List ℕ) → length xs ≤ length bytes → lay bytes 0 xs ≡ xs ++ drop (length xs) bytes
unfolding lay
lay_front bytes xs h = sets-eq xs bytes 0 (omega arith) ∙ ap (λ (n : ℕ). xs ++ drop n bytes) (let e : 0 + length xs ≡ length xs = omega arith in e)

module _ (pool : List ℕ) (t : ColumnTrie) (room : ℕ) where
  pub number_6 : undamaged pool t ≡ false → write_number pool t room ≡ 6
  unfolding write_number
  number_6 e = simp e

  module _ (sound : undamaged pool t ≡ true) where
    pub number_14 : room < length (file_in pool t) → write_number pool t room ≡ 14
    unfolding write_number
    number_14 h = simp (sound, lt-leb (length (file_in pool t)) room h)

    pub number_0 : length (file_in pool t) ≤ room → write_number pool t room ≡ 0
    unfolding write_number
    number_0 h = simp (sound, le-leb (length (file_in pool t)) room h)

-- a file that is laid at the front is written
pub accepted : (pool : List ℕ) (t : ColumnTrie) (bytes : List ℕ) {bytes' : List ℕ} {n : ℕ} → 0 ≡ write_number pool t (length bytes) → n ≡ length (file_in pool t) → n ≤ length bytes → bytes' ≡ lay bytes 0 (file_in pool t) → Writes pool t bytes bytes' (record { number = 0; len = n })
accepted pool t bytes z e h w = let y = sym z in record { number = z; len = rw y e; written = rw y (w ∙ lay_front bytes (file_in pool t) (omega arith)) }

-- any two outcomes that the contract allows are equal
pub determined : {pool bytes x y : List ℕ} {t : ColumnTrie} {r s : FileWritten} → Writes pool t bytes x r → Writes pool t bytes y s → (r ≡ s) × (x ≡ y)
determined p q =
    let a = p.number ∙ sym q.number in
    let b = p.len ∙ sym q.len in
    (λ i. record { number = a i; len = b i }, p.written ∙ sym q.written)
