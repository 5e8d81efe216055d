-- Reading field by field: what the fields passed held, and what is still to be read.
use Prim.Native.Nat.{ℕ, zero, suc, ◌+◌, ◌*◌, ◌-◌, ◌<◌, ◌≤◌}
use mathlib.Core.Path.{◌≡◌, refl, sym, ap, ◌∙◌}
use mathlib.Core.Bool.{true, false}
use mathlib.Core.List.{List, [], ◌++◌, append_assoc, append-nil}
use native.Mathlib.Omega.{arith}
use lib.ListN.{length, drop, length-append, length-drop}
use lib.Seq.{drop-drop}
use Rattle.std.specs.Prelude.{Option, Some, None}
use Rattle.relation.specs.Order.{Row}
use Rattle.relation.specs.Rows.{same}
use Rattle.table_file.specs.Bytes.{Bytes}
use Rattle.table_file.specs.File.{end, rows_here, behind, after, rows_read}
use Rattle.file_check.specs.Checks.{field_rows, counted}
use Rattle.table_file.proofs.Numbers.{bytes_drop}
use Rattle.table_file.proofs.Fields.{read_end, read_more, read_bad, same_is, end_length}
use Rattle.file_check.proofs.Checks.{some_ok, none_bad, behind_rows, times}

pub record Counts (a : ℕ) (bytes : List ℕ) (at p n : ℕ) : Type 0 where
  pub fuel : ℕ
  pub passed : List Row
  pub high : p ≤ length bytes
  pub enough : length bytes - p ≤ fuel
  pub few : n + at ≤ p
  pub count : n ≡ length passed
  pub goes : rows_read (length bytes) a (drop at bytes) ≡ after passed (rows_read fuel a (drop p bytes))

after_nil : (r : Option (List Row)) → r ≡ after [] r
after_nil None = refl
after_nil (Some rows) = refl

after_after : (xs ys : List Row) (r : Option (List Row)) → after xs (after ys r) ≡ after (xs ++ ys) r
after_after xs ys None = refl
after_after xs ys (Some rows) = ap Some (sym (append_assoc xs ys rows))

pub counts_none : (a : ℕ) (bytes : List ℕ) (at : ℕ) → at ≤ length bytes → Counts a bytes at at 0
counts_none a bytes at h = record { fuel = length bytes; passed = []; high = h; enough = omega arith; few = omega arith; count = refl; goes = after_nil (rows_read (length bytes) a (drop at bytes)) }

none_left : (a : ℕ) (bs : List ℕ) → rows_read 0 a bs ≡ None
unfolding rows_read
none_left a bs = refl

module _ {a : ℕ} {bytes : List ℕ} {at p n : ℕ} (pos : 0 < a) (b : Bytes bytes) (c : Counts a bytes at p n) where
  pub counts_end : same (drop p bytes) end ≡ true → counted (rows_read (length bytes) a (drop at bytes)) ≡ Some n
  counts_end h = ap counted (c.goes ∙ ap (after c.passed) (ends c.fuel c.enough) ∙ ap Some (append-nil c.passed)) ∙ ap Some (sym c.count)
    where
      ends : (f : ℕ) → length bytes - p ≤ f → rows_read f a (drop p bytes) ≡ Some []
      ends zero e = absurd (omega (arith, ap length (same_is (drop p bytes) end h), end_length, length-drop p bytes))
      ends (suc f) e = read_end f a (drop p bytes) h

  pub counts_bad : same (drop p bytes) end ≡ false → None ≡ field_rows a (drop p bytes) → counted (rows_read (length bytes) a (drop at bytes)) ≡ None
  counts_bad h k = ap counted (c.goes ∙ ap (after c.passed) (bad c.fuel))
    where
      bad : (f : ℕ) → rows_read f a (drop p bytes) ≡ None
      bad zero = none_left a (drop p bytes)
      bad (suc f) = read_bad f a (drop p bytes) h (none_bad a pos (drop p bytes) (bytes_drop p bytes b) k)

  -- room for the sums of a turn
  pub counts_fits : {k : ℕ} → Some k ≡ field_rows a (drop p bytes) → (p + (3 + 8 * (k * a)) ≤ length bytes) × (k ≤ k * a)
  counts_fits {k} e = (omega (arith, (behind_rows a pos (drop p bytes) (bytes_drop p bytes b) e).1, length-drop p bytes, c.high), times k a pos)

  pub counts_more : {k : ℕ} → Some k ≡ field_rows a (drop p bytes) → same (drop p bytes) end ≡ false → Counts a bytes at (p + (3 + 8 * (k * a))) (n + k)
  counts_more {k} e h = go c.fuel c.enough c.goes
    where
      bs : List ℕ
      bs = drop p bytes

      z : Bytes (drop p bytes)
      z = bytes_drop p bytes b

      go : (f : ℕ) → length bytes - p ≤ f → rows_read (length bytes) a (drop at bytes) ≡ after c.passed (rows_read f a (drop p bytes)) → Counts a bytes at (p + (3 + 8 * (k * a))) (n + k)
      go zero m g = absurd (omega (arith, (counts_fits e).0))
      go (suc f) m g =
          let r = behind_rows a pos bs z e in
          let t = counts_fits e in
          let w : behind a bs ≡ drop (p + (3 + 8 * (k * a))) bytes = r.0 ∙ drop-drop (3 + 8 * (k * a)) p bytes in
          record {
            fuel = f;
            passed = c.passed ++ rows_here a bs;
            high = t.0;
            enough = omega (arith, t.0);
            few = omega (arith, c.few, t.1);
            count = omega (arith, c.count, length-append c.passed (rows_here a bs), r.2);
            goes =
                g ∙ ap (after c.passed) (read_more f a bs h (some_ok a pos bs z e)) ∙
                ap (λ (l : List ℕ). after c.passed (after (rows_here a bs) (rows_read f a l))) w ∙
                after_after c.passed (rows_here a bs) (rows_read f a (drop (p + (3 + 8 * (k * a))) bytes));
          }
