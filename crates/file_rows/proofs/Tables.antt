-- The rows of an undamaged table: how many, how long, and the room that they take; rows laid one behind the other.
use Prim.Native.Nat.{ℕ, ◌+◌, ◌*◌, ◌-◌, ◌≤◌, ◌<◌}
use mathlib.Core.Path.{◌≡◌, sym, ap, ◌∙◌, subst}
use mathlib.Core.Bool.{true}
use mathlib.Core.List.{List, []}
use native.Mathlib.Omega.{arith}
use native.Mathlib.Nat.{mul-le-mul_right, suc-mul, zero-mul, one-mul}
use native.Mathlib.Numerals.{add-one}
use lib.ListN.{length, take, drop, get_or, length-drop}
use lib.Seq.{length-take-le}
use Rattle.relation.specs.Rows.{Width, flat}
use Rattle.relation.proofs.Lists.{get_or_in}
use Rattle.column_trie.specs.Limits.{max_capacity}
use Rattle.column_trie.specs.Table.{layers_in, rows_in, Undamaged, undamaged}
use Rattle.column_trie.specs.declared.ColumnTrie.{ColumnTrie}
use Rattle.column_trie.proofs.Damage.{undamaged_told}
use Rattle.column_trie.proofs.Layers.{Whole}
use Rattle.column_trie.proofs.Pool.{lay_length}
use Rattle.column_trie.proofs.Tables.{holds}
use Rattle.row_path.specs.Path.{OnPath}
use Rattle.table_file.specs.Bytes.{encode}
use Rattle.table_file.proofs.Numbers.{length_encode}
use Rattle.table_file.proofs.Fields.{length_flat, in_take, in_drop}
use Rattle.file_rows.specs.Rows.{Putting, RowsPut, Laid}
use Rattle.file_rows.proofs.Pieces.{laid_more, no_rows, row_more}

module _ {pool : List ℕ} {t : ColumnTrie} (o : Whole t) (u : Undamaged pool t) where
  pub rows_wide : Width t.arity (rows_in pool t)
  rows_wide = (holds o u).width

  pub rows_many : length (rows_in pool t) ≡ t.tuple_count
  rows_many = sym (holds o u).counted

  -- a number of the machine
  pub rows_few : t.tuple_count ≤ max_capacity
  rows_few = omega (arith, u.layers.counted, (u.layers.room (t.arity - 1) (omega (arith, u.arity.0))).0, u.capacity.1)

  pub row_long : (i : ℕ) → i < t.tuple_count → length (get_or (rows_in pool t) i []) ≡ t.arity
  row_long i h = rows_wide (get_or (rows_in pool t) i []) (get_or_in (rows_in pool t) i [] (omega (arith, rows_many)))

  pub rows_left : (i k : ℕ) → i + k < t.tuple_count → k < length (drop i (rows_in pool t))
  rows_left i k h = omega (arith, rows_many, length-drop i (rows_in pool t))

  -- the bytes of n rows
  pub next_long : (i n : ℕ) → i + n ≤ t.tuple_count → length (encode (flat (take n (drop i (rows_in pool t))))) ≡ 8 * (n * t.arity)
  next_long i n h =
      let qs = drop i (rows_in pool t) in
      length_encode (flat (take n qs))
      ∙ ap (λ (m : ℕ). 8 * m) (length_flat (take n qs) (λ x m. rows_wide x (in_drop i (rows_in pool t) (in_take n qs m))) ∙ ap (λ (m : ℕ). m * t.arity) (length-take-le n qs (omega (arith, rows_many, length-drop i (rows_in pool t)))))

-- one row of n
pub row_room : (k n a : ℕ) → k < n → k * a + a ≤ n * a
row_room k n a h = omega (arith, mul-le-mul_right a h, suc-mul k a)

pub next_room : (k a : ℕ) → (k + 1) * a ≡ k * a + a
next_room k a = ap (λ (n : ℕ). n * a) (add-one k) ∙ suc-mul k a

-- the first k of n rows are laid, the first of them row i, up to p
pub record RowsLaid (pool : List ℕ) (t : ColumnTrie) (bytes : List ℕ) (at i n : ℕ) (bytes' path : List ℕ) (p k : ℕ) : Type 0 where
  pub ahead : k ≤ n
  pub ends : p ≡ at + 8 * (k * t.arity)
  pub put : RowsPut pool t (i + k - 1) bytes at (encode (flat (take k (drop i (rows_in pool t))))) bytes' path

pub none_laid : {pool : List ℕ} {t : ColumnTrie} {path : List ℕ} {i n at room : ℕ} (bytes : List ℕ) → Putting pool t path i n at room → RowsLaid pool t bytes at i n bytes path at 0
none_laid {pool} {t} {path} {i} {n} {at} bytes p =
    let e : i - 1 ≡ i + 0 - 1 = omega arith in
    record {
      ahead = omega arith;
      ends = omega (arith, zero-mul t.arity);
      put = record { laid = no_rows bytes at (drop i (rows_in pool t)); on = subst (λ (m : ℕ). OnPath (layers_in pool t) m path) e p.before };
    }

module _ {pool : List ℕ} {t : ColumnTrie} (o : Whole t) (s : undamaged pool t ≡ true) {bytes bytes' path : List ℕ} {at i n p k : ℕ} (l : RowsLaid pool t bytes at i n bytes' path p k) where
  -- no byte more or less
  pub rows_kept : length bytes' ≡ length bytes
  rows_kept = ap length l.put.laid ∙ lay_length bytes at (encode (flat (take k (drop i (rows_in pool t)))))

  module _ {first : List ℕ} (q : Putting pool t first i n at (length bytes)) (h : k < n) where
    u : Undamaged pool t
    u = undamaged_told pool t s

    pub row_asked : Putting pool t path (i + k) 1 p (length bytes')
    row_asked = record { there = omega (arith, q.there); before = l.put.on; fits = omega (arith, one-mul t.arity, l.ends, row_room k n t.arity h, q.fits, rows_kept) }

    -- so the bytes up to the next row's end are numbers of the machine
    pub row_ends : p + 8 * t.arity ≤ length bytes
    row_ends = omega (arith, l.ends, row_room k n t.arity h, q.fits)

    pub one_laid : {bytes'' path' : List ℕ} → RowsPut pool t (i + k) bytes' p (encode (get_or (rows_in pool t) (i + k) [])) bytes'' path' → RowsLaid pool t bytes at i n bytes'' path' (p + 8 * t.arity) (k + 1)
    one_laid {bytes''} {path'} r =
        let e : i + k ≡ i + (k + 1) - 1 = omega arith in
        let qs = drop i (rows_in pool t) in
        let c = rows_left o u i k (omega (arith, q.there)) in
        let v : Laid bytes at (encode (flat (take k qs))) bytes' p = record { is = l.put.laid; ends = omega (arith, l.ends, next_long o u i k (omega (arith, q.there))) } in
        record {
          ahead = omega arith;
          ends = omega (arith, l.ends, next_room k t.arity);
          put = record { laid = laid_more v (encode (get_or (rows_in pool t) (i + k) [])) r.laid (row_more (rows_in pool t) i k c); on = subst (λ (m : ℕ). OnPath (layers_in pool t) m path') e r.on };
        }

pub all_laid : {pool : List ℕ} {t : ColumnTrie} {bytes bytes' path : List ℕ} {at i n p k : ℕ} → RowsLaid pool t bytes at i n bytes' path p k → n ≤ k → RowsPut pool t (i + n - 1) bytes at (encode (flat (take n (drop i (rows_in pool t))))) bytes' path
all_laid {pool} {t} {bytes} {bytes'} {path} {at} {i} {n} {p} {k} l h =
    let e : k ≡ n = omega (arith, l.ahead) in
    subst (λ (m : ℕ). RowsPut pool t (i + m - 1) bytes at (encode (flat (take m (drop i (rows_in pool t))))) bytes' path) e l.put
