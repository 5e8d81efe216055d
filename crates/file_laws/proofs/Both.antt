-- Writing and reading, one after the other, of the two calls' contracts: "Writing and reading a table, both accepted, returns its rows; bytes that are
-- accepted are written again identically, given room."
use Prim.Native.Nat.{ℕ, suc, ◌+◌, ◌-◌, ◌≤◌, ◌<◌}
use mathlib.Core.Path.{◌≡◌, sym, ap, ap₂, ◌∙◌, subst}
use mathlib.Core.Bool.{Bool, false}
use mathlib.Core.List.{List, [], ◌++◌}
use native.Mathlib.Omega.{arith}
use lib.ListN.{length, take, drop, get_or, replicate}
use lib.Seq.{length-take-le, take_all, take_at}
use Rattle.std.specs.Prelude.{Some}
use Rattle.relation.specs.Order.{Row}
use Rattle.relation.specs.Lists.{◌∈◌}
use Rattle.relation.specs.Layers.{layers_of}
use Rattle.relation.proofs.Lists.{get_or_in, in_get_or}
use Rattle.column_trie.specs.Limits.{max_arity}
use Rattle.column_trie.specs.Pool.{spot}
use Rattle.column_trie.specs.Table.{table_of, layers_in, rows_in, Undamaged}
use Rattle.column_trie.specs.declared.ColumnTrie.{ColumnTrie}
use Rattle.column_trie.proofs.Header.{layer_fits}
use Rattle.column_trie.proofs.Layers.{Whole}
use Rattle.column_trie.proofs.Stored.{in_pool}
use Rattle.column_trie.proofs.Tables.{Holds, holds}
use Rattle.from_sorted.specs.Answer.{kept_kinds}
use Rattle.from_sorted.specs.declared.Built.{Built}
use Rattle.from_sorted.proofs.Taken.{kept_own}
use Rattle.table_file.specs.Bytes.{Bytes}
use Rattle.table_file.specs.File.{File, file_of, parse, Table}
use Rattle.table_file.proofs.Numbers.{Words}
use Rattle.table_file.proofs.Laws.{what_is_written_is_read, what_is_read_was_written}
use Rattle.row_path.specs.Path.{ancestor}
use Rattle.row_path.proofs.Keys.{key_at}
use Rattle.file_read.specs.Read.{Reads}
use Rattle.file_write.specs.declared.FileWritten.{FileWritten}
use Rattle.file_write.specs.Write.{kinds_of, file_in, Writes}
use Rattle.file_laws.proofs.Leaves.{TableOfTheFile, file_read, read_found, read_table, a_read_leaves_the_table_of_the_file}
use Rattle.file_laws.proofs.WriteExactly.{each_number_of_a_write_is_given_exactly_when}
use Rattle.file_laws.proofs.Written.{written_sound, written_len, written_bytes, a_write_leaves_the_file_of_the_table}

-- ---- a table that a file can hold

-- a row's words are words of the pool
rows_words : {pool : List ℕ} {t : ColumnTrie} → Whole t → Undamaged pool t → Words pool → (r : Row) → r ∈ rows_in pool t → Words r
rows_words {pool} {t} o u p r m w n = go (in_get_or [] m) (in_get_or 0 n)
  where
    h : Holds pool t (rows_in pool t)
    h = holds o u

    go : (i : ℕ) × (i < length (rows_in pool t)) × (get_or (rows_in pool t) i [] ≡ r) → (d : ℕ) × (d < length r) × (get_or r d 0 ≡ w) → w < 18446744073709551616
    go (i, b, e) (d, c, f) =
        let a : d < t.arity = omega (arith, c, h.width r m) in
        let k = key_at o u i (omega (arith, b, h.counted)) d a in
        let g = layer_fits (in_pool u) a in
        let at = spot t.start t.capacity d + ancestor (drop (suc d) (layers_in pool t)) i in
        p w (subst (λ (x : ℕ). x ∈ pool) (k.word ∙ ap (λ (q : Row). get_or q d 0) e ∙ f) (get_or_in pool at 0 (omega (arith, k.inside, g.inside, g.keys))))

pub holds_a_file : {pool : List ℕ} {t : ColumnTrie} → Whole t → length t.grade ≡ max_arity → Undamaged pool t → Words pool → Table t.arity (kinds_of t) (rows_in pool t)
holds_a_file {pool} {t} o g u p =
    let h = holds o u in
    record { some = u.arity.0; few = u.arity.1; kinds = length-take-le t.arity t.grade (omega (arith, u.arity.1)); width = h.width; words = rows_words o u p; asc = h.asc }

-- ---- written, then read

-- the table that was read into lent is the one in pool: its rows, its columns' kinds, the words of its layers; and its header, where it was put in the
-- same place with the same capacity
pub record ReadBack (pool : List ℕ) (t : ColumnTrie) (start capacity : ℕ) (lent : List ℕ) (r : ColumnTrie) : Type 0 where
  pub undamaged : Undamaged lent r
  pub rows : rows_in lent r ≡ rows_in pool t
  pub arity : r.arity ≡ t.arity
  pub kinds : r.grade ≡ t.grade
  pub words : layers_in lent r ≡ layers_in pool t
  pub header : start ≡ t.start → capacity ≡ t.capacity → r ≡ t

module _ {pool bytes bytes' : List ℕ} {t : ColumnTrie} {w : FileWritten} (o : Whole t) (g : length t.grade ≡ max_arity) (p : Words pool) (x : Writes pool t bytes bytes' w) (z : w.number ≡ 0) where
  u : Undamaged pool t
  u = written_sound x z

  abbrev as_file : File
  as_file = record { arity = t.arity; kinds = kinds_of t; rows = rows_in pool t }

  parsed : parse (take w.len bytes') ≡ Some as_file
  parsed = ap parse (a_write_leaves_the_file_of_the_table x z) ∙ what_is_written_is_read t.arity (kinds_of t) (rows_in pool t) (holds_a_file o g u p)

  own_kinds : kept_kinds t.arity (kinds_of t) ≡ t.grade
  own_kinds =
      ap (λ (ks : List Bool). ks ++ replicate (max_arity - t.arity) false) (take_all t.arity (kinds_of t) (omega (arith, length-take-le t.arity t.grade (omega (arith, u.arity.1)))))
      ∙ kept_own g u.arity.1 u.plain

  pub a_table_that_is_written_and_read_comes_back :
      {lent lent' : List ℕ} {start capacity : ℕ} {r : Built} → Bytes (take w.len bytes') → Reads (take w.len bytes') lent start capacity lent' r → r.number ≡ 0 → ReadBack pool t start capacity lent' r.table
  a_table_that_is_written_and_read_comes_back {lent} {lent'} {start} {capacity} {r} y b n = go (file_read file lent start capacity y b n) (sym (read_found file lent start capacity y b n) ∙ parsed) (a_read_leaves_the_table_of_the_file file lent start capacity y b n) (read_table file lent start capacity y b n)
    where
      file : List ℕ
      file = take w.len bytes'

      h : Holds pool t (rows_in pool t)
      h = holds o u

      go : (f : File) → Some f ≡ Some as_file → TableOfTheFile f lent' r.table → r.table ≡ table_of start f.arity capacity (kept_kinds f.arity f.kinds) f.rows → ReadBack pool t start capacity lent' r.table
      go f e l k =
          let i : f ≡ as_file = cc in
          let j : r.table ≡ table_of start t.arity capacity t.grade (rows_in pool t) =
          k ∙ ap (λ (q : File). table_of start q.arity capacity (kept_kinds q.arity q.kinds) q.rows) i ∙ ap (λ (ks : List Bool). table_of start t.arity capacity ks (rows_in pool t)) own_kinds in
          record {
            undamaged = l.undamaged;
            rows = l.rows ∙ ap (λ (q : File). q.rows) i;
            arity = ap (λ (q : ColumnTrie). q.arity) j;
            kinds = ap (λ (q : ColumnTrie). q.grade) j;
            words = l.layers ∙ ap (λ (q : File). layers_of q.arity q.rows) i ∙ sym h.layers;
            header = λ s c. j ∙ ap₂ (λ (m n : ℕ). table_of m t.arity n t.grade (rows_in pool t)) s c ∙ sym h.table;
          }

-- ---- read, then written

-- accepted, and the same bytes in front, the others as they were
pub record WrittenAgain (bytes out out' : List ℕ) (w : FileWritten) : Type 0 where
  pub accepted : w.number ≡ 0
  pub len : w.len ≡ length bytes
  pub same : out' ≡ bytes ++ drop (length bytes) out

pub bytes_that_are_read_are_written_again :
    {bytes lent lent' : List ℕ} {start capacity : ℕ} {r : Built} → Bytes bytes → Reads bytes lent start capacity lent' r → r.number ≡ 0 →
    {out out' : List ℕ} {w : FileWritten} → Writes lent' r.table out out' w → length bytes ≤ length out → WrittenAgain bytes out out' w
bytes_that_are_read_are_written_again {bytes} {lent} {lent'} {start} {capacity} {r} y b n {out} {out'} {w} x room =
    record {
      accepted = z;
      len = written_len x z ∙ ap length file;
      same = written_bytes x z ∙ ap (λ (l : List ℕ). l ++ drop (length l) out) file;
    }
  where
    f : File
    f = file_read bytes lent start capacity y b n

    l : TableOfTheFile f lent' r.table
    l = a_read_leaves_the_table_of_the_file bytes lent start capacity y b n

    was : (bytes ≡ file_of f.arity f.kinds f.rows) × Table f.arity f.kinds f.rows
    was = what_is_read_was_written bytes f y (read_found bytes lent start capacity y b n)

    arity : r.table.arity ≡ f.arity
    arity = ap (λ (q : ColumnTrie). q.arity) (read_table bytes lent start capacity y b n)

    kinds : kinds_of r.table ≡ f.kinds
    kinds =
        let k : length f.kinds ≡ f.arity = was.1.kinds in
        ap₂ (λ (m : ℕ) (ks : List Bool). take m ks) arity l.kinds
        ∙ take_at (take f.arity f.kinds) (replicate (max_arity - f.arity) false) f.arity (length-take-le f.arity f.kinds (omega arith))
        ∙ take_all f.arity f.kinds (omega arith)

    file : file_in lent' r.table ≡ bytes
    file = ap₂ (λ (m : ℕ) (ks : List Bool). file_of m ks (rows_in lent' r.table)) arity kinds ∙ ap (file_of f.arity f.kinds) l.rows ∙ sym was.0

    z : w.number ≡ 0
    z = (each_number_of_a_write_is_given_exactly_when x).accepted.1 (l.undamaged, omega (arith, ap length file))
