-- A read that is not refused: what it fills, and what that leaves.
use Prim.Native.Nat.{ℕ}
use mathlib.Core.Path.{◌≡◌, refl, sym, ap, ap₂, ◌∙◌, subst}
use mathlib.Core.Bool.{Bool, true}
use mathlib.Core.List.{List, []}
use native.Mathlib.Omega.{arith}
use lib.ListN.{length, get_or}
use Rattle.std.specs.Prelude.{Option, Some, None}
use Rattle.std.proofs.lemmas.Option.{none-some, same_Some}
use Rattle.relation.specs.Order.{Row}
use Rattle.relation.specs.Rows.{Sorted, Width, as_set}
use Rattle.relation.specs.Layers.{layers_of}
use Rattle.relation.proofs.Sorting.{sort_sorted, sort_asc, as_set_is}
use Rattle.column_trie.specs.Pool.{store}
use Rattle.column_trie.specs.Table.{arity_ok, empty_table, refilled}
use Rattle.column_trie.specs.declared.ColumnTrie.{ColumnTrie}
use Rattle.from_sorted.specs.Answer.{unless_refused, kept_kinds}
use Rattle.from_sorted.specs.Push.{Filling, Fills}
use Rattle.from_sorted.proofs.Answer.{if_built, regraded}
use Rattle.table_file.specs.Bytes.{Bytes}
use Rattle.table_file.specs.File.{head, File, kinds_read, parse}
use Rattle.table_file.proofs.Laws.{what_is_read_was_written, arity_ok_lem, file_kinds, kinds_inside, file_long}
use Rattle.table_file.proofs.Places.{file_row, file_row_read}
use Rattle.file_check.specs.Checks.{checked}
use Rattle.file_check.specs.declared.Checked.{Checked}
use Rattle.file_read.specs.Load.{rows_found, RowAt, Loading, HasKinds}
use Rattle.file_read.specs.Read.{read_number, table_read, pool_read, Reads}
use Rattle.file_read.proofs.Numbers.{Accepted}

-- a file's arity is one that a table may have
pub arity_checked : (bytes : List ℕ) → Bytes bytes → {c : Checked} → Some c ≡ checked (parse bytes) → arity_ok c.arity ≡ true
arity_checked bytes b {c} e = go (parse bytes) refl e
  where
    go : (x : Option File) → parse bytes ≡ x → Some c ≡ checked x → arity_ok c.arity ≡ true
    go None p q = absurd (none-some c (sym q))
    go (Some f) p q =
        let t = (what_is_read_was_written bytes f b p).1 in
        ap (λ (z : Checked). arity_ok z.arity) (same_Some _ _ q) ∙ arity_ok_lem f.arity t.some t.few

pub reads_read : (bytes lent : List ℕ) (start capacity : ℕ) {lent' : List ℕ} {t : ColumnTrie} → 0 ≡ read_number (parse bytes) (length lent) start capacity → t ≡ table_read (parse bytes) start capacity → lent' ≡ pool_read (parse bytes) lent start capacity → Reads bytes lent start capacity lent' (record { number = 0; table = t })
reads_read bytes lent start capacity {lent'} {t} e f p =
    let k = read_number (parse bytes) (length lent) start capacity in
    let left : t ≡ unless_refused k (table_read (parse bytes) start capacity) (empty_table 0 0 0) = f ∙ sym (if_built k _ (empty_table 0 0 0) (sym e)) in
    record { answer = λ i. record { number = e i; table = left i }; pool = p ∙ sym (if_built k _ _ (sym e)) }

-- an accepted file
module _ {bytes : List ℕ} {len start capacity : ℕ} (a : Accepted bytes len start capacity) where
  abbrev file : File
  file = a.file

  checked_is : {c : Checked} → Some c ≡ checked (parse bytes) → c ≡ record { arity = file.arity; body = length (head file.arity file.kinds); rows = length file.rows }
  checked_is e = same_Some _ _ (e ∙ ap checked a.found_is)

  rows_are : rows_found (parse bytes) ≡ file.rows
  rows_are = ap rows_found a.found_is

  pub has_kinds : {c : Checked} → Some c ≡ checked (parse bytes) → HasKinds bytes c.arity
  has_kinds {c} e =
      let q : c.arity ≡ file.arity = ap (λ (z : Checked). z.arity) (checked_is e) in
      record {
        few = omega (arith, q, a.table.few);
        long = omega (arith, ap length a.bytes_are, file_long file.arity file.kinds file.rows a.table);
        there = λ h. omega (arith, q, ap length a.bytes_are, kinds_inside file.arity file.kinds file.rows a.table (sym (ap (λ (l : List ℕ). get_or l 4 0) a.bytes_are) ∙ h));
      }

  pub kinds_are : {c : Checked} → Some c ≡ checked (parse bytes) → kept_kinds c.arity (kinds_read c.arity bytes) ≡ kept_kinds file.arity file.kinds
  kinds_are {c} e =
      ap (λ (n : ℕ). kept_kinds n (kinds_read n bytes)) (ap (λ (z : Checked). z.arity) (checked_is e)) ∙
      ap (kept_kinds file.arity) (ap (kinds_read file.arity) a.bytes_are ∙ file_kinds file.arity file.kinds file.rows a.table)

  -- the table that is filled
  pub vacant : ColumnTrie
  vacant = regraded (empty_table start file.arity capacity) (kept_kinds file.arity file.kinds)

  pub vacant_is : {c : Checked} {t : ColumnTrie} {kinds : List Bool} → Some c ≡ checked (parse bytes) → t ≡ empty_table start c.arity capacity → kinds ≡ kept_kinds c.arity (kinds_read c.arity bytes) → regraded t kinds ≡ vacant
  unfolding vacant
  vacant_is {c} e u k = ap₂ regraded (u ∙ ap (λ (z : Checked). empty_table start z.arity capacity) (checked_is e)) (k ∙ kinds_are e)

  filling : Filling len vacant file.rows
  unfolding vacant
  filling =
      record {
        positive = a.table.some;
        few = a.table.few;
        small = a.small;
        fits = a.fits;
        room = a.room;
        sorted = subst Sorted (sort_asc file.rows a.table.asc) (sort_sorted file.rows);
        empty = refl;
      }

  loading_file : Loading bytes (length (head file.arity file.kinds)) (length file.rows) len vacant
  unfolding vacant
  loading_file =
      record {
        many = ap length (sym rows_are);
        lies = λ i h.
            subst (λ (rs : List Row). RowAt bytes (length (head file.arity file.kinds)) file.arity i (get_or rs i [])) (sym rows_are)
            (subst (λ (bs : List ℕ). RowAt bs (length (head file.arity file.kinds)) file.arity i (get_or file.rows i [])) (sym a.bytes_are)
            (record { inside = (file_row a.table i h).inside; is = file_row_read a.table i h }));
        fill = subst (Filling len vacant) (sym rows_are) filling;
        width = subst (Width file.arity) (sym rows_are) a.table.width;
      }

  pub loading : {c : Checked} {t : ColumnTrie} → Some c ≡ checked (parse bytes) → t ≡ vacant → Loading bytes c.body c.rows len t
  loading {c} {t} e v =
      subst (λ (u : ColumnTrie). Loading bytes c.body c.rows len u) (sym v)
      (subst (λ (z : Checked). Loading bytes z.body z.rows len vacant) (sym (checked_is e)) loading_file)

  -- what it leaves
  own_set : as_set file.rows ≡ file.rows
  own_set = as_set_is a.table.asc (λ q. (λ m. m, λ m. m))

  filled_rows : as_set (rows_found (parse bytes)) ≡ file.rows
  filled_rows = ap as_set rows_are ∙ own_set

  pub filled_table : {pool pool' : List ℕ} {t r : ColumnTrie} → t ≡ vacant → Fills pool t (rows_found (parse bytes)) pool' r → r ≡ table_read (parse bytes) start capacity
  unfolding vacant
  filled_table v f = f.header ∙ ap₂ refilled v filled_rows ∙ sym (ap (λ (x : Option File). table_read x start capacity) a.found_is)

  pub filled_pool : {pool pool' : List ℕ} {t r : ColumnTrie} → t ≡ vacant → Fills pool t (rows_found (parse bytes)) pool' r → pool' ≡ pool_read (parse bytes) pool start capacity
  unfolding vacant
  filled_pool {pool} v f =
      f.words ∙ ap₂ (λ (u : ColumnTrie) (rs : List Row). store u.start u.capacity (layers_of u.arity rs) pool) v filled_rows ∙
      sym (ap (λ (x : Option File). pool_read x pool start capacity) a.found_is)
