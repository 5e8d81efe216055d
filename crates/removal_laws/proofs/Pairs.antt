-- An insert and a removal, one after the other.
use Prim.Native.Nat.{ℕ, ◌<◌}
use mathlib.Core.Path.{◌≡◌, sym, ap, subst, subst₂, ◌∙◌}
use mathlib.Core.Bool.{true}
use mathlib.Core.Logic.{inr}
use mathlib.Core.List.{List}
use native.Mathlib.Omega.{arith}
use lib.ListN.{length}
use Rattle.relation.specs.Exactly.{Exactly}
use Rattle.relation.specs.Order.{Row}
use Rattle.relation.specs.Lists.{◌∈◌}
use Rattle.relation.specs.Rows.{put}
use Rattle.relation.proofs.Sorting.{put_self}
use Rattle.column_trie.specs.Table.{layers_in, rows_in}
use Rattle.column_trie.specs.declared.ColumnTrie.{ColumnTrie}
use Rattle.column_trie.proofs.Layers.{Whole}
use Rattle.column_trie.proofs.Tables.{Holds, holds}
use Rattle.column_trie_insert.specs.declared.Inserted.{Inserted}
use Rattle.column_trie_insert.specs.Insert.{Inserts}
use Rattle.insert_laws.proofs.Exactly as inserts
use Rattle.insert_laws.proofs.Exactly.{each_number_of_an_insert_is_given_exactly_when}
use Rattle.insert_laws.proofs.Laws.{Table, undamaged_before, insert_leaves_the_layers_of_the_set_of_the_old_rows_and_the_new_one}
use Rattle.column_trie_remove.specs.declared.Removed.{Removed}
use Rattle.column_trie_remove.specs.Remove.{without, Removes}
use Rattle.column_trie_remove.proofs.Rest.{take_back}
use Rattle.removal_laws.proofs.Exactly.{Numbers, each_number_of_a_removal_is_given_exactly_when}
use Rattle.removal_laws.proofs.Laws.{rest_fits, removal_leaves_the_layers_of_the_remaining_rows}

-- the removal finds the row, and leaves the header and the used words as they were before the insert
pub record Restored (pool : List ℕ) (t : ColumnTrie) (pool₂ : List ℕ) (r : Removed) : Type 0 where
  pub number : r.number ≡ 0
  pub was_there : r.was_there ≡ true
  pub header : r.table ≡ t
  pub used : layers_in pool₂ r.table ≡ layers_in pool t

-- "An accepted insert of an absent row and then its removal restore header and used words."
pub an_accepted_insert_of_an_absent_row_and_then_its_removal_restore_header_and_used_words :
    {pool pool₁ pool₂ : List ℕ} {t : ColumnTrie} {tuple : Row} {i : Inserted} {r : Removed} → Whole t → Inserts pool pool₁ t tuple i → i.number ≡ 0 → (tuple ∈ rows_in pool t → ⊥) → Removes pool₁ pool₂ i.table tuple r →
    Restored pool t pool₂ r
an_accepted_insert_of_an_absent_row_and_then_its_removal_restore_header_and_used_words {pool} {pool₁} {pool₂} {t} {tuple} {i} {r} o a z n b =
    record {
      number = zero;
      was_there = x.was_there.1 (zero, subst (λ (rows : List Row). tuple ∈ rows) (sym grown.rows_are) (put_self tuple (rows_in pool t)));
      header = left.header_is ∙ sym own.table;
      used = left.layers_are ∙ sym own.layers;
    }
  where
    x : Numbers pool₁ i.table tuple r.number r.was_there
    x = each_number_of_a_removal_is_given_exactly_when b

    own : Holds pool t (rows_in pool t)
    own = holds o (undamaged_before o a z)

    grown : Table t.start t.arity t.capacity t.grade (put tuple (rows_in pool t)) pool₁ i.table
    grown = insert_leaves_the_layers_of_the_set_of_the_old_rows_and_the_new_one o a z

    zero : r.number ≡ 0
    zero = x.accepted.1 (grown.undamaged, ((each_number_of_an_insert_is_given_exactly_when a).accepted.0 z).0.1 ∙ sym (ap (λ (h : ColumnTrie). h.arity) grown.header_is))

    left : Table t.start t.arity t.capacity t.grade (rows_in pool t) pool₂ r.table
    left =
        subst (λ (rows : List Row). Table t.start t.arity t.capacity t.grade rows pool₂ r.table) (take_back own.asc n)
        (subst₂ (λ (h : ColumnTrie) (rows : List Row). Table h.start h.arity h.capacity h.grade (without tuple rows) pool₂ r.table) grown.header_is grown.rows_are
        (removal_leaves_the_layers_of_the_remaining_rows grown.whole b zero))

-- "The room is used again: a table at capacity takes a new row after a removal": after a removal that took a row out, no tuple of the right length is refused,
-- however full the table was, and it is new exactly if it isn't among the remaining rows.
pub a_table_at_capacity_takes_a_new_row_after_a_removal :
    {pool pool₁ pool₂ : List ℕ} {t : ColumnTrie} {tuple another : Row} {r : Removed} {i : Inserted} → Whole t → Removes pool pool₁ t tuple r → r.was_there ≡ true → Inserts pool₁ pool₂ r.table another i → length another ≡ t.arity →
    (i.number ≡ 0) × Exactly (i.is_new ≡ true) (another ∈ without tuple (rows_in pool t) → ⊥)
a_table_at_capacity_takes_a_new_row_after_a_removal {pool} {pool₁} {t = t} {tuple} {another} {r} {i} o a w b l =
    (zero, (λ e m. (y.is_new.0 e).1 (subst (λ (rows : List Row). another ∈ rows) (sym left.rows_are) m), λ n. y.is_new.1 (zero, λ m. n (subst (λ (rows : List Row). another ∈ rows) left.rows_are m))))
  where
    x : Numbers pool t tuple r.number r.was_there
    x = each_number_of_a_removal_is_given_exactly_when a

    y : inserts.Numbers pool₁ r.table another i.number i.is_new
    y = each_number_of_an_insert_is_given_exactly_when b

    there : (r.number ≡ 0) × (tuple ∈ rows_in pool t)
    there = x.was_there.0 w

    left : Table t.start t.arity t.capacity t.grade (without tuple (rows_in pool t)) pool₁ r.table
    left = removal_leaves_the_layers_of_the_remaining_rows o a there.0

    sized : inserts.SizedFor pool t tuple
    sized = x.accepted.0 there.0

    count : r.table.tuple_count < r.table.capacity
    count =
        let own = holds o sized.0 in
        omega (
          arith,
          ap (λ (h : ColumnTrie). h.tuple_count) left.header_is,
          ap (λ (h : ColumnTrie). h.capacity) left.header_is,
          (rest_fits tuple sized.0).fewer there.1,
          own.room,
        )

    zero : i.number ≡ 0
    zero = y.accepted.1 ((left.undamaged, l ∙ sym (ap (λ (h : ColumnTrie). h.arity) left.header_is)), inr count)
