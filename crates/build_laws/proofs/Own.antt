-- "Every undamaged table is what a build of its own rows leaves", of the contract of build itself.
use Prim.Native.Nat.{ℕ, ◌+◌, ◌*◌, ◌/◌, ◌%◌, ◌≤◌}
use mathlib.Core.Path.{◌≡◌, sym, ap, ap₂, ◌∙◌, subst}
use mathlib.Core.List.{List}
use native.Mathlib.Nat.{mul-div_cancel, mul-mod_left}
use lib.ListN.{length}
use borrow.Author.Tests.{lt-ltb, le-leb}
use Rattle.relation.specs.Order.{Row}
use Rattle.relation.specs.Rows.{flat, sort, as_set}
use Rattle.relation.specs.Layers.{layers_of}
use Rattle.relation.proofs.Sorting.{as_set_is, sort_asc}
use Rattle.relation.proofs.Tests.{and_true}
use Rattle.column_trie.specs.Limits.{max_arity, max_capacity}
use Rattle.column_trie.specs.Pool.{store}
use Rattle.column_trie.specs.Table.{table_of, rows_in, Undamaged}
use Rattle.column_trie.specs.declared.ColumnTrie.{ColumnTrie}
use Rattle.column_trie.proofs.Layers.{Whole}
use Rattle.column_trie.proofs.Tables.{Holds, holds}
use Rattle.from_sorted.specs.Given.{rows_given}
use Rattle.column_trie_build.specs.Build.{build_number, Builds}
use Rattle.from_sorted.specs.declared.Built.{Built}
use Rattle.column_trie_build.proofs.Numbers.{number_0}
use Rattle.from_sorted.proofs.Given.{length_flat, given_flat}
use Rattle.from_sorted.proofs.Answer.{if_built}
use Rattle.from_sorted.proofs.Taken.{kept_own}
use Rattle.build_laws.proofs.Leaves.{built_pool, built_table}

-- accepted; table, pool and rows come back as they were
pub record LeavesAsItWas (given pool : List ℕ) (t : ColumnTrie) (given' pool' : List ℕ) (r : Built) : Type 0 where
  pub accepted : r.number ≡ 0
  pub table : r.table ≡ t
  pub words : pool' ≡ pool
  pub rows : given' ≡ given

pub a_build_of_its_own_rows_leaves_the_table :
    {pool : List ℕ} {t : ColumnTrie} {given' pool' : List ℕ} {r : Built} → Whole t → length t.grade ≡ max_arity → Undamaged pool t → Builds (flat (rows_in pool t)) pool t.start t.arity t.capacity t.grade given' pool' r →
    LeavesAsItWas (flat (rows_in pool t)) pool t given' pool' r
a_build_of_its_own_rows_leaves_the_table {pool} {t} {given'} {pool'} {r} o g u b =
    record {
      accepted = zero;
      table = built_table (flat rows) pool t.start t.arity t.capacity t.grade b zero ∙ ap₂ (table_of t.start t.arity t.capacity) (kept_own g u.arity.1 u.plain) stored ∙ sym h.table;
      words =
          built_pool (flat rows) pool t.start t.arity t.capacity t.grade b zero
          ∙ ap (λ (qs : List Row). store t.start t.capacity (layers_of t.arity qs) pool) stored
          ∙ h.words;
      rows =
          b.rows
          ∙ if_built (build_number (length (flat rows)) (length pool) t.start t.arity t.capacity) (flat (sort (rows_given t.arity (flat rows)))) (flat rows) (sym number)
          ∙ ap (λ (qs : List Row). flat (sort qs)) given
          ∙ ap flat (sort_asc rows h.asc);
    }
  where
    rows : List Row
    rows = rows_in pool t

    h : Holds pool t rows
    h = holds o u

    size : length (flat rows) ≡ length rows * t.arity
    size = length_flat rows h.width

    given : rows_given t.arity (flat rows) ≡ rows
    given = given_flat rows u.arity.0 h.width

    stored : as_set (rows_given t.arity (flat rows)) ≡ rows
    stored = ap as_set given ∙ as_set_is h.asc (λ q. (λ m. m, λ m. m))

    number : 0 ≡ build_number (length (flat rows)) (length pool) t.start t.arity t.capacity
    number =
        number_0 (length (flat rows)) (length pool) t.start t.arity t.capacity
        (and_true _ _ (lt-ltb 0 t.arity u.arity.0) (le-leb t.arity max_arity u.arity.1))
        (and_true _ _ (lt-ltb 0 t.capacity u.capacity.0) (le-leb t.capacity max_capacity u.capacity.1))
        (le-leb (t.start + 2 * t.arity * t.capacity) (length pool) u.fits)
        (ap (λ (n : ℕ). n % t.arity) size ∙ mul-mod_left (length rows) t.arity)
        (subst (λ (n : ℕ). n ≤ t.capacity) (sym (ap (λ (n : ℕ). n / t.arity) size ∙ mul-div_cancel (length rows) u.arity.0)) h.room)

    zero : r.number ≡ 0
    zero = ap (λ (x : Built). x.number) b.answer ∙ sym number
