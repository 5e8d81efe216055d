-- "Leaves the layers of a build over the old rows and the new one": an insert against a build, each by its contract, and a removal likewise.
use Prim.Native.Nat.{ℕ}
use mathlib.Core.Path.{◌≡◌, sym, ap, subst, ◌∙◌}
use mathlib.Core.Bool.{Bool}
use mathlib.Core.Logic.{⊎_elim}
use mathlib.Core.List.{List, ◌∷◌}
use Rattle.relation.specs.Order.{Row}
use Rattle.relation.specs.Lists.{◌∈◌, hd, tl, in_cons}
use Rattle.relation.specs.Rows.{Members, put, as_set}
use Rattle.relation.specs.Layers.{layers_of}
use Rattle.relation.proofs.Sorting.{as_set_is, put_asc, in_put, put_self, put_old}
use Rattle.column_trie.specs.Pool.{store}
use Rattle.column_trie.specs.Table.{table_of, layers_in, rows_in}
use Rattle.column_trie.specs.declared.ColumnTrie.{ColumnTrie}
use Rattle.column_trie.proofs.Layers.{Whole}
use Rattle.column_trie.proofs.Tables.{holds}
use Rattle.from_sorted.specs.Given.{rows_given}
use Rattle.from_sorted.specs.Answer.{kept_kinds}
use Rattle.column_trie_build.specs.Build.{Builds}
use Rattle.from_sorted.specs.declared.Built.{Built}
use Rattle.build_laws.proofs.Leaves.{built_pool, built_table, build_leaves_the_layers_of_the_set_of_rows}
use Rattle.column_trie_insert.specs.Insert.{Inserts}
use Rattle.column_trie_insert.specs.declared.Inserted.{Inserted}
use Rattle.column_trie_remove.specs.Remove.{without, Removes}
use Rattle.column_trie_remove.specs.declared.Removed.{Removed}
use Rattle.column_trie_remove.proofs.Rest.{without_asc}
use Rattle.insert_laws.proofs.Laws.{Table, insert_leaves_the_layers_of_the_set_of_the_old_rows_and_the_new_one, insert_stores_the_layers_over_the_pool, undamaged_before}
use Rattle.removal_laws.proofs.Exactly.{each_number_of_a_removal_is_given_exactly_when}
use Rattle.removal_laws.proofs.Laws.{removal_leaves_the_layers_of_the_remaining_rows, removal_stores_the_layers_over_the_pool}

-- Two tables, one that a call left in place of t and one that was built: the same layers; in the same place over the same pool every word is the same; and
-- of the same kinds also the header.
pub record Alike (pool : List ℕ) (t : ColumnTrie) (lent : List ℕ) (start capacity : ℕ) (kinds : List Bool) (pool' : List ℕ) (left : ColumnTrie) (lent' : List ℕ) (built : ColumnTrie) : Type 0 where
  pub layers : layers_in pool' left ≡ layers_in lent' built
  pub header : t.start ≡ start → t.capacity ≡ capacity → t.grade ≡ kept_kinds t.arity kinds → left ≡ built
  pub words : t.start ≡ start → t.capacity ≡ capacity → pool ≡ lent → pool' ≡ lent'

-- the old rows and the new one, as a list and as a set
put_members : (r : Row) (rows : List Row) → Members (r ∷ rows) (put r rows)
put_members r rows q = (
  λ m. ⊎_elim (λ (e : q ≡ r). subst (λ (x : Row). x ∈ put r rows) (sym e) (put_self r rows)) (λ (n : q ∈ rows). put_old r rows n) (in_cons m),
  λ m. ⊎_elim (λ (e : q ≡ r). hd e) (λ (n : q ∈ rows). tl n) (in_put r rows m),
)

-- rows that a call left in t's place, and a build over the same
module _
    {pool pool' : List ℕ} {t left : ColumnTrie} {rows : List Row} (given lent : List ℕ) (start capacity : ℕ) (kinds : List Bool) {given' lent' : List ℕ} {b : Built} (l : Table t.start t.arity t.capacity t.grade rows pool' left)
    (w : pool' ≡ store t.start t.capacity (layers_of t.arity rows) pool) (d : Builds given lent start t.arity capacity kinds given' lent' b) (z : b.number ≡ 0) (same : rows ≡ as_set (rows_given t.arity given)) where
  alike : Alike pool t lent start capacity kinds pool' left lent' b.table
  alike =
      record {
        layers = l.layers_are ∙ ap (layers_of t.arity) same ∙ sym (build_leaves_the_layers_of_the_set_of_rows given lent start t.arity capacity kinds d z).layers;
        header = λ e f g. l.header_is ∙ (λ j. table_of (e j) t.arity (f j) (g j) (same j)) ∙ sym (built_table given lent start t.arity capacity kinds d z);
        words = λ e f g. w ∙ (λ j. store (e j) (f j) (layers_of t.arity (same j)) (g j)) ∙ sym (built_pool given lent start t.arity capacity kinds d z);
      }

pub an_insert_leaves_what_a_build_over_the_old_rows_and_the_new_one_leaves :
    {pool pool' : List ℕ} {t : ColumnTrie} {tuple : Row} {i : Inserted} (given lent : List ℕ) (start capacity : ℕ) (kinds : List Bool) {given' lent' : List ℕ} {b : Built} → Whole t → Inserts pool pool' t tuple i → i.number ≡ 0 →
    Builds given lent start t.arity capacity kinds given' lent' b → b.number ≡ 0 → Members (rows_given t.arity given) (tuple ∷ rows_in pool t) → Alike pool t lent start capacity kinds pool' i.table lent' b.table
an_insert_leaves_what_a_build_over_the_old_rows_and_the_new_one_leaves {pool} {pool'} {t} {tuple} {i} given lent start capacity kinds o s y d z m =
    alike given lent start capacity kinds (insert_leaves_the_layers_of_the_set_of_the_old_rows_and_the_new_one o s y) (insert_stores_the_layers_over_the_pool o s y) d z
    (sym (as_set_is (put_asc tuple (holds o (undamaged_before o s y)).asc) (λ q. (λ n. (put_members tuple (rows_in pool t) q).0 ((m q).0 n), λ n. (m q).1 ((put_members tuple (rows_in pool t) q).1 n)))))

-- "the layers afterwards are those of a build over the remaining rows"
pub a_removal_leaves_what_a_build_over_the_remaining_rows_leaves :
    {pool pool' : List ℕ} {t : ColumnTrie} {tuple : Row} {x : Removed} (given lent : List ℕ) (start capacity : ℕ) (kinds : List Bool) {given' lent' : List ℕ} {b : Built} → Whole t → Removes pool pool' t tuple x → x.number ≡ 0 →
    Builds given lent start t.arity capacity kinds given' lent' b → b.number ≡ 0 → Members (rows_given t.arity given) (without tuple (rows_in pool t)) → Alike pool t lent start capacity kinds pool' x.table lent' b.table
a_removal_leaves_what_a_build_over_the_remaining_rows_leaves {pool} {pool'} {t} {tuple} {x} given lent start capacity kinds o s y d z m =
    let u = ((each_number_of_a_removal_is_given_exactly_when s).accepted.0 y).0 in
    alike given lent start capacity kinds (removal_leaves_the_layers_of_the_remaining_rows o s y) (removal_stores_the_layers_over_the_pool o s y) d z
    (sym (as_set_is (without_asc tuple (holds o u).asc) m))
