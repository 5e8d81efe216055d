-- A refused build gives no table, its header is all zeros, and it leaves rows and pool untouched.
use Prim.Native.Nat.{ℕ}
use mathlib.Core.Path.{◌≡◌, ap, ◌∙◌}
use mathlib.Core.Bool.{Bool}
use mathlib.Core.List.{List}
use lib.ListN.{length}
use Rattle.relation.specs.Rows.{flat, sort, as_set}
use Rattle.relation.specs.Layers.{layers_of}
use Rattle.column_trie.specs.Pool.{store}
use Rattle.column_trie.specs.Table.{empty_table, table_of}
use Rattle.from_sorted.specs.Given.{rows_given}
use Rattle.from_sorted.specs.Answer.{kept_kinds}
use Rattle.column_trie_build.specs.Build.{build_number, Builds}
use Rattle.from_sorted.specs.declared.Built.{Built}
use Rattle.from_sorted.proofs.Answer.{if_refused}

pub record Untouched (given lent given' lent' : List ℕ) (r : Built) : Type 0 where
  pub table : r.table ≡ empty_table 0 0 0
  pub rows : given' ≡ given
  pub words : lent' ≡ lent

pub a_refused_build_leaves_everything_untouched :
    (given lent : List ℕ) (start arity capacity : ℕ) (kinds : List Bool) {given' lent' : List ℕ} {r : Built} → Builds given lent start arity capacity kinds given' lent' r → (r.number ≡ 0 → ⊥) → Untouched given lent given' lent' r
a_refused_build_leaves_everything_untouched given lent start arity capacity kinds {r = r} b n =
    record {
      table = ap (λ (x : Built). x.table) b.answer ∙ if_refused k (table_of start arity capacity (kept_kinds arity kinds) (as_set (rows_given arity given))) (empty_table 0 0 0) z;
      rows = b.rows ∙ if_refused k (flat (sort (rows_given arity given))) given z;
      words = b.pool ∙ if_refused k (store start capacity (layers_of arity (as_set (rows_given arity given))) lent) lent z;
    }
  where
    k : ℕ
    k = build_number (length given) (length lent) start arity capacity

    z : k ≡ 0 → ⊥
    z e = n (ap (λ (x : Built). x.number) b.answer ∙ e)
