-- A refused removal changes nothing, and neither does one of an absent row.
use Prim.Native.Nat.{ℕ}
use mathlib.Core.Path.{◌≡◌, refl, ap, ◌∙◌}
use mathlib.Core.Bool.{Bool, true, false}
use mathlib.Core.List.{List}
use lib.ListN.{length}
use Rattle.relation.specs.Order.{Row, pick}
use Rattle.relation.specs.Lists.{◌∈◌}
use Rattle.relation.specs.Layers.{layers_of}
use Rattle.column_trie.specs.Pool.{store}
use Rattle.column_trie.specs.Table.{refilled, rows_in, Undamaged}
use Rattle.column_trie.specs.declared.ColumnTrie.{ColumnTrie}
use Rattle.column_trie_remove.specs.declared.Removed.{Removed}
use Rattle.column_trie_remove.specs.Remove.{without, takes_out, Removes}
use Rattle.removal_laws.proofs.Exactly.{each_number_of_a_removal_is_given_exactly_when}

pub record Untouched (pool pool' : List ℕ) (t : ColumnTrie) (r : Removed) : Type 0 where
  pub not_there : r.was_there ≡ false
  pub table : r.table ≡ t
  pub words : pool' ≡ pool

module _ {pool pool' : List ℕ} {t : ColumnTrie} {tuple : Row} {r : Removed} (s : Removes pool pool' t tuple r) where
  -- what was not there changes nothing
  pub only_a_row_that_was_there_changes_anything : (r.was_there ≡ true → ⊥) → Untouched pool pool' t r
  only_a_row_that_was_there_changes_anything n = go (takes_out pool t tuple) refl
    where
      go : (b : Bool) → takes_out pool t tuple ≡ b → Untouched pool pool' t r
      go true e = absurd (n (s.was_there ∙ e))
      go false e =
          record {
            not_there = s.was_there ∙ e;
            table = s.table ∙ ap (λ (b : Bool). pick b (refilled t (without tuple (rows_in pool t))) t) e;
            words = s.words ∙ ap (λ (b : Bool). pick b (store t.start t.capacity (layers_of t.arity (without tuple (rows_in pool t))) pool) pool) e;
          }

  pub a_refused_removal_leaves_everything_untouched : (r.number ≡ 0 → ⊥) → Untouched pool pool' t r
  a_refused_removal_leaves_everything_untouched n = only_a_row_that_was_there_changes_anything (λ e. n ((each_number_of_a_removal_is_given_exactly_when s).was_there.0 e).0)

  -- "an absent one changes nothing"
  pub an_absent_row_is_accepted_and_changes_nothing : Undamaged pool t → length tuple ≡ t.arity → (tuple ∈ rows_in pool t → ⊥) → (r.number ≡ 0) × Untouched pool pool' t r
  an_absent_row_is_accepted_and_changes_nothing u l n =
      let x = each_number_of_a_removal_is_given_exactly_when s in
      (x.accepted.1 (u, l), only_a_row_that_was_there_changes_anything (λ e. n (x.was_there.0 e).1))
