-- A refused insert changes nothing, and so does a duplicate, which is accepted also in a table at capacity.
use Prim.Native.Nat.{ℕ}
use mathlib.Core.Path.{◌≡◌, refl, ap, ◌∙◌}
use mathlib.Core.Bool.{Bool, true, false}
use mathlib.Core.Logic.{inl}
use mathlib.Core.List.{List}
use Rattle.relation.specs.Order.{Row, pick}
use Rattle.relation.specs.Lists.{◌∈◌}
use Rattle.relation.specs.Rows.{put}
use Rattle.relation.specs.Layers.{layers_of}
use Rattle.relation.proofs.Tables.{every_undamaged_table_is_what_a_build_of_its_own_rows_leaves}
use Rattle.column_trie.specs.Pool.{store}
use Rattle.column_trie.specs.Table.{refilled, rows_in, Undamaged}
use Rattle.column_trie.specs.declared.ColumnTrie.{ColumnTrie}
use Rattle.column_trie_insert.specs.declared.Inserted.{Inserted}
use Rattle.column_trie_insert.specs.Insert.{takes_in, Inserts}
use Rattle.insert_laws.proofs.Exactly.{each_number_of_an_insert_is_given_exactly_when}

pub record Untouched (pool pool' : List ℕ) (t : ColumnTrie) (r : Inserted) : Type 0 where
  pub not_new : r.is_new ≡ false
  pub table : r.table ≡ t
  pub words : pool' ≡ pool

module _ {pool pool' : List ℕ} {t : ColumnTrie} {tuple : Row} {r : Inserted} (s : Inserts pool pool' t tuple r) where
  -- what isn't new changes nothing
  pub only_a_new_tuple_changes_anything : (r.is_new ≡ true → ⊥) → Untouched pool pool' t r
  only_a_new_tuple_changes_anything n = go (takes_in pool t tuple) refl
    where
      go : (b : Bool) → takes_in pool t tuple ≡ b → Untouched pool pool' t r
      go true e = absurd (n (s.is_new ∙ e))
      go false e =
          record {
            not_new = s.is_new ∙ e;
            table = s.table ∙ ap (λ (b : Bool). pick b (refilled t (put tuple (rows_in pool t))) t) e;
            words = s.words ∙ ap (λ (b : Bool). pick b (store t.start t.capacity (layers_of t.arity (put tuple (rows_in pool t))) pool) pool) e;
          }

  pub a_refused_insert_leaves_everything_untouched : (r.number ≡ 0 → ⊥) → Untouched pool pool' t r
  a_refused_insert_leaves_everything_untouched n = only_a_new_tuple_changes_anything (λ e. n ((each_number_of_an_insert_is_given_exactly_when s).is_new.0 e).0)

  -- no word of a capacity: a table at capacity takes it too
  pub a_duplicate_is_accepted_and_changes_nothing : Undamaged pool t → tuple ∈ rows_in pool t → (r.number ≡ 0) × Untouched pool pool' t r
  a_duplicate_is_accepted_and_changes_nothing u m =
      let x = each_number_of_an_insert_is_given_exactly_when s in
      let own = every_undamaged_table_is_what_a_build_of_its_own_rows_leaves u.arity.0 u.layers in
      (x.accepted.1 ((u, own.width tuple m), inl m), only_a_new_tuple_changes_anything (λ e. (x.is_new.0 e).1 m))
