-- The two outcomes of a build, by its number: refused, and built.
use Prim.Native.Nat.{ℕ, ◌/◌}
use mathlib.Core.Path.{◌≡◌, refl, sym, ap, ◌∙◌, subst}
use mathlib.Core.Bool.{Bool}
use mathlib.Core.List.{List}
use native.Mathlib.Omega.{arith}
use lib.ListN.{length}
use Rattle.relation.specs.Rows.{Sorted, flat, sort, as_set}
use Rattle.relation.specs.Layers.{layers_of}
use Rattle.relation.proofs.Sorting.{sort_sorted, sort_members, as_set_cong}
use Rattle.column_trie.specs.Pool.{store}
use Rattle.column_trie.specs.Table.{empty_table, table_of}
use Rattle.column_trie.specs.declared.ColumnTrie.{ColumnTrie}
use Rattle.from_sorted.specs.Given.{rows_given}
use Rattle.from_sorted.specs.Answer.{unless_refused, kept_kinds}
use Rattle.column_trie_build.specs.Build.{build_number, Builds}
use Rattle.from_sorted.specs.Push.{Filling}
use Rattle.column_trie_build.proofs.Numbers.{Accepted}
use Rattle.from_sorted.proofs.Answer.{if_built, if_refused, regraded}
use Rattle.from_sorted.proofs.Given.{length_given, given_sorted}

module _ (given lent : List ℕ) (start arity capacity : ℕ) (kinds : List Bool) {n : ℕ} {t : ColumnTrie} (e : n ≡ build_number (length given) (length lent) start arity capacity) where
  pub builds_refused : (n ≡ 0 → ⊥) → t ≡ empty_table 0 0 0 → Builds given lent start arity capacity kinds given lent (record { number = n; table = t })
  builds_refused h f =
      let k = build_number (length given) (length lent) start arity capacity in
      let z : k ≡ 0 → ⊥ = λ q. h (e ∙ q) in
      let left : t ≡ unless_refused k _ (empty_table 0 0 0) = f ∙ sym (if_refused k _ (empty_table 0 0 0) z) in
      record {
        answer = λ i. record { number = e i; table = left i };
        rows = sym (if_refused k _ given z);
        pool = sym (if_refused k _ lent z);
      }

  pub builds_built : {given' lent' : List ℕ} → n ≡ 0 → t ≡ table_of start arity capacity (kept_kinds arity kinds) (as_set (rows_given arity given)) → given' ≡ flat (sort (rows_given arity given)) → lent' ≡ store start capacity (layers_of arity (as_set (rows_given arity given))) lent → Builds given lent start arity capacity kinds given' lent' (record { number = n; table = t })
  builds_built h f g p =
      let k = build_number (length given) (length lent) start arity capacity in
      let z : k ≡ 0 = sym e ∙ h in
      let left : t ≡ unless_refused k _ (empty_table 0 0 0) = f ∙ sym (if_built k _ (empty_table 0 0 0) z) in
      record {
        answer = λ i. record { number = e i; table = left i };
        rows = g ∙ sym (if_built k _ given z);
        pool = p ∙ sym (if_built k _ lent z);
      }

-- an accepted build's table, empty, and its rows, once they are sorted
module _ (given : List ℕ) {given' : List ℕ} {len start arity capacity : ℕ} (a : Accepted (length given) len start arity capacity) (e : given' ≡ flat (sort (rows_given arity given))) where
  sorted_rows : rows_given arity given' ≡ sort (rows_given arity given)
  sorted_rows = ap (rows_given arity) e ∙ given_sorted arity given a.positive

  -- they are the same set
  pub set_of_rows : as_set (rows_given arity given') ≡ as_set (rows_given arity given)
  set_of_rows = ap as_set sorted_rows ∙ as_set_cong (sort (rows_given arity given)) (rows_given arity given) (sort_members (rows_given arity given))

  pub filling : length given' ≡ length given → (kinds : List Bool) → Filling len (regraded (empty_table start arity capacity) kinds) (rows_given arity given')
  filling l kinds = record {
    positive = a.positive;
    few = a.few;
    small = a.small;
    fits = a.fits;
    room = omega (arith, length_given arity given', ap (λ (n : ℕ). n / arity) l, a.room);
    sorted = subst Sorted (sym sorted_rows) (sort_sorted (rows_given arity given));
    empty = refl;
  }
