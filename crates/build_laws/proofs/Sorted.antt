-- "Rows come as lent words and are sorted in place, lexicographic, duplicates kept": so does an accepted build, by its contract.
use Prim.Native.Nat.{ℕ, suc, ◌*◌}
use mathlib.Core.Path.{◌≡◌, refl, sym, ap, ◌∙◌, subst}
use mathlib.Core.Bool.{Bool, true, false}
use mathlib.Core.List.{List, [], ◌∷◌}
use native.Mathlib.Omega.{arith}
use native.Mathlib.Nat.{div-add-mod'}
use lib.ListN.{length}
use Rattle.relation.specs.Order.{Row, pick, before}
use Rattle.relation.specs.Rows.{Sorted, Perm, place, sort, flat}
use Rattle.relation.proofs.Sorting.{sort_sorted, sort_perm}
use Rattle.from_sorted.specs.Given.{rows_given}
use Rattle.column_trie_build.specs.Build.{build_number, Builds}
use Rattle.from_sorted.specs.declared.Built.{Built}
use Rattle.column_trie_build.proofs.Numbers.{Accepted}
use Rattle.from_sorted.proofs.Given.{length_given, width_given, width_sort, length_flat, given_sorted}
use Rattle.from_sorted.proofs.Answer.{if_built}
use Rattle.build_laws.proofs.Leaves.{zero_number, built_accepted}

-- as many words as before, and the rows that they are: those given, each as often, in order
pub record SortedInPlace (arity : ℕ) (given given' : List ℕ) : Type 0 where
  pub size : length given' ≡ length given
  pub sorted : Sorted (rows_given arity given')
  pub same_rows : Perm (rows_given arity given) (rows_given arity given')

length_place : (r : Row) (qs : List Row) → length (place r qs) ≡ suc (length qs)
unfolding place
length_place r [] = refl
length_place r (q ∷ qs) = go (before r q) (length_place r qs)
  where
    go : (b : Bool) → length (place r qs) ≡ suc (length qs) → length (pick b (r ∷ (q ∷ qs)) (q ∷ place r qs)) ≡ suc (suc (length qs))
    go true h = refl
    go false h = ap suc h

length_sort : (rows : List Row) → length (sort rows) ≡ length rows
unfolding sort
length_sort [] = refl
length_sort (r ∷ rs) = length_place r (sort rs) ∙ ap suc (length_sort rs)

pub an_accepted_build_sorts_the_rows_in_place :
    (given lent : List ℕ) (start arity capacity : ℕ) (kinds : List Bool) {given' lent' : List ℕ} {r : Built} → Builds given lent start arity capacity kinds given' lent' r → r.number ≡ 0 → SortedInPlace arity given given'
an_accepted_build_sorts_the_rows_in_place given lent start arity capacity kinds {given'} b z =
    subst (SortedInPlace arity given) (sym left)
    (record {
      size =
          length_flat (sort rows) (width_sort rows (width_given arity given))
          ∙ omega (arith, ap (λ (n : ℕ). n * arity) (length_sort rows ∙ length_given arity given), div-add-mod' (length given) arity, a.whole);
      sorted = subst Sorted (sym back) (sort_sorted rows);
      same_rows = subst (Perm rows) (sym back) (sort_perm rows);
    })
  where
    a : Accepted (length given) (length lent) start arity capacity
    a = built_accepted given lent start arity capacity kinds b z

    rows : List Row
    rows = rows_given arity given

    left : given' ≡ flat (sort rows)
    left = b.rows ∙ if_built (build_number (length given) (length lent) start arity capacity) (flat (sort rows)) given (zero_number given lent start arity capacity kinds b z)

    back : rows_given arity (flat (sort rows)) ≡ sort rows
    back = given_sorted arity given a.positive
