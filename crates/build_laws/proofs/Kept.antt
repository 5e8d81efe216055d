-- "Words past a length keep what they held. No call changes a pool word outside its table's own": so does a build, accepted or refused, by its
-- contract.
use Prim.Native.Nat.{ℕ}
use mathlib.Core.Path.{◌≡◌, sym, subst, subst₂}
use mathlib.Core.Bool.{Bool}
use mathlib.Core.List.{List}
use native.Mathlib.Omega.{arith}
use native.Mathlib.Decide.{ℕ_discrete}
use lib.ListN.{length}
use Rattle.relation.specs.Order.{Row}
use Rattle.relation.specs.Rows.{as_set}
use Rattle.relation.specs.Layers.{layers_of}
use Rattle.relation.proofs.Sorting.{as_set_asc}
use Rattle.relation.proofs.Tables.{layers_undamaged}
use Rattle.column_trie.specs.Kept.{Kept}
use Rattle.column_trie.proofs.Kept.{stored_kept, unchanged_kept}
use Rattle.from_sorted.specs.Given.{rows_given}
use Rattle.from_sorted.specs.Answer.{kept_kinds}
use Rattle.column_trie_build.specs.Build.{Builds}
use Rattle.from_sorted.specs.declared.Built.{Built}
use Rattle.build_laws.proofs.Untouched.{a_refused_build_leaves_everything_untouched}
use Rattle.build_laws.proofs.Leaves.{set_width, set_few, built_accepted, built_pool, built_table}

pub build_keeps_every_other_word : (given lent : List ℕ) (start arity capacity : ℕ) (kinds : List Bool) {given' lent' : List ℕ} {r : Built} → Builds given lent start arity capacity kinds given' lent' r → Kept lent lent' r.table
build_keeps_every_other_word given lent start arity capacity kinds {given'} {lent'} {r} b = go (ℕ_discrete r.number 0)
  where
    rows : List Row
    rows = as_set (rows_given arity given)

    built : r.number ≡ 0 → Kept lent lent' r.table
    built z =
        let a = built_accepted given lent start arity capacity kinds b z in
        let u = layers_undamaged capacity a.positive (as_set_asc (rows_given arity given)) (set_width given lent start arity capacity a) (set_few given lent start arity capacity a) in
        subst₂ (Kept lent) (sym (built_pool given lent start arity capacity kinds b z)) (sym (built_table given lent start arity capacity kinds b z))
        (stored_kept start arity capacity (kept_kinds arity kinds) (layers_of arity rows) (length rows) lent u.arity a.few (λ d h. u.room d (omega (arith, u.arity))))

    go : Dec (r.number ≡ 0) → Kept lent lent' r.table
    go (yes z) = built z
    go (no n) = subst (λ (p : List ℕ). Kept lent p r.table) (sym (a_refused_build_leaves_everything_untouched given lent start arity capacity kinds b n).words) (unchanged_kept lent r.table)
