-- "Words past a length keep what they held. No call changes a pool word outside its table's own": so does a removal, accepted or refused, and the lengths are
-- the new ones: "words past the new lengths hold what they held when the removal was called".
use Prim.Native.Nat.{ℕ}
use mathlib.Core.Path.{◌≡◌, refl, sym, ap, subst, subst₂, ◌∙◌}
use mathlib.Core.Bool.{Bool, true, false}
use mathlib.Core.List.{List}
use native.Mathlib.Omega.{arith}
use lib.ListN.{length}
use Rattle.relation.specs.Order.{Row, pick}
use Rattle.relation.specs.Layers.{layers_of}
use Rattle.relation.proofs.Tables.{layers_count, layers_undamaged}
use Rattle.column_trie.specs.Pool.{store}
use Rattle.column_trie.specs.Table.{refilled, rows_in}
use Rattle.column_trie.specs.Kept.{Kept}
use Rattle.column_trie.specs.declared.ColumnTrie.{ColumnTrie}
use Rattle.column_trie.proofs.Kept.{stored_kept, unchanged_kept}
use Rattle.column_trie_remove.specs.declared.Removed.{Removed}
use Rattle.column_trie_remove.specs.Remove.{without, takes_out, Removes}
use Rattle.removal_laws.proofs.Exactly.{each_number_of_a_removal_is_given_exactly_when}
use Rattle.removal_laws.proofs.Laws.{rest_fits}

pub removal_keeps_every_other_word : {pool pool' : List ℕ} {t : ColumnTrie} {tuple : Row} {r : Removed} → Removes pool pool' t tuple r → Kept pool pool' r.table
removal_keeps_every_other_word {pool} {pool'} {t} {tuple} {r} s = go (takes_out pool t tuple) refl
  where
    rows : List Row
    rows = without tuple (rows_in pool t)

    words : (b : Bool) → takes_out pool t tuple ≡ b → pool' ≡ pick b (store t.start t.capacity (layers_of t.arity rows) pool) pool
    words b e = s.words ∙ ap (λ (x : Bool). pick x (store t.start t.capacity (layers_of t.arity rows) pool) pool) e

    table : takes_out pool t tuple ≡ true → r.table ≡ refilled t rows
    table e = s.table ∙ ap (λ (x : Bool). pick x (refilled t rows) t) e

    go : (b : Bool) → takes_out pool t tuple ≡ b → Kept pool pool' r.table
    go true e =
        let x = each_number_of_a_removal_is_given_exactly_when s in
        let u = (x.accepted.0 (x.was_there.0 (s.was_there ∙ e)).0).0 in
        let f = rest_fits tuple u in
        let n = layers_count t.arity 0 rows in
        let v = layers_undamaged t.capacity u.arity.0 f.asc f.width f.room in
        subst₂ (Kept pool) (sym (words true e)) (sym (table e))
        (stored_kept t.start t.arity t.capacity t.grade (layers_of t.arity rows) (length rows) pool n u.arity.1 (λ d h. v.room d (omega arith)))
    go false e = subst (λ (p : List ℕ). Kept pool p r.table) (sym (words false e)) (unchanged_kept pool r.table)
