-- "Words past a length keep what they held. No call changes a pool word outside its table's own": so does an insert, accepted or refused, by its
-- contract.
use Prim.Native.Nat.{ℕ}
use mathlib.Core.Path.{◌≡◌, refl, sym, ap, subst, subst₂, ◌∙◌}
use mathlib.Core.Bool.{Bool, true, false, not}
use mathlib.Core.List.{List}
use native.Mathlib.Omega.{arith}
use lib.ListN.{length}
use lib.Dec.{eqb}
use borrow.Author.Tests.{eqb-true}
use Rattle.relation.specs.Order.{Row, pick}
use Rattle.relation.specs.Rows.{put}
use Rattle.relation.specs.Layers.{layers_of}
use Rattle.relation.proofs.Tests.{and_left, and_right}
use Rattle.relation.proofs.Tables.{layers_count, layers_undamaged}
use Rattle.column_trie.specs.Pool.{store}
use Rattle.column_trie.specs.Table.{refilled, rows_in}
use Rattle.column_trie.specs.Kept.{Kept}
use Rattle.column_trie.specs.declared.ColumnTrie.{ColumnTrie}
use Rattle.column_trie.proofs.Kept.{stored_kept, unchanged_kept}
use Rattle.column_trie_insert.specs.declared.Inserted.{Inserted}
use Rattle.column_trie_insert.specs.Insert.{known, insert_number, takes_in, Inserts}
use Rattle.insert_laws.proofs.Laws.{Fits, new_fits}

-- what is taken in was accepted and is new, so it fits
taken_fits : (pool : List ℕ) (t : ColumnTrie) (tuple : Row) → takes_in pool t tuple ≡ true → Fits pool t tuple
unfolding takes_in
taken_fits pool t tuple e =
    let k = known (rows_in pool t) tuple in
    let b = eqb (insert_number pool t tuple) 0 in
    new_fits pool t tuple (eqb-true (insert_number pool t tuple) 0 (and_left b (not k) e)) (unknown k (and_right b (not k) e))
  where
    unknown : (k : Bool) → not k ≡ true → k ≡ false
    unknown true e = sym e
    unknown false e = refl

pub insert_keeps_every_other_word : {pool pool' : List ℕ} {t : ColumnTrie} {tuple : Row} {r : Inserted} → Inserts pool pool' t tuple r → Kept pool pool' r.table
insert_keeps_every_other_word {pool} {pool'} {t} {tuple} {r} s = go (takes_in pool t tuple) refl
  where
    rows : List Row
    rows = put tuple (rows_in pool t)

    words : (b : Bool) → takes_in pool t tuple ≡ b → pool' ≡ pick b (store t.start t.capacity (layers_of t.arity rows) pool) pool
    words b e = s.words ∙ ap (λ (x : Bool). pick x (store t.start t.capacity (layers_of t.arity rows) pool) pool) e

    table : takes_in pool t tuple ≡ true → r.table ≡ refilled t rows
    table e = s.table ∙ ap (λ (x : Bool). pick x (refilled t rows) t) e

    go : (b : Bool) → takes_in pool t tuple ≡ b → Kept pool pool' r.table
    go true e =
        let f = taken_fits pool t tuple e in
        let u = f.undamaged in
        let n = layers_count t.arity 0 rows in
        let v = layers_undamaged t.capacity u.arity.0 f.asc f.width f.room in
        subst₂ (Kept pool) (sym (words true e)) (sym (table e))
        (stored_kept t.start t.arity t.capacity t.grade (layers_of t.arity rows) (length rows) pool n u.arity.1 (λ d h. v.room d (omega arith)))
    go false e = subst (λ (p : List ℕ). Kept pool p r.table) (sym (words false e)) (unchanged_kept pool r.table)
