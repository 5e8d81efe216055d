-- What a removal leaves, by its contract: any two outcomes that it allows are equal, an accepted tuple leaves the layers of the remaining rows, and the
-- kinds stay.
use Prim.Native.Nat.{ℕ, ◌+◌, ◌-◌, ◌≤◌}
use mathlib.Core.Path.{◌≡◌, refl, sym, ap, subst₂, ◌∙◌}
use mathlib.Core.Bool.{Bool, true, false}
use mathlib.Core.List.{List}
use native.Mathlib.Omega.{arith}
use lib.ListN.{length}
use Rattle.relation.specs.Order.{Row, pick}
use Rattle.relation.specs.Lists.{◌∈◌}
use Rattle.relation.specs.Rows.{Asc, Width}
use Rattle.relation.specs.Layers.{layers_of}
use Rattle.relation.proofs.Tests.{not_both}
use Rattle.relation.proofs.Insert.{insert_count}
use Rattle.relation.proofs.Tables.{Relation, layers_count, every_undamaged_table_is_what_a_build_of_its_own_rows_leaves}
use Rattle.column_trie.specs.Pool.{store}
use Rattle.column_trie.specs.Table.{refilled, layers_in, rows_in, Undamaged}
use Rattle.column_trie.specs.declared.ColumnTrie.{ColumnTrie}
use Rattle.column_trie.proofs.Layers.{Whole}
use Rattle.column_trie.proofs.Damage.{told_undamaged}
use Rattle.column_trie.proofs.Stored.{header_whole}
use Rattle.column_trie.proofs.Tables.{holds, stored}
use Rattle.column_trie_path.specs.Known.{known}
use Rattle.column_trie_path.proofs.Known.{in_known, known_in}
use Rattle.insert_laws.proofs.Laws.{Table, table_of_lem}
use Rattle.column_trie_remove.specs.declared.Removed.{Removed}
use Rattle.column_trie_remove.specs.Remove.{without, takes_out, Removes}
use Rattle.column_trie_remove.proofs.Rest.{without_asc, without_width, without_absent, put_back, not_there}
use Rattle.column_trie_remove.proofs.Removes.{takes_by}
use Rattle.removal_laws.proofs.Exactly.{each_number_of_a_removal_is_given_exactly_when}

-- any two outcomes that the contract allows are equal
pub determined : {pool p q : List ℕ} {t : ColumnTrie} {tuple : Row} {r s : Removed} → Removes pool p t tuple r → Removes pool q t tuple s → (r ≡ s) × (p ≡ q)
determined x y =
    let a = x.number ∙ sym y.number in
    let b = x.was_there ∙ sym y.was_there in
    let c = x.table ∙ sym y.table in
    (λ i. record { number = a i; was_there = b i; table = c i }, x.words ∙ sym y.words)

-- the remaining rows fit where the rows did
pub record Fits (pool : List ℕ) (t : ColumnTrie) (tuple : Row) : Type 0 where
  pub asc : Asc (without tuple (rows_in pool t))
  pub width : Width t.arity (without tuple (rows_in pool t))
  pub fewer : tuple ∈ rows_in pool t → length (rows_in pool t) ≡ length (without tuple (rows_in pool t)) + 1
  pub room : length (without tuple (rows_in pool t)) ≤ t.capacity

pub rest_fits : {pool : List ℕ} {t : ColumnTrie} (tuple : Row) → Undamaged pool t → Fits pool t tuple
rest_fits {pool} {t} tuple u =
    record {
      asc = without_asc tuple own.asc;
      width = without_width tuple own.width;
      fewer = fewer;
      room = go (known (rows_in pool t) tuple) refl;
    }
  where
    own : Relation t.arity (layers_in pool t) t.tuple_count
    own = every_undamaged_table_is_what_a_build_of_its_own_rows_leaves u.arity.0 u.layers

    all : length (rows_in pool t) ≤ t.capacity
    all = omega (arith, own.counted, u.layers.counted, (u.layers.room (t.arity - 1) (omega (arith, u.arity.0))).0)

    fewer : tuple ∈ rows_in pool t → length (rows_in pool t) ≡ length (without tuple (rows_in pool t)) + 1
    fewer m =
        let rest = without tuple (rows_in pool t) in
        omega (arith, ap length (put_back own.asc m), insert_count t.arity rest tuple (without_width tuple own.width) (own.width tuple m) (not_there tuple (rows_in pool t)))

    go : (b : Bool) → known (rows_in pool t) tuple ≡ b → length (without tuple (rows_in pool t)) ≤ t.capacity
    go true e = omega (arith, all, fewer (known_in (rows_in pool t) tuple e))
    go false e = omega (arith, all, ap length (without_absent tuple own.asc (λ m. not_both (known (rows_in pool t) tuple) (in_known m) e)))

-- An accepted tuple, there or not, leaves the header and, over the pool, the layers of the remaining rows.
module _ {pool pool' : List ℕ} {t : ColumnTrie} {tuple : Row} {r : Removed} (o : Whole t) (s : Removes pool pool' t tuple r) (z : r.number ≡ 0) where
  accepted : Undamaged pool t × (length tuple ≡ t.arity)
  accepted = (each_number_of_a_removal_is_given_exactly_when s).accepted.0 z

  takes : takes_out pool t tuple ≡ known (rows_in pool t) tuple
  takes = takes_by pool t tuple (told_undamaged pool t accepted.0) accepted.1

  -- an absent one changes nothing, and the rows without it are the rows
  same_rows : known (rows_in pool t) tuple ≡ false → without tuple (rows_in pool t) ≡ rows_in pool t
  same_rows e = without_absent tuple (holds o accepted.0).asc (λ m. not_both (known (rows_in pool t) tuple) (in_known m) e)

  left_table : (k : Bool) → known (rows_in pool t) tuple ≡ k → r.table ≡ pick k (refilled t (without tuple (rows_in pool t))) t
  left_table k e = s.table ∙ ap (λ (b : Bool). pick b (refilled t (without tuple (rows_in pool t))) t) (takes ∙ e)

  left_pool : (k : Bool) → known (rows_in pool t) tuple ≡ k → pool' ≡ pick k (store t.start t.capacity (layers_of t.arity (without tuple (rows_in pool t))) pool) pool
  left_pool k e = s.words ∙ ap (λ (b : Bool). pick b (store t.start t.capacity (layers_of t.arity (without tuple (rows_in pool t))) pool) pool) (takes ∙ e)

  pub removal_stores_the_layers_over_the_pool : pool' ≡ store t.start t.capacity (layers_of t.arity (without tuple (rows_in pool t))) pool
  removal_stores_the_layers_over_the_pool = go (known (rows_in pool t) tuple) refl
    where
      go : (k : Bool) → known (rows_in pool t) tuple ≡ k → pool' ≡ store t.start t.capacity (layers_of t.arity (without tuple (rows_in pool t))) pool
      go true e = left_pool true e
      go false e =
          left_pool false e ∙ sym (holds o accepted.0).words
          ∙ ap (λ (rows : List Row). store t.start t.capacity (layers_of t.arity rows) pool) (sym (same_rows e))

  pub removal_leaves_the_layers_of_the_remaining_rows : Table t.start t.arity t.capacity t.grade (without tuple (rows_in pool t)) pool' r.table
  removal_leaves_the_layers_of_the_remaining_rows = go (known (rows_in pool t) tuple) refl
    where
      rows : List Row
      rows = without tuple (rows_in pool t)

      Left : List ℕ → ColumnTrie → Type 0
      Left = Table t.start t.arity t.capacity t.grade rows

      go : (k : Bool) → known (rows_in pool t) tuple ≡ k → Left pool' r.table
      go true e =
          let u = accepted.0 in
          let f = rest_fits tuple u in
          let k = stored t.start t.arity t.capacity t.grade rows pool u.arity.0 u.arity.1 u.capacity.0 u.capacity.1 u.fits u.plain f.asc f.width f.room in
          let w = header_whole t.start t.arity t.capacity t.grade (layers_of t.arity rows) (length rows) (layers_count t.arity 0 rows) u.arity.1 in
          subst₂ Left (sym (left_pool true e)) (sym (left_table true e)) (table_of_lem w k.undamaged k.rows_back)
      go false e = subst₂ Left (sym (left_pool false e)) (sym (left_table false e)) (table_of_lem o accepted.0 (sym (same_rows e)))

-- ---- the kinds stay: accepted or refused

pub a_removal_keeps_the_kinds : {pool pool' : List ℕ} {t : ColumnTrie} {tuple : Row} {r : Removed} → Removes pool pool' t tuple r → r.table.grade ≡ t.grade
a_removal_keeps_the_kinds {pool} {t = t} {tuple} s = ap (λ (x : ColumnTrie). x.grade) s.table ∙ go (takes_out pool t tuple)
  where
    go : (b : Bool) → (pick b (refilled t (without tuple (rows_in pool t))) t).grade ≡ t.grade
    go true = refl
    go false = refl
