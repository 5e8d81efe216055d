-- What an insert means: the contract determines everything, an accepted tuple leaves the layers of the set of the old rows and the new one, and the kinds
-- stay.
use Prim.Native.Nat.{ℕ, ◌-◌, ◌≤◌}
use mathlib.Core.Path.{◌≡◌, refl, sym, ap, ap₂, subst₂, ◌∙◌}
use mathlib.Core.Bool.{Bool, true, false, not, ◌&&◌}
use mathlib.Core.List.{List}
use native.Mathlib.Omega.{arith}
use lib.Arith.{lt_of_le-ne}
use lib.ListN.{length}
use lib.Dec.{eqb}
use borrow.Author.Tests.{eqb-true, eq-eqb}
use Rattle.relation.specs.Order.{Row, pick}
use Rattle.relation.specs.Rows.{Asc, Width, put}
use Rattle.relation.specs.Layers.{layers_of}
use Rattle.relation.proofs.Tests.{not_both}
use Rattle.relation.proofs.Sorting.{put_asc, put_known}
use Rattle.relation.proofs.Insert.{insert_count, put_width}
use Rattle.relation.proofs.Tables.{layers_count, every_undamaged_table_is_what_a_build_of_its_own_rows_leaves}
use Rattle.column_trie.specs.Pool.{store}
use Rattle.column_trie.specs.Table.{table_of, refilled, layers_in, rows_in, Undamaged, undamaged}
use Rattle.column_trie.specs.declared.ColumnTrie.{ColumnTrie}
use Rattle.column_trie.proofs.Layers.{Whole}
use Rattle.column_trie.proofs.Damage.{undamaged_told}
use Rattle.column_trie.proofs.Stored.{header_whole}
use Rattle.column_trie.proofs.Tables.{holds, stored}
use Rattle.column_trie_insert.specs.declared.Inserted.{Inserted}
use Rattle.column_trie_insert.specs.Insert.{known, insert_number, takes_in, Inserts}
use Rattle.column_trie_path.proofs.Known.{known_in, in_known}

-- any two outcomes that the contract allows are equal
pub determined : {pool p q : List ℕ} {t : ColumnTrie} {tuple : Row} {r s : Inserted} → Inserts pool p t tuple r → Inserts pool q t tuple s → (r ≡ s) × (p ≡ q)
determined x y =
    let a = x.number ∙ sym y.number in
    let b = x.is_new ∙ sym y.is_new in
    let c = x.table ∙ sym y.table in
    (λ i. record { number = a i; is_new = b i; table = c i }, x.words ∙ sym y.words)

-- what an accepted tuple passed
record Accepted (pool : List ℕ) (t : ColumnTrie) (tuple : Row) : Type 0 where
  sound : undamaged pool t ≡ true
  long : length tuple ≡ t.arity
  room : known (rows_in pool t) tuple ≡ false → t.tuple_count ≡ t.capacity → ⊥

accepted : (pool : List ℕ) (t : ColumnTrie) (tuple : Row) → insert_number pool t tuple ≡ 0 → Accepted pool t tuple
unfolding insert_number
accepted pool t tuple e = go (undamaged pool t) (eqb (length tuple) t.arity) refl refl e
  where
    go : (u l : Bool) → undamaged pool t ≡ u → eqb (length tuple) t.arity ≡ l → ◌≡◌ {A = ℕ} (pick u (pick l (pick (not (known (rows_in pool t) tuple) && eqb t.tuple_count t.capacity) 5 0) 4) 6) 0 → Accepted pool t tuple
    go true true p q z =
        record {
          sound = p;
          long = eqb-true (length tuple) t.arity q;
          room = λ k f. let x : ◌≡◌ {A = ℕ} 5 0 = sym (ap₂ (λ (a b : Bool). pick (not a && b) 5 0) k (eq-eqb t.tuple_count t.capacity f)) ∙ z in omega arith;
        }
    go true false p q z = absurd (omega arith)
    go false l p q z = absurd (omega arith)

-- The table of these rows, at this start, of this arity, capacity and kinds: undamaged, with their layers and their header, and they are read back.
pub record Table (start arity capacity : ℕ) (kinds : List Bool) (rows : List Row) (pool : List ℕ) (t : ColumnTrie) : Type 0 where
  pub whole : Whole t
  pub undamaged : Undamaged pool t
  pub rows_are : rows_in pool t ≡ rows
  pub layers_are : layers_in pool t ≡ layers_of arity rows
  pub header_is : t ≡ table_of start arity capacity kinds rows

-- an undamaged table is that of its rows
pub table_of_lem : {pool : List ℕ} {t : ColumnTrie} {rows : List Row} → Whole t → Undamaged pool t → rows_in pool t ≡ rows → Table t.start t.arity t.capacity t.grade rows pool t
table_of_lem {pool} {t} {rows} o u e =
    let h = holds o u in
    record {
      whole = o;
      undamaged = u;
      rows_are = e;
      layers_are = h.layers ∙ ap (layers_of t.arity) e;
      header_is = h.table ∙ ap (refilled t) e;
    }

-- An accepted tuple that is new fits: the layers of the old rows and the new one are undamaged within the capacity.
pub record Fits (pool : List ℕ) (t : ColumnTrie) (tuple : Row) : Type 0 where
  pub undamaged : Undamaged pool t
  pub asc : Asc (put tuple (rows_in pool t))
  pub width : Width t.arity (put tuple (rows_in pool t))
  pub room : length (put tuple (rows_in pool t)) ≤ t.capacity

pub new_fits : (pool : List ℕ) (t : ColumnTrie) (tuple : Row) → insert_number pool t tuple ≡ 0 → known (rows_in pool t) tuple ≡ false → Fits pool t tuple
new_fits pool t tuple z e =
    let a = accepted pool t tuple z in
    let u = undamaged_told pool t a.sound in
    let own = every_undamaged_table_is_what_a_build_of_its_own_rows_leaves u.arity.0 u.layers in
    let few : t.tuple_count ≤ t.capacity = omega (arith, u.layers.counted, (u.layers.room (t.arity - 1) (omega (arith, u.arity.0))).0) in
    record {
      undamaged = u;
      asc = put_asc tuple own.asc;
      width = put_width tuple own.width a.long;
      room =
          omega (arith, own.counted, lt_of_le-ne few (a.room e), insert_count t.arity (rows_in pool t) tuple own.width a.long (λ m. not_both (known (rows_in pool t) tuple) (in_known m) e));
    }

takes_by : (pool : List ℕ) (t : ColumnTrie) (tuple : Row) → insert_number pool t tuple ≡ 0 → (k : Bool) → known (rows_in pool t) tuple ≡ k → takes_in pool t tuple ≡ not k
unfolding takes_in
takes_by pool t tuple z k e = ap₂ (λ (x : ℕ) (y : Bool). eqb x 0 && not y) z e

-- An accepted tuple, new or not, leaves the header and, over the pool, the layers of the set of the old rows and the new one.
module _ {pool pool' : List ℕ} {t : ColumnTrie} {tuple : Row} {r : Inserted} (o : Whole t) (s : Inserts pool pool' t tuple r) (z : r.number ≡ 0) where
  zero_number : insert_number pool t tuple ≡ 0
  zero_number = sym s.number ∙ z

  pub undamaged_before : Undamaged pool t
  undamaged_before = undamaged_told pool t (accepted pool t tuple zero_number).sound

  -- one that is there changes nothing, and its row among the others is no other set
  same_rows : known (rows_in pool t) tuple ≡ true → put tuple (rows_in pool t) ≡ rows_in pool t
  same_rows e = put_known (holds o undamaged_before).asc (known_in (rows_in pool t) tuple e)

  left_table : (k : Bool) → known (rows_in pool t) tuple ≡ k → r.table ≡ pick (not k) (refilled t (put tuple (rows_in pool t))) t
  left_table k e = s.table ∙ ap (λ (b : Bool). pick b (refilled t (put tuple (rows_in pool t))) t) (takes_by pool t tuple zero_number k e)

  left_pool : (k : Bool) → known (rows_in pool t) tuple ≡ k → pool' ≡ pick (not k) (store t.start t.capacity (layers_of t.arity (put tuple (rows_in pool t))) pool) pool
  left_pool k e =
      s.words ∙ ap (λ (b : Bool). pick b (store t.start t.capacity (layers_of t.arity (put tuple (rows_in pool t))) pool) pool) (takes_by pool t tuple zero_number k e)

  pub insert_stores_the_layers_over_the_pool : pool' ≡ store t.start t.capacity (layers_of t.arity (put tuple (rows_in pool t))) pool
  insert_stores_the_layers_over_the_pool = go (known (rows_in pool t) tuple) refl
    where
      go : (k : Bool) → known (rows_in pool t) tuple ≡ k → pool' ≡ store t.start t.capacity (layers_of t.arity (put tuple (rows_in pool t))) pool
      go true e =
          left_pool true e ∙ sym (holds o undamaged_before).words
          ∙ ap (λ (rows : List Row). store t.start t.capacity (layers_of t.arity rows) pool) (sym (same_rows e))
      go false e = left_pool false e

  pub insert_leaves_the_layers_of_the_set_of_the_old_rows_and_the_new_one : Table t.start t.arity t.capacity t.grade (put tuple (rows_in pool t)) pool' r.table
  insert_leaves_the_layers_of_the_set_of_the_old_rows_and_the_new_one = go (known (rows_in pool t) tuple) refl
    where
      rows : List Row
      rows = put tuple (rows_in pool t)

      Left : List ℕ → ColumnTrie → Type 0
      Left = Table t.start t.arity t.capacity t.grade rows

      go : (k : Bool) → known (rows_in pool t) tuple ≡ k → Left pool' r.table
      go true e = subst₂ Left (sym (left_pool true e)) (sym (left_table true e)) (table_of_lem o undamaged_before (sym (same_rows e)))
      go false e =
          let f = new_fits pool t tuple zero_number e in
          let u = f.undamaged in
          let k = stored t.start t.arity t.capacity t.grade rows pool u.arity.0 u.arity.1 u.capacity.0 u.capacity.1 u.fits u.plain f.asc f.width f.room in
          let w = header_whole t.start t.arity t.capacity t.grade (layers_of t.arity rows) (length rows) (layers_count t.arity 0 rows) u.arity.1 in
          subst₂ Left (sym (left_pool false e)) (sym (left_table false e)) (table_of_lem w k.undamaged k.rows_back)

-- ---- the kinds

-- "insert keeps them": accepted or refused
pub an_insert_keeps_the_kinds : {pool pool' : List ℕ} {t : ColumnTrie} {tuple : Row} {r : Inserted} → Inserts pool pool' t tuple r → r.table.grade ≡ t.grade
an_insert_keeps_the_kinds {pool} {t = t} {tuple} s =
    ap (λ (x : ColumnTrie). x.grade) s.table ∙ go (takes_in pool t tuple)
  where
    go : (b : Bool) → (pick b (refilled t (put tuple (rows_in pool t))) t).grade ≡ t.grade
    go true = refl
    go false = refl
