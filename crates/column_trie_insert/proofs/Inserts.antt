-- The ways out of an insert, and what each leaves: the number is the first refusal's in the contract's sequence, and only the way out that is none
-- of them takes the tuple in.
use Prim.Native.Nat.{ℕ, ◌<◌}
use mathlib.Core.Path.{◌≡◌, refl, sym, ap, ◌∙◌}
use mathlib.Core.Bool.{Bool, true, false, not, ◌&&◌}
use mathlib.Core.List.{List}
use native.Mathlib.Omega.{arith}
use native.Mathlib.Decide.{ℕ_discrete}
use lib.Arith.{lt_of_le-ne}
use lib.ListN.{length}
use lib.Dec.{eqb}
use borrow.Author.Tests.{eq-eqb, ne_eqb}
use Rattle.relation.specs.Order.{Row, pick}
use Rattle.relation.specs.Lists.{◌∈◌}
use Rattle.relation.specs.Rows.{put}
use Rattle.relation.specs.Layers.{layers_of}
use Rattle.column_trie.specs.Pool.{store}
use Rattle.column_trie.specs.Table.{rows_in, refilled, undamaged}
use Rattle.column_trie.specs.declared.ColumnTrie.{ColumnTrie}
use Rattle.column_trie.proofs.Layers.{Whole}
use Rattle.column_trie.proofs.Damage.{undamaged_told}
use Rattle.column_trie.proofs.Tables.{Holds, holds}
use Rattle.column_trie_insert.specs.declared.Inserted.{Inserted}
use Rattle.column_trie_path.specs.declared.Path.{Path}
use Rattle.column_trie_path.specs.Check.{tuple_number}
use Rattle.column_trie_path.specs.Place.{PathOf}
use Rattle.column_trie_path.proofs.Paths.{path_there}
use Rattle.column_trie_path.proofs.Known.{in_known, not_known}
use Rattle.column_trie_insert.specs.Grow.{Addable, RowAdded}
use Rattle.column_trie_insert.specs.Insert.{known, insert_number, takes_in, Inserts}
use Rattle.column_trie_insert.proofs.Enters.{absent_row}

-- what an insert knows when it has looked for the tuple
pub record Located (pool : List ℕ) (t : ColumnTrie) (tuple : Row) (p : Path) : Type 0 where
  pub sound : undamaged pool t ≡ true
  pub long : length tuple ≡ t.arity
  pub whole : Whole t
  pub empty : t.tuple_count ≡ 0 → (p.depth ≡ 0) × (p.interval ≡ 0)
  pub path : (t.tuple_count ≡ 0 → ⊥) → PathOf t.arity (rows_in pool t) tuple p

module _ (pool : List ℕ) (t : ColumnTrie) (tuple : Row) where
  -- nothing changes
  kept : (n : ℕ) → insert_number pool t tuple ≡ n → takes_in pool t tuple ≡ false → (r : Inserted) → (r.number ≡ n) × (r.is_new ≡ false) × (r.table ≡ t) → Inserts pool pool t tuple r
  kept n e f r h =
      record {
        number = h.0 ∙ sym e;
        is_new = h.1 ∙ sym f;
        table = h.2 ∙ sym (ap (λ (b : Bool). pick b (refilled t (put tuple (rows_in pool t))) t) f);
        words = sym (ap (λ (b : Bool). pick b (store t.start t.capacity (layers_of t.arity (put tuple (rows_in pool t))) pool) pool) f);
      }

  -- a number that isn't 0 takes nothing in
  shut : (n : ℕ) → insert_number pool t tuple ≡ n → (n ≡ 0 → ⊥) → takes_in pool t tuple ≡ false
  unfolding takes_in
  shut n e h = ap (λ (b : Bool). b && not (known (rows_in pool t) tuple)) (ne_eqb (insert_number pool t tuple) 0 (λ z. h (sym e ∙ z)))

  pub number_6 : undamaged pool t ≡ false → insert_number pool t tuple ≡ 6
  unfolding insert_number
  number_6 e = simp e

  pub number_4 : undamaged pool t ≡ true → (length tuple ≡ t.arity → ⊥) → insert_number pool t tuple ≡ 4
  unfolding insert_number
  number_4 sound n = simp (sound, ne_eqb (length tuple) t.arity n)

  -- what one of the first checks refuses
  number_first : (n : ℕ) → n ≡ tuple_number pool t tuple → (n ≡ 0 → ⊥) → insert_number pool t tuple ≡ n
  unfolding insert_number tuple_number
  number_first n e h = go (undamaged pool t) (eqb (length tuple) t.arity) _ e
    where
      go : (b c : Bool) (x : ℕ) → n ≡ pick b (pick c 0 4) 6 → pick b (pick c x 4) 6 ≡ n
      go true true x q = absurd (h q)
      go true false x q = sym q
      go false c x q = sym q

  pub refused : (n : ℕ) → n ≡ tuple_number pool t tuple → (n ≡ 0 → ⊥) → (r : Inserted) → (r.number ≡ n) × (r.is_new ≡ false) × (r.table ≡ t) → Inserts pool pool t tuple r
  refused n e h = let f = number_first n e h in kept n f (shut n f h)

module _ {pool : List ℕ} {t : ColumnTrie} {tuple : Row} {p : Path} (l : Located pool t tuple p) where
  held : Holds pool t (rows_in pool t)
  held = holds l.whole (undamaged_told pool t l.sound)

  rest : insert_number pool t tuple ≡ pick (not (known (rows_in pool t) tuple) && eqb t.tuple_count t.capacity) 5 0
  unfolding insert_number
  rest = simp (l.sound, eq-eqb (length tuple) t.arity l.long)

  -- a path to the last layer is a row's
  whole_path : p.depth ≡ t.arity → tuple ∈ rows_in pool t
  whole_path e = go (ℕ_discrete t.tuple_count 0)
    where
      go : Dec (t.tuple_count ≡ 0) → tuple ∈ rows_in pool t
      go (yes z) = absurd (omega (arith, (l.empty z).0, (undamaged_told pool t l.sound).arity.0))
      go (no z) = path_there held.asc held.width l.long (l.path z) e

  stays : tuple ∈ rows_in pool t → takes_in pool t tuple ≡ false
  unfolding takes_in
  stays m = go (eqb (insert_number pool t tuple) 0) (known (rows_in pool t) tuple) (in_known m)
    where
      go : (b k : Bool) → k ≡ true → (b && not k) ≡ false
      go true k e = ap not e
      go false k e = refl

  pub there_already : p.depth ≡ t.arity → (r : Inserted) → (r.number ≡ 0) × (r.is_new ≡ false) × (r.table ≡ t) → Inserts pool pool t tuple r
  there_already e =
      let m = whole_path e in
      kept pool t tuple 0 (rest ∙ ap (λ (b : Bool). pick (not b && eqb t.tuple_count t.capacity) 5 0) (in_known m)) (stays m)

  -- a path that ends before it isn't
  module _ (n : p.depth ≡ t.arity → ⊥) where
    leaves : (t.tuple_count ≡ 0 → ⊥) → PathOf t.arity (rows_in pool t) tuple p × (p.depth < t.arity)
    leaves z = (l.path z, lt_of_le-ne (l.path z).depth n)

    unknown : known (rows_in pool t) tuple ≡ false
    unknown = not_known (absent_row held l.long leaves)

    number_new : insert_number pool t tuple ≡ pick (eqb t.tuple_count t.capacity) 5 0
    number_new = rest ∙ ap (λ (b : Bool). pick (not b && eqb t.tuple_count t.capacity) 5 0) unknown

    pub full : t.tuple_count ≡ t.capacity → (r : Inserted) → (r.number ≡ 5) × (r.is_new ≡ false) × (r.table ≡ t) → Inserts pool pool t tuple r
    full e = let q = number_new ∙ ap (λ (b : Bool). pick b 5 0) (eq-eqb t.tuple_count t.capacity e) in kept pool t tuple 5 q (shut pool t tuple 5 q (λ z. omega arith))

    module _ (e : t.tuple_count ≡ t.capacity → ⊥) where
      number_0 : insert_number pool t tuple ≡ 0
      number_0 = number_new ∙ ap (λ (b : Bool). pick b 5 0) (ne_eqb t.tuple_count t.capacity e)

      takes : takes_in pool t tuple ≡ true
      unfolding takes_in
      takes = ap (λ (b : Bool). b && not (known (rows_in pool t) tuple)) (eq-eqb (insert_number pool t tuple) 0 number_0) ∙ ap not unknown

      pub taken_in : (pool' : List ℕ) (r : Inserted) → (r.number ≡ 0) × (r.is_new ≡ true) → RowAdded pool pool' t tuple r.table → Inserts pool pool' t tuple r
      taken_in pool' r h a =
          record {
            number = h.0 ∙ sym number_0;
            is_new = h.1 ∙ sym takes;
            table = a.header ∙ sym (ap (λ (b : Bool). pick b (refilled t (put tuple (rows_in pool t))) t) takes);
            words = a.words ∙ sym (ap (λ (b : Bool). pick b (store t.start t.capacity (layers_of t.arity (put tuple (rows_in pool t))) pool) pool) takes);
          }

      pub addable : Addable pool t tuple p
      addable =
          record {
            undamaged = l.sound;
            long = l.long;
            room = lt_of_le-ne (omega (arith, held.counted, held.room)) e;
            empty = l.empty;
            path = leaves;
          }
