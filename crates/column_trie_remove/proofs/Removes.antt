-- The ways out of a removal, and what each leaves: the number is the first refusal's in the contract's sequence, and only the way out on which the tuple was
-- found takes it out.
use Prim.Native.Nat.{ℕ}
use mathlib.Core.Path.{◌≡◌, sym, ap, subst, ◌∙◌}
use mathlib.Core.Bool.{Bool, true, false, ◌&&◌}
use mathlib.Core.List.{List, []}
use native.Mathlib.Omega.{arith}
use lib.Arith.{lt_of_le-ne}
use lib.ListN.{length}
use borrow.Author.Tests.{eq-eqb, ne_eqb}
use Rattle.relation.specs.Order.{Row, pick}
use Rattle.relation.specs.Lists.{◌∈◌}
use Rattle.relation.specs.Layers.{layers_of}
use Rattle.relation.proofs.Lists.{in_get_or}
use Rattle.column_trie.specs.Pool.{store}
use Rattle.column_trie.specs.Table.{rows_in, refilled, undamaged}
use Rattle.column_trie.specs.declared.ColumnTrie.{ColumnTrie}
use Rattle.column_trie.proofs.Layers.{Whole}
use Rattle.column_trie.proofs.Damage.{undamaged_told}
use Rattle.column_trie.proofs.Tables.{Holds, holds}
use Rattle.column_trie_path.specs.declared.Path.{Path}
use Rattle.column_trie_path.specs.Check.{tuple_number}
use Rattle.column_trie_path.specs.Known.{known}
use Rattle.column_trie_path.specs.Place.{PathOf, LastFork}
use Rattle.column_trie_path.proofs.Known.{in_known, not_known}
use Rattle.column_trie_path.proofs.Paths.{path_there, path_absent}
use Rattle.column_trie_remove.specs.declared.Removed.{Removed}
use Rattle.column_trie_remove.specs.Remove.{without, remove_number, takes_out, Removes}
use Rattle.column_trie_remove.specs.Shrink.{Forked, RowCut}

module _ (pool : List ℕ) (t : ColumnTrie) (tuple : Row) where
  -- nothing changes
  kept : (n : ℕ) → remove_number pool t tuple ≡ n → takes_out pool t tuple ≡ false → (r : Removed) → (r.number ≡ n) × (r.was_there ≡ false) × (r.table ≡ t) → Removes pool pool t tuple r
  kept n e f r h =
      record {
        number = h.0 ∙ sym e;
        was_there = h.1 ∙ sym f;
        table = h.2 ∙ sym (ap (λ (b : Bool). pick b (refilled t (without tuple (rows_in pool t))) t) f);
        words = sym (ap (λ (b : Bool). pick b (store t.start t.capacity (layers_of t.arity (without tuple (rows_in pool t))) pool) pool) f);
      }

  -- a number that isn't 0 takes nothing out
  shut : (n : ℕ) → remove_number pool t tuple ≡ n → (n ≡ 0 → ⊥) → takes_out pool t tuple ≡ false
  unfolding takes_out
  shut n e h = ap (λ (b : Bool). b && known (rows_in pool t) tuple) (ne_eqb (remove_number pool t tuple) 0 (λ z. h (sym e ∙ z)))

  pub number_6 : undamaged pool t ≡ false → remove_number pool t tuple ≡ 6
  unfolding remove_number
  number_6 e = simp e

  pub number_4 : undamaged pool t ≡ true → (length tuple ≡ t.arity → ⊥) → remove_number pool t tuple ≡ 4
  unfolding remove_number
  number_4 sound n = simp (sound, ne_eqb (length tuple) t.arity n)

  -- what one of the first checks refuses
  number_first : (n : ℕ) → n ≡ tuple_number pool t tuple → remove_number pool t tuple ≡ n
  unfolding remove_number tuple_number
  number_first n e = sym e

  pub refused : (n : ℕ) → n ≡ tuple_number pool t tuple → (n ≡ 0 → ⊥) → (r : Removed) → (r.number ≡ n) × (r.was_there ≡ false) × (r.table ≡ t) → Removes pool pool t tuple r
  refused n e h = let f = number_first n e in kept n f (shut n f h)

  pub number_0 : undamaged pool t ≡ true → length tuple ≡ t.arity → remove_number pool t tuple ≡ 0
  unfolding remove_number
  number_0 sound long = simp (sound, eq-eqb (length tuple) t.arity long)

  -- an accepted tuple goes exactly if it is there
  pub takes_by : undamaged pool t ≡ true → length tuple ≡ t.arity → takes_out pool t tuple ≡ known (rows_in pool t) tuple
  unfolding takes_out
  takes_by sound long = ap (λ (b : Bool). b && known (rows_in pool t) tuple) (eq-eqb (remove_number pool t tuple) 0 (number_0 sound long))

-- what a removal knows when it looks for the tuple
pub record Accepted (pool : List ℕ) (t : ColumnTrie) (tuple : Row) : Type 0 where
  pub sound : undamaged pool t ≡ true
  pub long : length tuple ≡ t.arity
  pub whole : Whole t

module _ {pool : List ℕ} {t : ColumnTrie} {tuple : Row} (l : Accepted pool t tuple) where
  held : Holds pool t (rows_in pool t)
  held = holds l.whole (undamaged_told pool t l.sound)

  absent : (tuple ∈ rows_in pool t → ⊥) → (r : Removed) → (r.number ≡ 0) × (r.was_there ≡ false) × (r.table ≡ t) → Removes pool pool t tuple r
  absent n = kept pool t tuple 0 (number_0 pool t tuple l.sound l.long) (takes_by pool t tuple l.sound l.long ∙ not_known n)

  -- a table without rows
  pub no_row : t.tuple_count ≡ 0 → (r : Removed) → (r.number ≡ 0) × (r.was_there ≡ false) × (r.table ≡ t) → Removes pool pool t tuple r
  no_row z = absent (λ m. omega (arith, held.counted, (in_get_or [] m).1))

  module _ {p : Path} (q : PathOf t.arity (rows_in pool t) tuple p) where
    -- a path that ends before the last layer
    pub not_found : (p.depth ≡ t.arity → ⊥) → (r : Removed) → (r.number ≡ 0) × (r.was_there ≡ false) × (r.table ≡ t) → Removes pool pool t tuple r
    not_found n = absent (path_absent held.asc held.width l.long q (lt_of_le-ne q.depth n))

    -- one that leads to a row
    module _ (e : p.depth ≡ t.arity) where
      found : tuple ∈ rows_in pool t
      found = path_there held.asc held.width l.long q e

      pub forked : Forked pool t tuple p.fork
      forked =
          record {
            undamaged = l.sound;
            there = found;
            fork = subst (λ (d : ℕ). LastFork (rows_in pool t) tuple d p.fork) e q.fork;
          }

      takes : takes_out pool t tuple ≡ true
      takes = takes_by pool t tuple l.sound l.long ∙ in_known found

      pub taken_out : (pool' : List ℕ) (r : Removed) → (r.number ≡ 0) × (r.was_there ≡ true) → RowCut pool pool' t tuple r.table → Removes pool pool' t tuple r
      taken_out pool' r h a =
          record {
            number = h.0 ∙ sym (number_0 pool t tuple l.sound l.long);
            was_there = h.1 ∙ sym takes;
            table = a.header ∙ sym (ap (λ (b : Bool). pick b (refilled t (without tuple (rows_in pool t))) t) takes);
            words = a.words ∙ sym (ap (λ (b : Bool). pick b (store t.start t.capacity (layers_of t.arity (without tuple (rows_in pool t))) pool) pool) takes);
          }
