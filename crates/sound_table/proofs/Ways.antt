-- The ways out of the damage check, each the test's value.
use Prim.Native.Nat.{ℕ, ◌-◌}
use mathlib.Core.Path.{◌≡◌, sym, ◌∙◌}
use mathlib.Core.Bool.{Bool, true, false, ◌&&◌, ◌||◌}
use mathlib.Core.List.{List}
use native.Mathlib.Omega.{arith}
use lib.ListN.{length}
use lib.Dec.{eqb}
use borrow.Author.Tests.{eq-eqb}
use Rattle.relation.specs.Tests.{every}
use Rattle.relation.specs.Layers.{layer}
use Rattle.relation.specs.Undamaged.{chain, rooms}
use Rattle.relation.specs.Undamaged as layers
use Rattle.relation.proofs.Undamaged as layer_laws
use Rattle.relation.proofs.Tests.{T_true, gate_shut, gate_open}
use Rattle.column_trie.specs.Limits.{max_arity}
use Rattle.column_trie.specs.Table.{Whole, data_len_at, layers_in, past_at, header_sound, undamaged}
use Rattle.column_trie.specs.declared.ColumnTrie.{ColumnTrie}
use Rattle.column_trie.proofs.Header.{InPool, header_told}
use Rattle.column_trie.proofs.Layers.{layers_length}
use Rattle.column_trie.proofs.Damage.{keys_length, roomy}

module _ (pool : List ℕ) {t : ColumnTrie} (o : Whole t) (p : InPool (length pool) t) where
  -- with a sound header the layers have room, so of their test the count and the chain are left
  layers_test : (eqb t.tuple_count (data_len_at t (t.arity - 1)) && (chain 0 (layers_in pool t) || chain 1 (layers_in pool t))) ≡ layers.undamaged t.arity t.capacity (layers_in pool t) t.tuple_count
  unfolding layers.undamaged
  layers_test =
      let a : eqb (length (layers_in pool t)) t.arity ≡ true = eq-eqb (length (layers_in pool t)) t.arity (layers_length pool t o p.few) in
      let r : rooms t.capacity (layers_in pool t) ≡ true = T_true (rooms t.capacity (layers_in pool t)) (layer_laws.→rooms t.capacity (layers_in pool t) (roomy pool o p)) in
      let n : data_len_at t (t.arity - 1) ≡ length (layer (layers_in pool t) (t.arity - 1)).keys = sym (keys_length pool o p (t.arity - 1) (omega (arith, p.positive))) in
      cc

module _ (pool : List ℕ) (t : ColumnTrie) where
  abbrev inner : Bool
  inner = layers.undamaged t.arity t.capacity (layers_in pool t) t.tuple_count

  pub bad_header : header_sound (length pool) t ≡ false → false ≡ undamaged pool t
  unfolding undamaged
  bad_header e = gate_shut (header_sound (length pool) t) (every max_arity (past_at t) && inner) e

  module _ (h : header_sound (length pool) t ≡ true) where
    pub bad_past : every max_arity (past_at t) ≡ false → false ≡ undamaged pool t
    unfolding undamaged
    bad_past e = gate_open (header_sound (length pool) t) (every max_arity (past_at t) && inner) false h (gate_shut (every max_arity (past_at t)) inner e)

    pub by_layers : Whole t → every max_arity (past_at t) ≡ true → (r : Bool) → r ≡ (eqb t.tuple_count (data_len_at t (t.arity - 1)) && (chain 0 (layers_in pool t) || chain 1 (layers_in pool t))) → r ≡ undamaged pool t
    unfolding undamaged
    by_layers o e r q =
        gate_open (header_sound (length pool) t) (every max_arity (past_at t) && inner) r h
        (gate_open (every max_arity (past_at t)) inner r e (q ∙ layers_test pool o (header_told (length pool) t h)))
