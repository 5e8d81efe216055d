-- The damage check's loop over the layers: what is left of the chain comes to the test, layer by layer.
use Prim.Native.Nat.{ℕ, suc, ◌+◌, ◌≤◌, ◌<◌}
use mathlib.Core.Path.{◌≡◌, refl, sym, ap, ◌∙◌}
use mathlib.Core.Bool.{Bool, true, false, ◌&&◌, ◌||◌}
use mathlib.Core.List.{List, [], ◌∷◌}
use native.Mathlib.Omega.{arith}
use native.Mathlib.Numerals.{add-one}
use lib.ListN.{length, drop, drop_of_length-le}
use lib.Seq.{drop-cons}
use lib.Dec.{eqb}
use borrow.Author.Tests.{eqb-true, eqb-false, ne_eqb}
use Rattle.relation.specs.Order.{pick}
use Rattle.relation.specs.Layers.{Layer, layer, no_layer}
use Rattle.relation.specs.Undamaged.{sound, linked, chain}
use Rattle.relation.proofs.Tests.{and_false_left, and_false_right}
use Rattle.column_trie.specs.Limits.{max_arity}
use Rattle.column_trie.specs.Pool.{spot}
use Rattle.column_trie.specs.Table.{Whole, data_len_at, layers_in, layer_in}
use Rattle.column_trie.specs.declared.ColumnTrie.{ColumnTrie}
use Rattle.column_trie.proofs.Header.{InPool, layer_fits, length_part}
use Rattle.column_trie.proofs.Layers.{layers_length, layers_at}

module _ (pool : List ℕ) (t : ColumnTrie) (o : Whole t) (few : t.arity ≤ max_arity) where
  layers_drop : (d : ℕ) → d < t.arity → drop d (layers_in pool t) ≡ layer_in pool t d ∷ drop (suc d) (layers_in pool t)
  layers_drop d h = drop-cons (layers_in pool t) d no_layer (omega (arith, layers_length pool t o few)) ∙ ap (λ (l : Layer). l ∷ drop (suc d) (layers_in pool t)) (layers_at pool t o few d h)

-- how many intervals layer 0 must have
abbrev top_of : ℕ → ℕ
top_of n = pick (eqb n 0) 0 1

top_none : (n : ℕ) → eqb n 0 ≡ true → top_of n ≡ 0
top_none n e = ap (λ (b : Bool). pick b 0 1) e

top_one : (n : ℕ) → eqb n 0 ≡ false → top_of n ≡ 1
top_one n e = ap (λ (b : Bool). pick b 0 1) e

-- no interval without keys, no keys without an interval
no_keys : (ints keys : List ℕ) → length keys ≡ 0 → (eqb (length ints) 1 && sound ints keys) ≡ false
unfolding sound
no_keys [] keys e = refl
no_keys (s ∷ ss) [] e = and_false_right (eqb (length (s ∷ ss)) 1) false refl
no_keys (s ∷ ss) (k ∷ ks) e = absurd (omega arith)

no_intervals : (ints keys : List ℕ) → (length keys ≡ 0 → ⊥) → (eqb (length ints) 0 && sound ints keys) ≡ false
unfolding sound
no_intervals ints [] n = absurd (n refl)
no_intervals [] (k ∷ ks) n = refl
no_intervals (s ∷ ss) (k ∷ ks) n = and_false_left (eqb (length (s ∷ ss)) 0) (sound (s ∷ ss) (k ∷ ks)) (ne_eqb (length (s ∷ ss)) 0 (λ e. omega arith))

or_false : (a b : Bool) → b ≡ false → (a || b) ≡ a
or_false true b e = refl
or_false false b e = e

-- of the two shapes only one can be
one_shape : (ls : List Layer) → 0 < length ls → (chain 0 ls || chain 1 ls) ≡ chain (top_of (length (layer ls 0).keys)) ls
unfolding chain
one_shape [] h = absurd (omega arith)
one_shape (l ∷ ls) h = go (eqb (length l.keys) 0) refl
  where
    below : Bool
    below = chain (length l.keys) ls

    go : (b : Bool) → eqb (length l.keys) 0 ≡ b → (chain 0 (l ∷ ls) || chain 1 (l ∷ ls)) ≡ chain (top_of (length l.keys)) (l ∷ ls)
    go true e =
        or_false (chain 0 (l ∷ ls)) (chain 1 (l ∷ ls)) (and_false_left (linked 1 l) below (no_keys l.intervals l.keys (eqb-true (length l.keys) 0 e)))
        ∙ ap (λ (n : ℕ). chain n (l ∷ ls)) (sym (top_none (length l.keys) e))
    go false e =
        ap (λ (b : Bool). b || chain 1 (l ∷ ls)) (and_false_left (linked 0 l) below (no_intervals l.intervals l.keys (eqb-false (length l.keys) 0 e)))
        ∙ ap (λ (n : ℕ). chain n (l ∷ ls)) (sym (top_one (length l.keys) e))

-- d layers passed, `above` keys in the last of them
pub record Linking (pool : List ℕ) (t : ColumnTrie) (above d : ℕ) : Type 0 where
  pub inside : d ≤ t.arity
  pub goes : chain above (drop d (layers_in pool t)) ≡ (chain 0 (layers_in pool t) || chain 1 (layers_in pool t))

module _ (pool : List ℕ) {t : ColumnTrie} (o : Whole t) (p : InPool (length pool) t) where
  key_count : (d : ℕ) → d < t.arity → length (layer_in pool t d).keys ≡ data_len_at t d
  key_count d h = let f = layer_fits p h in length_part pool (spot t.start t.capacity d) (data_len_at t d) (omega (arith, f))

  pub linking_start : (above : ℕ) → (data_len_at t 0 ≡ 0 → above ≡ 0) → ((data_len_at t 0 ≡ 0 → ⊥) → above ≡ 1) → Linking pool t above 0
  linking_start above f g =
      let n : length (layer (layers_in pool t) 0).keys ≡ data_len_at t 0 = ap (λ (l : Layer). length l.keys) (layers_at pool t o p.few 0 p.positive) ∙ key_count 0 p.positive in
      record {
        inside = omega arith;
        goes =
            ap (λ (m : ℕ). chain m (layers_in pool t)) (top (eqb (data_len_at t 0) 0) refl ∙ ap top_of (sym n))
            ∙ sym (one_shape (layers_in pool t) (omega (arith, layers_length pool t o p.few, p.positive)));
      }
    where
      top : (b : Bool) → eqb (data_len_at t 0) 0 ≡ b → above ≡ top_of (data_len_at t 0)
      top true e = f (eqb-true (data_len_at t 0) 0 e) ∙ sym (top_none (data_len_at t 0) e)
      top false e = g (eqb-false (data_len_at t 0) 0 e) ∙ sym (top_one (data_len_at t 0) e)

  module _ {above d : ℕ} (l : Linking pool t above d) (h : d < t.arity) where
    unrolled : (linked above (layer_in pool t d) && chain (length (layer_in pool t d).keys) (drop (suc d) (layers_in pool t))) ≡ (chain 0 (layers_in pool t) || chain 1 (layers_in pool t))
    unfolding chain
    unrolled = ap (chain above) (sym (layers_drop pool t o p.few d h)) ∙ l.goes

    pub linking_next : linked above (layer_in pool t d) ≡ true → Linking pool t (data_len_at t d) (d + 1)
    linking_next e =
        record {
          inside = omega arith;
          goes =
              ap (λ (n : ℕ). chain (data_len_at t d) (drop n (layers_in pool t))) (add-one d)
              ∙ ap (λ (n : ℕ). chain n (drop (suc d) (layers_in pool t))) (sym (key_count d h))
              ∙ ap (λ (b : Bool). b && chain (length (layer_in pool t d).keys) (drop (suc d) (layers_in pool t))) (sym e)
              ∙ unrolled;
        }

    pub linking_not : linked above (layer_in pool t d) ≡ false → false ≡ (chain 0 (layers_in pool t) || chain 1 (layers_in pool t))
    linking_not e = ap (λ (b : Bool). b && chain (length (layer_in pool t d).keys) (drop (suc d) (layers_in pool t))) (sym e) ∙ unrolled

  pub linking_done : {above d : ℕ} → Linking pool t above d → t.arity ≤ d → true ≡ (chain 0 (layers_in pool t) || chain 1 (layers_in pool t))
  unfolding chain
  linking_done {above} {d} l h = ap (chain above) (sym (drop_of_length-le (layers_in pool t) {i = d} (omega (arith, layers_length pool t o p.few)))) ∙ l.goes
