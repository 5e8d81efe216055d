-- Storing a table's layers keeps every other word of the pool, and so does changing nothing.
use Prim.Native.Nat.{ℕ, zero, suc, ◌+◌, ◌*◌, ◌≤◌, ◌<◌}
use mathlib.Core.Path.{◌≡◌, refl, ap, ◌∙◌}
use mathlib.Core.Bool.{Bool}
use mathlib.Core.Logic.{◌⊎◌, inl, inr, ⊎_elim}
use mathlib.Core.List.{List, [], ◌∷◌}
use native.Mathlib.Omega.{arith}
use lib.ListN.{length, get_or}
use Rattle.relation.specs.Layers.{Layer, layer}
use Rattle.column_trie.specs.Limits.{max_arity}
use Rattle.column_trie.specs.Pool.{lay, spot, store}
use Rattle.column_trie.specs.Table.{header}
use Rattle.column_trie.specs.Kept.{Kept}
use Rattle.column_trie.specs.declared.ColumnTrie.{ColumnTrie}
use Rattle.column_trie.proofs.Pool.{Room, spot_is, lay_out, store_length}
use Rattle.column_trie.proofs.Stored.{spot_end, header_keys, header_intervals}

-- a word before a layer, behind its lists, or between them
module _ (at c : ℕ) (l : Layer) (pool : List ℕ) (k : ℕ) where
  layer_out : (k < at) ⊎ (at + length l.keys ≤ k) → (k < at + c) ⊎ (at + c + length l.intervals ≤ k) → get_or (lay (lay pool at l.keys) (at + c) l.intervals) k 0 ≡ get_or pool k 0
  layer_out h i = lay_out (lay pool at l.keys) (at + c) l.intervals k 0 i ∙ lay_out pool at l.keys k 0 h

store_out : (at c : ℕ) (ls : List Layer) (pool : List ℕ) (k : ℕ) → Room c ls → (k < at) ⊎ (spot at c (length ls) ≤ k) → get_or (store at c ls pool) k 0 ≡ get_or pool k 0
unfolding store spot
store_out at c [] pool k r h = refl
store_out at c (l ∷ ls) pool k r h =
    let f = r 0 (omega arith) in
    let s = spot_is (at + c + c) c (length ls) in
    store_out (at + c + c) c ls (lay (lay pool at l.keys) (at + c) l.intervals) k (λ d b. r (suc d) (omega arith)) (⊎_elim (λ (b : k < at). inl (omega arith)) (λ (b : spot (at + c + c) c (length ls) ≤ k). inr b) h)
    ∙ ⊎_elim
    (λ (b : k < at). layer_out at c l pool k (inl b) (inl (omega arith)))
    (λ (b : spot (at + c + c) c (length ls) ≤ k). layer_out at c l pool k (inr (omega arith)) (inr (omega arith)))
    h

-- behind the keys of layer d, and behind its intervals
module _ (c : ℕ) (j : ℕ) where
  store_behind : (at : ℕ) (ls : List Layer) (pool : List ℕ) (d : ℕ) → d < length ls → Room c ls → j < c → (length (layer ls d).keys ≤ j → get_or (store at c ls pool) (spot at c d + j) 0 ≡ get_or pool (spot at c d + j) 0) × (length (layer ls d).intervals ≤ j → get_or (store at c ls pool) (spot at c d + c + j) 0 ≡ get_or pool (spot at c d + c + j) 0)
  unfolding store spot
  store_behind at [] pool d h r b = absurd (omega arith)
  store_behind at (l ∷ ls) pool zero h r b =
      let p = lay (lay pool at l.keys) (at + c) l.intervals in
      let f = r 0 (omega arith) in (
        λ k. store_out (at + c + c) c ls p (at + j) (λ d b. r (suc d) (omega arith)) (inl (omega arith)) ∙ layer_out at c l pool (at + j) (inr (omega arith)) (inl (omega arith)),
        λ k. store_out (at + c + c) c ls p (at + c + j) (λ d b. r (suc d) (omega arith)) (inl (omega arith)) ∙ layer_out at c l pool (at + c + j) (inr (omega arith)) (inr (omega arith)),
      )
  store_behind at (l ∷ ls) pool (suc d) h r b =
      let p = lay (lay pool at l.keys) (at + c) l.intervals in
      let f = r 0 (omega arith) in
      let s = spot_is (at + c + c) c d in
      let v = store_behind (at + c + c) ls p d (omega arith) (λ d b. r (suc d) (omega arith)) b in (
        λ k. v.0 k ∙ layer_out at c l pool (spot (at + c + c) c d + j) (inr (omega arith)) (inr (omega arith)),
        λ k. v.1 k ∙ layer_out at c l pool (spot (at + c + c) c d + c + j) (inr (omega arith)) (inr (omega arith)),
      )

-- layers with room, stored, under the header that describes them
pub stored_kept : (start a c : ℕ) (g : List Bool) (ls : List Layer) (n : ℕ) (pool : List ℕ) → length ls ≡ a → a ≤ max_arity → Room c ls → Kept pool (store start c ls pool) (header start a c g ls n)
stored_kept start a c g ls n pool long few room =
    record {
      size = store_length start c ls pool;
      outside = λ k h.
          store_out start c ls pool k room
          (⊎_elim (λ (x : k < start). inl x) (λ (x : start + 2 * a * c ≤ k). inr (omega (arith, ap (spot start c) long, spot_end start a c))) h);
      keys = λ d j h x y. (store_behind c j start ls pool d (omega arith) room y).0 (omega (arith, header_keys start a c g ls n long few d h));
      intervals = λ d j h x y. (store_behind c j start ls pool d (omega arith) room y).1 (omega (arith, header_intervals start a c g ls n long few d h));
    }

-- a pool that stays as it is, whatever the table
pub unchanged_kept : (pool : List ℕ) (t : ColumnTrie) → Kept pool pool t
unchanged_kept pool t = record { size = refl; outside = λ k h. refl; keys = λ d j h x y. refl; intervals = λ d j h x y. refl }
