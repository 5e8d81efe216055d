-- The keys on a path, where they lie in the pool: the words of the row.
use Prim.Native.Nat.{ℕ, suc, ◌+◌, ◌<◌}
use mathlib.Core.Path.{◌≡◌, sym, ap, ◌∙◌, subst}
use mathlib.Core.List.{List, []}
use native.Mathlib.Omega.{arith}
use lib.ListN.{length, drop, get_or, replicate, get_or-replicate, length-replicate}
use Rattle.relation.specs.Layers.{Layer, layer}
use Rattle.column_trie.specs.Limits.{max_arity}
use Rattle.column_trie.specs.Pool.{spot}
use Rattle.column_trie.specs.Table.{layers_in, layer_in, rows_in, data_len_at, Undamaged}
use Rattle.column_trie.specs.declared.ColumnTrie.{ColumnTrie}
use Rattle.column_trie.proofs.Header.{layer_fits}
use Rattle.column_trie.proofs.Layers.{Whole, layers_at}
use Rattle.column_trie.proofs.Groups.{keys_long}
use Rattle.column_trie.proofs.Stored.{in_pool}
use Rattle.column_trie.proofs.Words.{part_at}
use Rattle.row_path.specs.Path.{ancestor, OnPath}
use Rattle.row_path.proofs.Paths.{under, first, inside, below, under_below, row_is, word_is}
use Rattle.row_path.proofs.Moves.{Hangs, hangs}

-- the key of row i at depth d, at its place in the layer
pub record KeyAt (pool : List ℕ) (t : ColumnTrie) (i d place : ℕ) : Type 0 where
  pub inside : place < data_len_at t d
  pub word : get_or pool (spot t.start t.capacity d + place) 0 ≡ get_or (get_or (rows_in pool t) i []) d 0

pub key_at : {pool : List ℕ} {t : ColumnTrie} → Whole t → Undamaged pool t → (i : ℕ) → i < t.tuple_count → (d : ℕ) → d < t.arity → KeyAt pool t i d (ancestor (drop (suc d) (layers_in pool t)) i)
key_at {pool} {t} o u i h d b = record { inside = here; word = word }
  where
    ls : List Layer
    ls = layers_in pool t

    g : Hangs pool t
    g = hangs o u

    deep : d < length ls
    deep = omega (arith, g.long)

    count : i < under g.top ls
    count = omega (arith, g.counted)

    e : layer ls d ≡ layer_in pool t d
    e = layers_at pool t o u.arity.1 d b

    at : ℕ
    at = ancestor (drop (suc d) ls) i

    here : at < data_len_at t d
    here =
        omega (arith, inside (below g.chain d deep) i (omega (arith, count, under_below g.top ls d deep)), ap (λ (l : Layer). length l.keys) e, keys_long pool (layer_fits (in_pool u) b))

    word : get_or pool (spot t.start t.capacity d + at) 0 ≡ get_or (get_or (rows_in pool t) i []) d 0
    word =
        sym (part_at pool (spot t.start t.capacity d) (data_len_at t d) at here)
        ∙ ap (λ (l : Layer). get_or l.keys at 0) (sym e)
        ∙ sym (word_is ls i d deep)
        ∙ ap (λ (r : List ℕ). get_or r d 0) (sym (row_is g.chain i count))

pub key_on : {pool : List ℕ} {t : ColumnTrie} → Whole t → Undamaged pool t → {i : ℕ} {path : List ℕ} → OnPath (layers_in pool t) i path → i < t.tuple_count → (d : ℕ) → d < t.arity → KeyAt pool t i d (get_or path d 0)
key_on {pool} {t} o u {i} p h d b = subst (KeyAt pool t i d) (sym (p.at d (omega (arith, (hangs o u).long)))) (key_at o u i h d b)

-- where the walk starts: the first place at every depth
pub start_path : {pool : List ℕ} {t : ColumnTrie} → Whole t → Undamaged pool t → OnPath (layers_in pool t) 0 (replicate max_arity 0)
start_path {pool} {t} o u =
    let g = hangs o u in
    record { long = length-replicate {A = ℕ} max_arity 0; at = λ d h. get_or-replicate max_arity d 0 0 (omega (arith, u.arity.1, g.long)) ∙ sym (first (below g.chain d h)) }
