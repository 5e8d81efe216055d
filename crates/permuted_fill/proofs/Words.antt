-- A word that is not laid yet is still there: the last layer has as many keys as rows are laid.
use Prim.Native.Nat.{ℕ, zero, suc, ◌+◌, ◌-◌, ◌≤◌, ◌<◌}
use mathlib.Core.Path.{◌≡◌, refl, sym, ap, ◌∙◌}
use mathlib.Core.List.{List, [], ◌∷◌}
use native.Mathlib.Omega.{arith}
use lib.ListN.{length, take, get_or}
use lib.Seq.{length-take-le, take-suc}
use Rattle.relation.specs.Order.{Row}
use Rattle.relation.specs.Lists.{◌∈◌, hd, tl, not_in_nil, anone, amore}
use Rattle.relation.specs.Rows.{Asc, Width, as_set}
use Rattle.relation.specs.Layers.{layers_of}
use Rattle.relation.proofs.Tables.{layers_count, layers_undamaged}
use Rattle.column_trie.specs.Pool.{spot, store}
use Rattle.column_trie.specs.declared.ColumnTrie.{ColumnTrie}
use Rattle.column_trie.proofs.Kept.{stored_kept}
use Rattle.column_trie.proofs.Stored.{header_keys}
use Rattle.from_sorted.specs.Push.{Filling, Pushes}
use Rattle.from_sorted.specs.Push.{Filled}
use Rattle.from_sorted.proofs.Fill.{fills_none}

in_front : (n : ℕ) (rows : List Row) {q : Row} → q ∈ take n rows → q ∈ rows
in_front zero rows m = absurd (not_in_nil m)
in_front (suc n) [] m = absurd (not_in_nil m)
in_front (suc n) (r ∷ rs) (hd e) = hd e
in_front (suc n) (r ∷ rs) (tl m) = tl (in_front n rs m)

asc_front : (n : ℕ) {rows : List Row} → Asc rows → Asc (take n rows)
asc_front zero s = anone
asc_front (suc n) anone = anone
asc_front (suc n) (amore {rs = rs} f s) = amore (λ q m. f q (in_front n rs m)) (asc_front n s)

module _ {len : ℕ} {e : ColumnTrie} {rows : List Row} (f : Filling len e rows) (w : Width e.arity rows) (s : Asc rows) where
  -- no row is laid where the fill begins
  none_laid : (pool : List ℕ) → pool ≡ store e.start e.capacity (layers_of e.arity []) pool
  unfolding as_set
  none_laid pool =
      (fills_none {len = len} {t = e} {rows = []}
      (record { positive = f.positive; few = f.few; small = f.small; fits = f.fits; room = omega arith; sorted = anone; empty = f.empty })
      (λ q m. absurd (not_in_nil m)) {pool = pool} refl).words

  -- the words of the second pool where i rows are laid
  pub laid : {pool pool₀ pool' ks₀ is₀ ks is : List ℕ} {i : ℕ} → 0 < length rows → Pushes pool e (take 0 rows) (get_or rows 0 []) pool₀ ks₀ is₀ → Filled e rows pool₀ pool' ks is i → pool' ≡ store e.start e.capacity (layers_of e.arity (take i rows)) pool
  laid {pool} h p g =
      g.words pool (p.words pool (none_laid pool) ∙ ap (λ (rs : List Row). store e.start e.capacity (layers_of e.arity rs) pool) (sym (take-suc rows 0 [] h)))

  -- and the words of the others
  pub still : (pool : List ℕ) {pool' : List ℕ} (i : ℕ) → pool' ≡ store e.start e.capacity (layers_of e.arity (take i rows)) pool → (j : ℕ) → i ≤ j → j < length rows →
      get_or pool' (spot e.start e.capacity (e.arity - 1) + j) 0 ≡ get_or pool (spot e.start e.capacity (e.arity - 1) + j) 0
  still pool i x j h b =
      let a = e.arity in
      let rs = take i rows in
      let n : length rs ≡ i = length-take-le i rows (omega arith) in
      let u = layers_undamaged e.capacity f.positive (asc_front i s) (λ q m. w q (in_front i rows m)) (omega (arith, n, f.room)) in
      let l = layers_count a 0 rs in
      let k = stored_kept e.start a e.capacity e.grade (layers_of a rs) (length rs) pool l f.few (λ d m. u.room d (omega (arith, l))) in
      ap (λ (q : List ℕ). get_or q (spot e.start e.capacity (a - 1) + j) 0) x
      ∙ k.keys (a - 1) j (omega (arith, f.positive)) (omega (arith, header_keys e.start a e.capacity e.grade (layers_of a rs) (length rs) l f.few (a - 1) (omega (arith, f.positive)), u.counted, n)) (omega (arith, f.room))
