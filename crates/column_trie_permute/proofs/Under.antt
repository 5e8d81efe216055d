-- Words laid where a list of a table will lie are gone once its layers are stored.
use Prim.Native.Nat.{ℕ, zero, suc, ◌+◌, ◌-◌, ◌≤◌, ◌<◌}
use mathlib.Core.Path.{◌≡◌, sym, ap, ◌∙◌}
use mathlib.Core.Logic.{◌⊎◌, inl, inr}
use mathlib.Core.List.{List, [], ◌∷◌}
use native.Mathlib.Omega.{arith}
use native.Mathlib.Decide.{dec_lt}
use lib.ListN.{length, get_or}
use lib.Seq.{ext_get_or}
use Rattle.relation.specs.Layers.{Layer, layer}
use Rattle.column_trie.specs.Pool.{lay, store, spot}
use Rattle.column_trie.proofs.Pool.{lay_length, lay_out, lay_in, lay_over, spot_is}

-- two lists that do not overlap, laid in either sequence
apart : (p : List ℕ) (at : ℕ) (xs : List ℕ) (up : ℕ) (ys : List ℕ) → at + length xs ≤ up → up + length ys ≤ length p → lay (lay p up ys) at xs ≡ lay (lay p at xs) up ys
apart p at xs up ys h b =
    ext_get_or 0 (lay (lay p up ys) at xs) (lay (lay p at xs) up ys) (lay_length (lay p up ys) at xs ∙ lay_length p up ys ∙ sym (lay_length (lay p at xs) up ys ∙ lay_length p at xs)) (λ k l. go k (dec_lt k at) (dec_lt k (at + length xs)) (dec_lt k up) (dec_lt k (up + length ys)))
  where
    out : (k : ℕ) → (k < at) ⊎ (at + length xs ≤ k) → (k < up) ⊎ (up + length ys ≤ k) → get_or (lay (lay p up ys) at xs) k 0 ≡ get_or (lay (lay p at xs) up ys) k 0
    out k m n = lay_out (lay p up ys) at xs k 0 m ∙ lay_out p up ys k 0 n ∙ sym (lay_out (lay p at xs) up ys k 0 n ∙ lay_out p at xs k 0 m)

    low : (j : ℕ) → j < length xs → get_or (lay (lay p up ys) at xs) (at + j) 0 ≡ get_or (lay (lay p at xs) up ys) (at + j) 0
    low j m =
        lay_in (lay p up ys) at xs j 0 m (omega (arith, lay_length p up ys))
        ∙ sym (lay_out (lay p at xs) up ys (at + j) 0 (inl (omega arith)) ∙ lay_in p at xs j 0 m (omega arith))

    high : (j : ℕ) → j < length ys → get_or (lay (lay p up ys) at xs) (up + j) 0 ≡ get_or (lay (lay p at xs) up ys) (up + j) 0
    high j m =
        lay_out (lay p up ys) at xs (up + j) 0 (inr (omega arith)) ∙ lay_in p up ys j 0 m b
        ∙ sym (lay_in (lay p at xs) up ys j 0 m (omega (arith, lay_length p at xs)))

    go : (k : ℕ) → Dec (k < at) → Dec (k < at + length xs) → Dec (k < up) → Dec (k < up + length ys) → get_or (lay (lay p up ys) at xs) k 0 ≡ get_or (lay (lay p at xs) up ys) k 0
    go k (yes x) _ _ _ = out k (inl x) (inl (omega arith))
    go k (no x) (yes y) _ _ = let e : k ≡ at + (k - at) = omega (arith, x) in rw e (low (k - at) (omega (arith, x, y)))
    go k (no x) (no y) (yes z) _ = out k (inr (omega (arith, y))) (inl z)
    go k (no x) (no y) (no z) (yes w) = let e : k ≡ up + (k - up) = omega (arith, z) in rw e (high (k - up) (omega (arith, z, w)))
    go k (no x) (no y) (no z) (no w) = out k (inr (omega (arith, y))) (inr (omega (arith, w)))

pub store_under : (at c : ℕ) (ls : List Layer) (p : List ℕ) (d : ℕ) (ns : List ℕ) → d < length ls → ((e : ℕ) → e < length ls → (length (layer ls e).keys ≤ c) × (length (layer ls e).intervals ≤ c)) → length ns ≤ length (layer ls d).keys → spot at c d + length ns ≤ length p → store at c ls (lay p (spot at c d) ns) ≡ store at c ls p
unfolding store spot
store_under at c [] p d ns h r n b = absurd (omega arith)
store_under at c (l ∷ ls) p zero ns h r n b = ap (λ (q : List ℕ). store (at + c + c) c ls (lay q (at + c) l.intervals)) (lay_over p at ns l.keys n)
store_under at c (l ∷ ls) p (suc d) ns h r n b =
    let up = spot (at + c + c) c d in
    let s = spot_is (at + c + c) c d in
    let f = r 0 (omega arith) in
    ap (λ (q : List ℕ). store (at + c + c) c ls (lay q (at + c) l.intervals)) (apart p at l.keys up ns (omega arith) b)
    ∙ ap (store (at + c + c) c ls) (apart (lay p at l.keys) (at + c) l.intervals up ns (omega arith) (omega (arith, lay_length p at l.keys)))
    ∙ store_under (at + c + c) c ls (lay (lay p at l.keys) (at + c) l.intervals) d ns (omega arith) (λ e m. r (suc e) (omega arith)) n (omega (arith, lay_length (lay p at l.keys) (at + c) l.intervals, lay_length p at l.keys))
