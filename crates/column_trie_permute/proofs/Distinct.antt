-- Permuted rows are as distinct as the rows: so what they are sorted to is their set.
use Prim.Native.Nat.{ℕ}
use mathlib.Core.Path.{◌≡◌, refl, sym, ap, ◌∙◌, subst}
use mathlib.Core.Bool.{Bool, true, false}
use mathlib.Core.List.{List, [], ◌∷◌}
use native.Mathlib.Omega.{arith}
use lib.ListN.{length, get_or}
use lib.Seq.{ext_get_or}
use Rattle.relation.specs.Order.{Row, pick, before, ◌≺◌}
use Rattle.relation.specs.Lists.{◌∈◌, hd, tl, Ascends, anone, amore}
use Rattle.relation.specs.Rows.{Asc, Width, place, put, sort, as_set}
use Rattle.relation.proofs.Lists.{ascends_map, in_get_or}
use Rattle.relation.proofs.Order.{Tri, lt, eq, gt, tri, irrefl, asym, before→≺, ≺→before}
use Rattle.relation.proofs.Tests.{T_true, true_T}
use Rattle.relation.proofs.Sorting.{put_lt, put_gt, as_set_members}
use Rattle.query.specs.Meaning.{part, Permutation}
use Rattle.query.proofs.Perm.{cover}
use Rattle.permuted_rows.specs.Permuted.{permuted}
use Rattle.permuted_rows.proofs.Rows.{part_word}

-- rows of n words are determined by how they read in a permutation of their places
pub same_row : {n : ℕ} {cs : List ℕ} → Permutation n cs → (u v : Row) → length u ≡ n → length v ≡ n → part cs u ≡ part cs v → u ≡ v
same_row {n} {cs} q u v l m e = ext_get_or 0 u v (l ∙ sym m) (λ i h.
    let t = in_get_or 0 (cover q i (omega arith)) in
    let w = ap (λ (r : Row). get_or r t.0 0) e in
    ap (λ (z : ℕ). get_or u z 0) (sym t.2) ∙ sym (part_word cs u t.0 t.1) ∙ w ∙ part_word cs v t.0 t.1 ∙ ap (λ (z : ℕ). get_or v z 0) t.2)

abbrev pub Different : List Row → Type 0
Different rows = Ascends (λ (r q : Row). r ≡ q → ⊥) rows

pub permuted_different : {n : ℕ} {cs : List ℕ} {rows : List Row} → Permutation n cs → Width n rows → Asc rows → Different (permuted cs rows)
unfolding permuted
permuted_different {cs = cs} q w s = ascends_map {R = ◌≺◌} {S = λ (r p : Row). r ≡ p → ⊥} (part cs) (λ a b m k l e. irrefl (subst (λ (z : Row). z ≺ b) (same_row q a b (w a m) (w b k) e) l)) s

put_none : (r : Row) → put r [] ≡ r ∷ []
unfolding put
put_none r = refl

not_before : {r q : Row} → q ≺ r → before r q ≡ false
not_before {r} {q} l = go (before r q) refl
  where
    go : (b : Bool) → before r q ≡ b → before r q ≡ false
    go true e = absurd (asym l (before→≺ r q (true_T (before r q) e)))
    go false e = e

-- a row that is not there is placed as it is put
place_put : (r : Row) (qs : List Row) → (r ∈ qs → ⊥) → place r qs ≡ put r qs
unfolding place
place_put r [] n = sym (put_none r)
place_put r (q ∷ qs) n = go (place_put r qs (λ m. n (tl m))) (tri r q)
  where
    go : place r qs ≡ put r qs → Tri r q → pick (before r q) (r ∷ (q ∷ qs)) (q ∷ place r qs) ≡ put r (q ∷ qs)
    go rest (lt l) = ap (λ (b : Bool). pick b (r ∷ (q ∷ qs)) (q ∷ place r qs)) (T_true (before r q) (≺→before l)) ∙ sym (put_lt r q qs l)
    go rest (eq e) = absurd (n (hd e))
    go rest (gt l) = ap (λ (b : Bool). pick b (r ∷ (q ∷ qs)) (q ∷ place r qs)) (not_before l) ∙ ap (λ (rs : List Row). q ∷ rs) rest ∙ sym (put_gt r q qs l)

pub sort_is_set : {rows : List Row} → Different rows → sort rows ≡ as_set rows
unfolding sort as_set
sort_is_set anone = refl
sort_is_set (amore {r = r} {rs = rs} f s) = ap (place r) (sort_is_set s) ∙ place_put r (as_set rs) (λ m. f r ((as_set_members rs r).0 m) refl)
