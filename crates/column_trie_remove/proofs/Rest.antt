-- The rows without one of them: they ascend, the row put among them gives the rows back, and its places among either are the same.
use Prim.Native.Nat.{ℕ, suc}
use mathlib.Core.Path.{◌≡◌, refl, sym, ap, subst, ◌∙◌}
use mathlib.Core.Bool.{Bool, true, false}
use mathlib.Core.Logic.{⊎_elim}
use mathlib.Core.List.{List, [], ◌∷◌}
use lib.ListN.{length, take}
use Rattle.relation.specs.Order.{Row, pick}
use Rattle.relation.specs.Lists.{◌∈◌, hd, tl, not_in_nil, in_cons, anone, amore}
use Rattle.relation.specs.Rows.{Asc, Width, same, put}
use Rattle.relation.proofs.Tests.{T_true, true_T, not_both}
use Rattle.relation.proofs.Order.{irrefl, pick_not}
use Rattle.relation.proofs.Sorting.{same→eq, same_refl, asc_unique, in_put, put_self, put_old, put_asc, put_known}
use Rattle.relation.proofs.Rank.{rank, rank_put}
use Rattle.relation.proofs.Layers.{prefixes_asc, prefixes_grown, grown_put}
use Rattle.relation.proofs.Insert.{rank_of}
use Rattle.column_trie_path.specs.Known.{known}
use Rattle.column_trie_path.proofs.Known.{known_in, in_known}
use Rattle.column_trie_remove.specs.Remove.{without}

-- who remains
pub in_without : (r : Row) (qs : List Row) {x : Row} → x ∈ without r qs → (x ∈ qs) × (r ≡ x → ⊥)
unfolding without
in_without r [] m = absurd (not_in_nil m)
in_without r (q ∷ qs) {x} m = go (λ y k. in_without r qs k) (same r q) refl m
  where
    go : ((y : Row) → y ∈ without r qs → (y ∈ qs) × (r ≡ y → ⊥)) → (b : Bool) → same r q ≡ b → x ∈ pick b (without r qs) (q ∷ without r qs) → (x ∈ (q ∷ qs)) × (r ≡ x → ⊥)
    go ih true e n = let z = ih x n in (tl z.0, z.1)
    go ih false e n =
        ⊎_elim (λ (f : x ≡ q). (hd f, λ g. not_both (same r q) (subst (λ (z : Row). same r z ≡ true) (g ∙ f) (T_true (same r r) (same_refl r))) e))
        (λ (w : x ∈ without r qs). let z = ih x w in (tl z.0, z.1)) (in_cons n)

pub without_in : (r : Row) {x : Row} {qs : List Row} → x ∈ qs → (r ≡ x → ⊥) → x ∈ without r qs
unfolding without
without_in r {x = x} (hd {x = q} {xs = qs} e) n = go (same r q) refl
  where
    go : (b : Bool) → same r q ≡ b → x ∈ pick b (without r qs) (q ∷ without r qs)
    go true f = absurd (n (same→eq r q (true_T (same r q) f) ∙ sym e))
    go false f = hd e
without_in r {x = x} (tl {x = q} {xs = qs} m) n = go (same r q) (without_in r m n)
  where
    go : (b : Bool) → x ∈ without r qs → x ∈ pick b (without r qs) (q ∷ without r qs)
    go true w = w
    go false w = tl w

pub without_asc : (r : Row) {qs : List Row} → Asc qs → Asc (without r qs)
unfolding without
without_asc r anone = anone
without_asc r (amore {r = q} {rs = qs} f s) = go (same r q) (without_asc r s)
  where
    go : (b : Bool) → Asc (without r qs) → Asc (pick b (without r qs) (q ∷ without r qs))
    go true t = t
    go false t = amore (λ x m. f x (in_without r qs m).0) t

-- an absent row leaves the rows as they are
pub without_absent : (r : Row) {qs : List Row} → Asc qs → (r ∈ qs → ⊥) → without r qs ≡ qs
without_absent r {qs} s n = asc_unique (without_asc r s) s (λ x. (λ m. (in_without r qs m).0, λ m. without_in r m (λ e. n (subst (λ (z : Row). z ∈ qs) (sym e) m))))

pub not_there : (r : Row) (qs : List Row) → r ∈ without r qs → ⊥
not_there r qs m = (in_without r qs m).1 refl

-- put back, it is there again
pub put_back : {r : Row} {qs : List Row} → Asc qs → r ∈ qs → put r (without r qs) ≡ qs
put_back {r} {qs} s h = asc_unique (put_asc r (without_asc r s)) s (λ x. (back x, forth x))
  where
    back : (x : Row) → x ∈ put r (without r qs) → x ∈ qs
    back x m = ⊎_elim (λ (e : x ≡ r). subst (λ (z : Row). z ∈ qs) (sym e) h) (λ (w : x ∈ without r qs). (in_without r qs w).0) (in_put r (without r qs) m)

    forth : (x : Row) → x ∈ qs → x ∈ put r (without r qs)
    forth x m = go (same r x) refl
      where
        go : (b : Bool) → same r x ≡ b → x ∈ put r (without r qs)
        go true e = subst (λ (z : Row). z ∈ put r (without r qs)) (same→eq r x (true_T (same r x) e)) (put_self r (without r qs))
        go false e = put_old r (without r qs) (without_in r m (λ f. not_both (same r x) (subst (λ (z : Row). same r z ≡ true) f (T_true (same r r) (same_refl r))) e))

-- a new row, put and taken out again
pub take_back : {r : Row} {qs : List Row} → Asc qs → (r ∈ qs → ⊥) → without r (put r qs) ≡ qs
take_back {r} {qs} s n = asc_unique (without_asc r (put_asc r s)) s (λ x. (back x, λ m. without_in r (put_old r qs m) (λ e. n (subst (λ (z : Row). z ∈ qs) (sym e) m))))
  where
    back : (x : Row) → x ∈ without r (put r qs) → x ∈ qs
    back x m = let w = in_without r (put r qs) m in ⊎_elim (λ (e : x ≡ r). absurd (w.1 (sym e))) (λ (v : x ∈ qs). v) (in_put r qs w.0)

pub without_width : {a : ℕ} {rows : List Row} (r : Row) → Width a rows → Width a (without r rows)
without_width {rows = rows} r w q m = w q (in_without r rows m).0

-- a row's place among rows is the same before and after it is put there
rank_put_self : (u : Row) {qs : List Row} → Asc qs → rank u (put u qs) ≡ rank u qs
rank_put_self u {qs} s = go (known qs u) refl
  where
    go : (b : Bool) → known qs u ≡ b → rank u (put u qs) ≡ rank u qs
    go true e = ap (rank u) (put_known s (known_in qs u e))
    go false e = rank_put u u s (λ m. not_both (known qs u) (in_known m) e) ∙ pick_not (suc (rank u qs)) (rank u qs) (λ l. irrefl l)

pub rank_same : {a : ℕ} (rest : List Row) (r : Row) → Width a rest → length r ≡ a → (d : ℕ) → rank_of (put r rest) r d ≡ rank_of rest r d
rank_same {a} rest r w l d = ap (rank (take d r)) (prefixes_grown a rest r (put r rest) w l (grown_put rest r) d) ∙ rank_put_self (take d r) (prefixes_asc d rest)
