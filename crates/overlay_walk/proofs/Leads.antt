-- Two answers by key: which leads, and the least of both, as the two runs merged have it.
use Prim.Native.Nat.{ℕ, ◌<◌}
use mathlib.Core.Path.{◌≡◌, refl, sym, ap, ◌∙◌, subst}
use mathlib.Core.Bool.{Bool, true, false, ◌||◌}
use mathlib.Core.List.{List, [], ◌∷◌}
use native.Mathlib.Omega.{arith}
use native.Mathlib.Decide.{dec_lt}
use lib.Dec.{eqb, leb}
use borrow.Author.Tests.{le-leb, lt-leb, eq-eqb, ne_eqb}
use Rattle.relation.specs.Order.{pick}
use Rattle.relation.specs.Lists.{Ascends, nonempty}
use Rattle.column_trie_iter.specs.Cursor.{key_in}
use Rattle.overlay.specs.Merge.{merge}
use Rattle.overlay.proofs.Merge.{merge_none, merge_less, merge_more, merge_same}
use Rattle.overlay_place.specs.Pairs.{leads, least}
use Rattle.overlay_walk.specs.Pair.{on}

-- what two runs tell: the least key is the merged run's first, and each leads exactly where it stands on it
pub record Told (xs ys zs : List ℕ) : Type 0 where
  pub least_is : least (key_in xs) (key_in ys) ≡ key_in zs
  pub first : (k : ℕ) (ks : List ℕ) → zs ≡ k ∷ ks → (leads (key_in xs) (key_in ys) ≡ on k xs) × (leads (key_in ys) (key_in xs) ≡ on k ys)
  pub none : zs ≡ [] → (xs ≡ []) × (ys ≡ [])
  pub some : (nonempty xs || nonempty ys) ≡ nonempty zs

not_nil : {A : Type 0} {k : ℕ} {ks : List ℕ} → [] ≡ k ∷ ks → A
not_nil e = let z : ◌≡◌ {A = ℕ} 0 1 = cc in absurd (omega arith)

same_head : {x k : ℕ} {xs ks : List ℕ} → x ∷ xs ≡ k ∷ ks → x ≡ k
same_head e = cc

pub told : (xs ys : List ℕ) → Ascends ◌<◌ xs → Ascends ◌<◌ ys → Told xs ys (merge xs ys)
unfolding merge
told [] [] p q = record { least_is = refl; first = λ k ks e. not_nil e; none = λ e. (refl, refl); some = refl }
told [] (y ∷ ys) p q =
    record {
      least_is = refl;
      first = λ k ks e. (refl, sym (eq-eqb y k (same_head e)));
      none = λ e. not_nil (sym e);
      some = refl;
    }
told (x ∷ xs) [] p q =
    subst (Told (x ∷ xs) []) (sym (merge_none p))
    (record {
      least_is = refl;
      first = λ k ks e. (sym (eq-eqb x k (same_head e)), refl);
      none = λ e. not_nil (sym e);
      some = refl;
    })
told (x ∷ xs) (y ∷ ys) p q = go (dec_lt x y) (dec_lt y x)
  where
    by : (b c : Bool) → leb x y ≡ b → leb y x ≡ c → {z : ℕ} {zs : List ℕ} → pick b x y ≡ z → eqb x z ≡ b → eqb y z ≡ c → Told (x ∷ xs) (y ∷ ys) (z ∷ zs)
    by b c f g {z} {zs} l m n =
        record {
          least_is = ap (λ (d : Bool). pick d (key_in (x ∷ xs)) (key_in (y ∷ ys))) f ∙ chosen b ∙ ap (λ (w : ℕ). key_in (w ∷ zs)) l;
          first = λ k ks e. (f ∙ sym m ∙ ap (eqb x) (same_head e), g ∙ sym n ∙ ap (eqb y) (same_head e));
          none = λ e. not_nil (sym e);
          some = refl;
        }
      where
        chosen : (d : Bool) → pick d (key_in (x ∷ xs)) (key_in (y ∷ ys)) ≡ key_in (pick d x y ∷ zs)
        chosen true = refl
        chosen false = refl

    go : Dec (x < y) → Dec (y < x) → Told (x ∷ xs) (y ∷ ys) (merge (x ∷ xs) (y ∷ ys))
    go (yes l) r = subst (Told (x ∷ xs) (y ∷ ys)) (sym (merge_less p q l)) (by true false (le-leb x y (omega arith)) (lt-leb y x l) refl (eq-eqb x x refl) (ne_eqb y x (λ e. omega arith)))
    go (no l) (yes r) = subst (Told (x ∷ xs) (y ∷ ys)) (sym (merge_more p q r)) (by false true (lt-leb x y r) (le-leb y x (omega arith)) refl (ne_eqb x y (λ e. omega arith)) (eq-eqb y y refl))
    go (no l) (no r) =
        let e : x ≡ y = omega arith in
        subst (Told (x ∷ xs) (y ∷ ys)) (sym (merge_same p q e)) (by true true (le-leb x y (omega arith)) (le-leb y x (omega arith)) refl (eq-eqb x x refl) (eq-eqb y x (sym e)))
