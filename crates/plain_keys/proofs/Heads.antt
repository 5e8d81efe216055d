-- The lesser of two keys; and the first key of two runs as one is the lesser of their first keys.
use Prim.Native.Nat.{ℕ, ◌<◌}
use native.Mathlib.Omega.{arith}
use mathlib.Core.Path.{◌≡◌, refl, sym, ap, ◌∙◌}
use mathlib.Core.Bool.{Bool, true, false, false≢true}
use mathlib.Core.List.{List, [], ◌∷◌}
use lib.Dec.{ltb}
use borrow.Author.Tests.{ltb-true, ltb-false}
use Rattle.std.specs.Prelude.{Option, Some, None, is_some, min}
use Rattle.std.specs.Option.{option_or}
use Rattle.relation.specs.Lists.{Ascends}
use Rattle.relation.specs.Runs.{from}
use Rattle.relation.proofs.Runs.{from_ascends}
use Rattle.overlay.specs.Merge.{merge}
use Rattle.overlay.proofs.Merge.{merge_none, merge_from, merge_less, merge_more, merge_same}
use Rattle.plain_keys.specs.Keys.{head_of}

-- the lesser of two, or the only one
abbrev pub lesser : Option ℕ → Option ℕ → Option ℕ
lesser None b = b
lesser (Some x) None = Some x
lesser (Some x) (Some y) = Some (min x y)

pub lesser_second : (a b : Option ℕ) → is_some a ≡ false → lesser a b ≡ b
lesser_second None b e = refl
lesser_second (Some x) b e = absurd (false≢true (sym e))

pub lesser_some : {a b : Option ℕ} {x y : ℕ} → a ≡ Some x → b ≡ Some y → Some (min x y) ≡ lesser a b
lesser_some {a} {b} {x} {y} p q = ap (lesser (Some x)) (sym q) ∙ ap (λ (z : Option ℕ). lesser z b) (sym p)

pub none_lesser : {a : Option ℕ} (b : Option ℕ) → a ≡ None → option_or a b ≡ lesser a b
none_lesser b p = ap (λ (z : Option ℕ). option_or z b) p ∙ ap (λ (z : Option ℕ). lesser z b) (sym p)

pub lesser_none : (a : Option ℕ) {b : Option ℕ} → b ≡ None → option_or a b ≡ lesser a b
lesser_none a p = ap (option_or a) p ∙ go a ∙ ap (lesser a) (sym p)
  where
    go : (a : Option ℕ) → option_or a None ≡ lesser a None
    go None = refl
    go (Some x) = refl

-- the first key of two runs as one
lesser_heads : {xs ys : List ℕ} → Ascends ◌<◌ xs → Ascends ◌<◌ ys → lesser (head_of xs) (head_of ys) ≡ head_of (merge xs ys)
unfolding head_of merge
lesser_heads {xs = []} s u = refl
lesser_heads {xs = x ∷ xs} {ys = []} s u = sym (ap head_of (merge_none s))
lesser_heads {xs = x ∷ xs} {ys = y ∷ ys} s u = go (ltb y x) refl (ltb x y) refl
  where
    least : {k : ℕ} → min x y ≡ k → Some (min x y) ≡ Some k
    least e = ap (λ (k : ℕ). Some k) e

    go : (b : Bool) → ltb y x ≡ b → (c : Bool) → ltb x y ≡ c → Some (min x y) ≡ head_of (merge (x ∷ xs) (y ∷ ys))
    go true e c d = let h = ltb-true y x e in least (omega arith) ∙ sym (ap head_of (merge_more s u h))
    go false e true d = let h = ltb-true x y d in least (omega arith) ∙ sym (ap head_of (merge_less s u h))
    go false e false d = let h : x ≡ y = omega (arith, ltb-false y x e, ltb-false x y d) in least (omega arith) ∙ sym (ap head_of (merge_same s u h))

pub lesser_merge : (bound : ℕ) {xs ys : List ℕ} → Ascends ◌<◌ xs → Ascends ◌<◌ ys → lesser (head_of (from bound xs)) (head_of (from bound ys)) ≡ head_of (from bound (merge xs ys))
lesser_merge bound s u = lesser_heads (from_ascends bound s) (from_ascends bound u) ∙ ap head_of (merge_from bound s u)
