-- The numbers of the columns, and their kinds taken one by one.
use Prim.Native.Nat.{ℕ, zero, suc, ◌+◌, ◌≤◌, ◌<◌}
use mathlib.Core.Path.{◌≡◌, refl, sym, ap, ◌∙◌}
use mathlib.Core.Bool.{Bool, false}
use mathlib.Core.List.{List, [], ◌∷◌, map}
use native.Mathlib.Omega.{arith}
use lib.ListN.{length, take, get_or, set, length-map}
use lib.Seq.{get_or-take, length-take-le}
use Rattle.relation.proofs.Lists.{get_or_in}
use Rattle.query.specs.Meaning.{Permutation}
use Rattle.query.specs.Checks.{permutes}
use Rattle.column_trie.specs.Limits.{max_arity}
use Rattle.from_sorted.specs.Answer.{kept_kinds}
use Rattle.from_sorted.proofs.Taken.{kept_next}

module _ (n : ℕ) (cs : List ℕ) (few : n ≤ max_arity) (long : length cs ≡ max_arity) where
  at : (k : ℕ) → k < n → get_or (take n cs) k 0 ≡ get_or cs k 0
  at k h = get_or-take n cs k 0 h

  pub size : length (take n cs) ≡ n
  size = length-take-le n cs (omega (arith, long))

  -- of the first n numbers, as the code asks it
  pub asked : permutes (length (take n cs)) (take n cs) ≡ permutes n (take n cs)
  asked = ap (λ (m : ℕ). permutes m (take n cs)) size

  -- a permutation's numbers are columns
  pub columns_inside : Permutation n (take n cs) → (k : ℕ) → k < n → get_or cs k 0 < n
  columns_inside p k h = omega (arith, p.below (get_or (take n cs) k 0) (get_or_in (take n cs) k 0 (omega (arith, size))), at k h)

-- one column's kind more
pub map_at : (f : ℕ → Bool) (cs : List ℕ) (k : ℕ) → k < length cs → get_or (map f cs) k false ≡ f (get_or cs k 0)
map_at f [] k h = absurd (omega arith)
map_at f (c ∷ cs) zero h = refl
map_at f (c ∷ cs) (suc k) h = map_at f cs k (omega arith)

pub kinds_next : (n : ℕ) (grade : List Bool) (cs : List ℕ) (d : ℕ) → n ≤ max_arity → length cs ≡ max_arity → d < n → set (kept_kinds d (map (λ (c : ℕ). get_or grade c false) (take n cs))) d (get_or grade (get_or cs d 0) false) ≡ kept_kinds (d + 1) (map (λ (c : ℕ). get_or grade c false) (take n cs))
kinds_next n grade cs d few long h =
    let ks = map (λ (c : ℕ). get_or grade c false) (take n cs) in
    let l : length ks ≡ n = length-map (take n cs) (λ (c : ℕ). get_or grade c false) ∙ size n cs few long in
    ap (set (kept_kinds d ks) d) (sym (map_at (λ (c : ℕ). get_or grade c false) (take n cs) d (omega (arith, size n cs few long)) ∙ ap (λ (c : ℕ). get_or grade c false) (get_or-take n cs d 0 h)))
    ∙ kept_next d ks (omega arith) (omega arith)
