-- A merge begins with a stretch of one of the two runs. Idea: an ascending list is determined by its members.
use Prim.Native.Nat.{ℕ, ◌+◌, ◌≤◌, ◌<◌}
use native.Mathlib.Nat.{eq-or-lt_of_le}
use native.Mathlib.Omega.{arith}
use mathlib.Core.Path.{◌≡◌, subst}
use mathlib.Core.Logic.{◌⊎◌, inl, inr, ⊎_elim}
use mathlib.Core.List.Memᴰ
use mathlib.Core.List.{List, [], ◌∷◌, ◌++◌}
use Rattle.relation.specs.Lists.{◌∈◌, not_in_nil, in_cons, Ascends, anone, amore}
use Rattle.relation.specs.Runs.{from}
use Rattle.relation.proofs.Lists.{ascends_head, ascends_tail, ascends_append}
use Rattle.relation.proofs.Runs.{in_from, from_in, from_ascends}
use Rattle.overlay.specs.Merge.{merge}
use Rattle.overlay.proofs.Merge.{in_merge, merge_left, merge_right, merge_ascends, merge_is}

-- a list that ascends, in two
pub split : (zs : List ℕ) {ws : List ℕ} → Ascends ◌<◌ (zs ++ ws) → Ascends ◌<◌ zs × Ascends ◌<◌ ws × ((a b : ℕ) → a ∈ zs → b ∈ ws → a < b)
split [] s = (anone, s, λ a b i. absurd (not_in_nil i))
split (z ∷ zs) {ws} s =
    let t = split zs (ascends_tail s) in
    (amore (λ b i. ascends_head s b (Memᴰ.append_left ws i)) t.0, t.1, λ a b i j. ⊎_elim (λ (e : a ≡ z). rw e (ascends_head s b (Memᴰ.append_right zs j))) (λ (k : a ∈ zs). t.2 a b k j) (in_cons i))

-- the merge of zs and what follows it with ys, where k, the first of all, is among zs, and zs comes before the keys of ys past k
module _ (k : ℕ) (zs ws ys : List ℕ) (s : Ascends ◌<◌ (zs ++ ws)) (u : Ascends ◌<◌ ys) (i : k ∈ zs) (f : (y : ℕ) → y ∈ ys → k ≤ y) (g : (a b : ℕ) → a ∈ zs → b ∈ from (k + 1) ys → a < b) where
  pub stretch_merge : merge (zs ++ ws) ys ≡ zs ++ merge ws (from (k + 1) ys)
  stretch_merge =
      merge_is u
      (ascends_append (split zs s).0 (merge_ascends ws (from_ascends (k + 1) u))
      (λ a b m n. ⊎_elim (λ (j : b ∈ ws). (split zs s).2 a b m j) (λ (j : b ∈ from (k + 1) ys). g a b m j) (in_merge ws (from (k + 1) ys) n)))
      back
      (λ x m. ⊎_elim {C = x ∈ (zs ++ merge ws (from (k + 1) ys))} (λ (j : x ∈ zs). Memᴰ.append_left (merge ws (from (k + 1) ys)) j) (λ (j : x ∈ ws). Memᴰ.append_right zs (merge_left (from (k + 1) ys) j)) (Memᴰ.append_cases zs m))
      (λ x m. ⊎_elim
      (λ (e : k ≡ x). Memᴰ.append_left (merge ws (from (k + 1) ys)) (subst (λ (y : ℕ). y ∈ zs) e i))
      (λ (l : k < x). Memᴰ.append_right zs (merge_right ws (from_in (k + 1) ys (omega arith) m)))
      (eq-or-lt_of_le (f x m)))
    where
      back : (x : ℕ) → x ∈ (zs ++ merge ws (from (k + 1) ys)) → (x ∈ (zs ++ ws)) ⊎ (x ∈ ys)
      back x m =
          ⊎_elim {C = (x ∈ (zs ++ ws)) ⊎ (x ∈ ys)}
          (λ (j : x ∈ zs). inl (Memᴰ.append_left ws j))
          (λ (j : x ∈ merge ws (from (k + 1) ys)). ⊎_elim {C = (x ∈ (zs ++ ws)) ⊎ (x ∈ ys)} (λ (n : x ∈ ws). inl (Memᴰ.append_right zs n)) (λ (n : x ∈ from (k + 1) ys). inr (in_from (k + 1) ys n)) (in_merge ws (from (k + 1) ys) j))
          (Memᴰ.append_cases zs m)
