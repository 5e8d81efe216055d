-- Whose the keys of an atom at the first column of a laid-over table are, and plain atoms.
use mathlib.Core.Path.{◌≡◌, sym, subst, ap, ◌∙◌}
use mathlib.Core.Bool.{Bool}
use mathlib.Core.Logic.{⊎_elim}
use mathlib.Core.List.Memᴰ
use mathlib.Core.List.{List, [], ◌++◌, append-nil}
use Prim.Native.Nat.{ℕ, ◌-◌, ◌<◌}
use native.Mathlib.Decide.{ℕ_discrete}
use native.Mathlib.Omega.{arith}
use borrow.Author.Tests.{eq-eqb, ne_eqb}
use Rattle.relation.specs.Order.{pick}
use Rattle.relation.specs.Lists.{◌∈◌, not_in_nil, Ascends}
use Rattle.overlay.proofs.Merge.{merge_right}
use Rattle.overlay.proofs.Stretch.{split}
use Rattle.leapfrog_search.specs.Leapfrog.{part}
use Rattle.leapfrog_search.proofs.Parts.{part_none}
use Rattle.two_runs.specs.Runs.{run_of}
use Rattle.stretches.specs.Stand.{Stand, rest_of, tail_of, whole_of, Tailed, school_left, Laid}

module _ (pool : List ℕ) (s : Stand) where
  -- what is left of the other run lies in the tail
  other_in_tail : (z : ℕ) → z ∈ part pool (s.others - s.left) s.others → z ∈ tail_of pool s
  other_in_tail z i = go (ℕ_discrete s.left 0)
    where
      go : Dec (s.left ≡ 0) → z ∈ tail_of pool s
      go (yes e) = let q : s.others - s.left ≡ s.others = omega arith in absurd (not_in_nil (subst (λ (r : List ℕ). z ∈ r) (part_none pool (s.others - s.left) s.others q) i))
      go (no n) = subst (λ (b : Bool). z ∈ pick b [] (run_of pool (rest_of s))) (sym (ne_eqb s.left 0 n)) (merge_right (part pool s.end s.mine) i)

  -- a key of a maker's piece is none of the school's
  pub makers_alone : {lo : ℕ → ℕ} {school : List ℕ} → Tailed pool s → Laid pool lo school s → s.own ≡ 1 → (z : ℕ) → z ∈ part pool s.at s.end → z ∈ school → ⊥
  makers_alone t l o z i j =
      ⊎_elim
      (λ (k : z ∈ school_left pool s).
      let n : s.own ≡ 0 → ⊥ = λ e. omega arith in
      let m = (split (part pool s.at s.end) t.ascends).2 z z i (other_in_tail z (subst (λ (b : Bool). z ∈ pick b (part pool s.at s.mine) (part pool (s.others - s.left) s.others)) (ne_eqb s.own 0 n) k)) in
      omega arith)
      (λ (k : (y : ℕ) → y ∈ whole_of pool s → z < y). let m = k z (Memᴰ.append_left (tail_of pool s) i) in omega arith)
      (l.keys z j)

  -- on a last piece, as every plain atom is, the whole run is the piece
  pub last_whole : s.left ≡ 0 → whole_of pool s ≡ part pool s.at s.end
  last_whole e = ap (λ (b : Bool). part pool s.at s.end ++ pick b [] (run_of pool (rest_of s))) (eq-eqb s.left 0 e) ∙ append-nil (part pool s.at s.end)

  pub last_tailed : s.left ≡ 0 → Ascends ◌<◌ (part pool s.at s.end) → Tailed pool s
  last_tailed e a = record { behind = λ n. absurd (n e); ascends = subst (Ascends ◌<◌) (sym (last_whole e)) a }
