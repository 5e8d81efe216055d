-- Where a seek can end, on any run: within it. And that it has found a key exactly where it ends inside.
use Prim.Native.Nat.{ℕ, zero, suc, ◌+◌, ◌*◌, ◌/◌, ◌≤◌, ◌<◌, min}
use mathlib.Core.Path.{◌≡◌, refl, ◌∙◌}
use mathlib.Core.Bool.{Bool, true, false}
use mathlib.Core.List.{List, [], ◌∷◌}
use native.Mathlib.Omega.{arith}
use lib.ListN.{length, get_or, drop}
use lib.Dec.{ltb, leb-suc-suc}
use borrow.Author.Tests.{ltb-true, lt-ltb, le-ltb}
use Rattle.relation.specs.Lists.{nonempty}
use Rattle.seek.specs.Seek.{gallops, galloping_of, seek_of}
use Rattle.seek.specs.declared.SeekStrategy.{SeekStrategy}
use Rattle.seek.specs.declared.SeekStrategy.TheVariants.{Linear, Binary, Galloping}
use Rattle.seek.proofs.Laws.{halving_within, linear_leading}

module _ (run : List ℕ) (t : ℕ) where
  -- the halving that galloping ends with stays between half the bound and the run's end
  gallops_within : (fuel bound p : ℕ) → 0 < bound → bound / 2 < length run → (gallops fuel run t bound p).offset ≤ length run
  unfolding gallops
  gallops_within zero bound p b h = omega (arith, halving_within run t (bound / 2 + 1) (min bound (length run)) p (omega arith))
  gallops_within (suc fuel) bound p b h = inside (gallops_within fuel (bound * 2) (p + 1) (omega arith)) (ltb bound (length run)) refl
    where
      key : (bound * 2 / 2 < length run → (gallops fuel run t (bound * 2) (p + 1)).offset ≤ length run) → bound < length run → (x : Bool) → ltb (get_or run bound 0) t ≡ x → (gallops (suc fuel) run t bound p).offset ≤ length run
      key ih l true q = simp (gallops, lt-ltb bound (length run) l, q) (ih (omega arith))
      key ih l false q = simp (gallops, lt-ltb bound (length run) l, q) (omega (arith, halving_within run t (bound / 2 + 1) (min bound (length run)) (p + 1) (omega arith)))

      inside : (bound * 2 / 2 < length run → (gallops fuel run t (bound * 2) (p + 1)).offset ≤ length run) → (x : Bool) → ltb bound (length run) ≡ x → (gallops (suc fuel) run t bound p).offset ≤ length run
      inside ih true q = key ih (ltb-true bound (length run) q) (ltb (get_or run bound 0) t) refl
      inside ih false q = simp (gallops, q) (omega (arith, halving_within run t (bound / 2 + 1) (min bound (length run)) p (omega arith)))

  galloping_within : (galloping_of run t).offset ≤ length run
  unfolding galloping_of
  galloping_within = start (ltb 0 (length run)) refl
    where
      key : 0 < length run → (x : Bool) → ltb (get_or run 0 0) t ≡ x → (galloping_of run t).offset ≤ length run
      key l true q = simp (galloping_of, lt-ltb 0 (length run) l, q) (gallops_within (length run) 1 1 (omega arith) l)
      key l false q = simp (galloping_of, lt-ltb 0 (length run) l, q) (omega arith)

      start : (x : Bool) → ltb 0 (length run) ≡ x → (galloping_of run t).offset ≤ length run
      start true q = key (ltb-true 0 (length run) q) (ltb (get_or run 0 0) t) refl
      start false q = simp (galloping_of, q) (omega arith)

  pub seek_within : (s : SeekStrategy) → (seek_of s run t).offset ≤ length run
  seek_within Linear = (linear_leading run t).inside
  seek_within Binary = (halving_within run t 0 (length run) 0 (omega arith)).1
  seek_within Galloping = galloping_within

-- a key is left behind n others exactly if there are more than n
pub nonempty_drop : (l : List ℕ) (n : ℕ) → ltb n (length l) ≡ nonempty (drop n l)
nonempty_drop [] n = le-ltb n 0 (omega arith) ∙ none n
  where
    none : (n : ℕ) → false ≡ nonempty {A = ℕ} (drop n [])
    none zero = refl
    none (suc n) = refl
nonempty_drop (k ∷ l) zero = lt-ltb 0 (suc (length l)) (omega arith)
nonempty_drop (k ∷ l) (suc n) = leb-suc-suc (suc n) (length l) ∙ nonempty_drop l n
