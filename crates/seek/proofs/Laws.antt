-- The laws of seeking that other crates cite, over the rules of specs/Seek.antt and for any run. On a non-falling run every strategy's
-- offset leads, and only one offset does, so the strategies agree, on hits too: there is one exactly when the target is one of the keys. What each
-- strategy and the halving rule cost stands beside it.
use mathlib.Core.Path.{◌≡◌, refl, ap}
use mathlib.Core.List.{List}
use mathlib.Core.Bool.{Bool, true, false}
use Prim.Native.Nat.{ℕ, ◌≤◌, ◌<◌}
use native.Mathlib.Omega.{arith}
use lib.ListN.{length}
use lib.Dec.{ltb}
use borrow.Author.Tests.{ltb-true, ltb-false}
use Rattle.seek.specs.declared.SeekStrategy.{SeekStrategy}
use Rattle.seek.specs.declared.SeekStrategy.TheVariants.{Linear, Binary, Galloping}
use Rattle.seek.specs.Seek.{binary_of, hit_at, seek_of}
use Rattle.seek.specs.Offset.{NonFalling, Leading, IsKey}
use Rattle.seek.specs.Probes.{digits}
use Rattle.seek.proofs.Digits.{below_digits}
pub use Rattle.seek.proofs.Hits.{hit_means, hit_given}
pub use Rattle.seek.proofs.HalvingLaws.{halving_within, halving_leading_in, halving_leading, halving_cost_power, halving_cost}
pub use Rattle.seek.proofs.ScanningLaws.{linear_leading, linear_cost}
pub use Rattle.seek.proofs.GallopingLaws.{galloping_leading, galloping_cost}

-- two offsets that lead are one
pub leading_one : (run : List ℕ) (t a b : ℕ) → Leading run t a → Leading run t b → a ≡ b
leading_one run t a b x y = test (ltb a b) (ltb b a) refl refl
  where
    test : (p q : Bool) → ltb a b ≡ p → ltb b a ≡ q → a ≡ b
    test true q e f =
        let l = ltb-true a b e in
        omega (arith, y.before a l, x.stops (omega arith))
    test false true e f =
        let l = ltb-true b a f in
        omega (arith, x.before b l, y.stops (omega arith))
    test false false e f = omega (arith, ltb-false a b e, ltb-false b a f)

-- halving the whole run makes at most as many probes as its length has binary digits
pub binary_cost : (run : List ℕ) (t : ℕ) → (binary_of run t).probes ≤ digits (length run)
binary_cost run t = omega (arith, halving_cost_power run t 0 (length run) 0 (omega arith) (digits (length run)) (omega (arith, below_digits (length run))))

pub binary_leading : (run : List ℕ) (t : ℕ) → NonFalling run → Leading run t (binary_of run t).offset
binary_leading run t asc =
    halving_leading run t 0 (length run) 0 (omega arith) asc (omega arith) (λ k h. absurd (omega arith)) (λ h. absurd (omega arith))

-- On a non-falling run the offset is the number of keys below the target, by every strategy ..
pub leading : (s : SeekStrategy) (run : List ℕ) (t : ℕ) → NonFalling run → Leading run t (seek_of s run t).offset
leading Linear run t asc = linear_leading run t
leading Binary run t asc = binary_leading run t asc
leading Galloping run t asc = galloping_leading run t asc

-- .. so the strategies agree on it.
pub agree : (s s' : SeekStrategy) (run : List ℕ) (t : ℕ) → NonFalling run → (seek_of s run t).offset ≡ (seek_of s' run t).offset
agree s s' run t asc = leading_one run t (seek_of s run t).offset (seek_of s' run t).offset (leading s run t asc) (leading s' run t asc)

-- A hit on any run finds the target among its keys ..
pub a_hit_is_a_key : (s : SeekStrategy) (run : List ℕ) (t : ℕ) → (seek_of s run t).hit ≡ true → IsKey run t
a_hit_is_a_key s run t e =
    let h = hit_means run t (seek_of s run t).offset e in
    record { place = (seek_of s run t).offset; inside = h.0; there = h.1 }

-- .. and on a non-falling run a target that is one of the keys is hit.
pub a_key_is_hit : (s : SeekStrategy) (run : List ℕ) (t : ℕ) → NonFalling run → IsKey run t → (seek_of s run t).hit ≡ true
a_key_is_hit s run t asc k = hit_given run t o within (omega (arith, l.stops within, asc o k.place not_past k.inside, k.there))
  where
    o : ℕ
    o = (seek_of s run t).offset

    l : Leading run t o
    l = leading s run t asc

    not_past : o ≤ k.place
    not_past = test (ltb k.place o) refl
      where
        test : (b : Bool) → ltb k.place o ≡ b → o ≤ k.place
        test true e = absurd (omega (arith, l.before k.place (ltb-true k.place o e), k.there))
        test false e = ltb-false k.place o e

    within : o < length run
    within = omega (arith, k.inside, not_past)

pub hits_agree : (s s' : SeekStrategy) (run : List ℕ) (t : ℕ) → NonFalling run → (seek_of s run t).hit ≡ (seek_of s' run t).hit
hits_agree s s' run t asc = ap (hit_at run t) (agree s s' run t asc)
