-- The binary digits of n are the least power of 2 above n, and so every d has a least power of 2 not below it. Each fact is an
-- induction on the fuel of `digitsIn`, by halves of n.
use Prim.Native.Nat.{ℕ, zero, suc, ◌-◌, ◌/◌, ◌^◌, ◌≤◌, ◌<◌}
use mathlib.Core.Path.{◌≡◌, refl}
use mathlib.Core.Bool.{Bool, true, false}
use native.Mathlib.Omega.{arith}
use lib.Dec.{ltb}
use lib.Pow.{pow_pos}
use borrow.Author.Tests.{ltb-true, ltb-false}
use Rattle.seek.specs.Probes.{digits_in, digits, LeastPower}

reach : (fuel n : ℕ) → n ≤ fuel → n < 2 ^ digits_in fuel n
unfolding digits_in
reach zero n h = omega arith
reach (suc fuel) n h = go (reach fuel (n / 2) (omega arith)) (ltb 0 n) refl
  where
    go : n / 2 < 2 ^ digits_in fuel (n / 2) → (b : Bool) → ltb 0 n ≡ b → n < 2 ^ digits_in (suc fuel) n
    go ih true q = simp (digits_in, q) (omega arith)
    go ih false q = simp (digits_in, q) (omega (arith, ltb-false 0 n q))

fewest : (fuel n i : ℕ) → n < 2 ^ i → digits_in fuel n ≤ i
unfolding digits_in
fewest zero n i h = omega arith
fewest (suc fuel) n i h = go (λ j. fewest fuel (n / 2) j) i h (ltb 0 n) refl
  where
    go : ((j : ℕ) → n / 2 < 2 ^ j → digits_in fuel (n / 2) ≤ j) → (i : ℕ) → n < 2 ^ i → (b : Bool) → ltb 0 n ≡ b → digits_in (suc fuel) n ≤ i
    go ih i h false q = simp (digits_in, q) (omega arith)
    go ih zero h true q = absurd (omega (arith, ltb-true 0 n q))
    go ih (suc i) h true q = simp (digits_in, q) (omega (arith, ih i (omega arith)))

-- n is below 2 to the number of its digits ..
pub below_digits : (n : ℕ) → n < 2 ^ digits n
below_digits n = reach n n (omega arith)

-- .. and below no smaller power of 2
pub digits_fewest : (n i : ℕ) → n < 2 ^ i → digits n ≤ i
digits_fewest n i h = fewest n n i h

-- the least power that the bound on galloping speaks of is there, for every d
pub least_power : (d : ℕ) → LeastPower d (digits (d - 1))
least_power d = record {
  reaches = omega (arith, below_digits (d - 1));
  least = λ i h. digits_fewest (d - 1) i (omega (arith, pow_pos i));
}

pub digit_cases : (digits 0 ≡ 0) × (digits 1 ≡ 1) × (digits 7 ≡ 3) × (digits 8 ≡ 4) × (digits 255 ≡ 8) × (digits 256 ≡ 9)
unfolding digits_in
digit_cases = (refl, refl, refl, refl, refl, refl)
