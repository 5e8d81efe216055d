-- Of theorems: what the bounds on probes speak of.
use Rattle.std.specs.Prelude.{◌≡◌, List, true, false, ℕ, zero, suc, ◌+◌, ◌*◌, ◌/◌, ◌^◌, ◌≤◌, ◌<◌, length, ltb}
use Rattle.seek.specs.declared.Probed.{Probed}

-- the number of binary digits of n, none of 0, where n is at most `fuel`
unfoldable pub digits_in : ℕ → ℕ → ℕ
digits_in zero n = 0
digits_in (suc fuel) n = elim (ltb 0 n) [ true ↦ suc (digits_in fuel (n / 2)) | false ↦ 0 ]

abbrev pub digits : ℕ → ℕ
digits n = digits_in n n

-- j is the least with 2 ^ j not below d
pub record LeastPower (d j : ℕ) : Type 0 where
  pub reaches : d ≤ 2 ^ j
  pub least : (i : ℕ) → d ≤ 2 ^ i → j ≤ i

-- What galloping costs: nothing on an empty run; on any other one probe to offset 0, at most two to 1, and at most 2 j + 1 to a
-- later d, j the least with 2 ^ j not below d.
pub record GallopCost (run : List ℕ) (s : Probed) : Type 0 where
  pub none : length run ≡ 0 → s.probes ≡ 0
  pub first : 0 < length run → s.offset ≡ 0 → s.probes ≡ 1
  pub second : s.offset ≡ 1 → s.probes ≤ 2
  pub later : (j : ℕ) → 2 ≤ s.offset → LeastPower s.offset j → s.probes ≤ 2 * j + 1
