-- Internal: the ring of a leapfrog: its places hold runs whose keys do not fall from the place of the least one round.
use Rattle.std.specs.Prelude.{ℕ, ◌≤◌, ◌<◌}

-- κ j is the key at place j of the ring; from p on, round to p again, they do not fall
pub record Round (κ : ℕ → ℕ) (k p : ℕ) : Type 0 where
  pub up : (i j : ℕ) → p ≤ i → i ≤ j → j < k → κ i ≤ κ j
  pub wrapped : (i j : ℕ) → i ≤ j → j < p → κ i ≤ κ j
  pub over : (i j : ℕ) → j < p → p ≤ i → i < k → κ i ≤ κ j
