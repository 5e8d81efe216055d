-- Internal: what a seek of one atom's whole run leaves: the keys of the run from the target on, and the other atoms as they were.
use Rattle.std.specs.Prelude.{◌≡◌, Bool, true, false, List, [], ℕ, ◌≤◌, ◌<◌, length, get_or}
use Rattle.relation.specs.Runs.{from}
use Rattle.stretches.specs.Stand.{stand_of, whole_of, Tailed, Sized, Laid}
use Rattle.stretches.specs.declared.State.{State}
use Rattle.stretches.specs.Whole.{Forward}

-- atom a is sought to t; b says whether it stands on a key there. As of any call over whole runs: on a last piece it goes forward, and at the first column of a laid-over table it stays so
pub record SoughtOne (pool ends : List ℕ) (a t : ℕ) (s₀ s : State) (b : Bool) : Type 0 where
  pub whole : whole_of pool (stand_of s ends a) ≡ from t (whole_of pool (stand_of s₀ ends a))
  pub some : b ≡ true → get_or s.at a 0 < get_or s.end a 0
  pub none : b ≡ false → from t (whole_of pool (stand_of s₀ ends a)) ≡ []
  pub sized : Sized s ends
  pub within : get_or s.at a 0 ≤ get_or s.end a 0
  pub high : get_or s.end a 0 ≤ length pool
  pub tailed : Tailed pool (stand_of s ends a)
  pub others : (c : ℕ) → (c ≡ a → ⊥) → stand_of s ends c ≡ stand_of s₀ ends c
  pub last : get_or s₀.left a 0 ≡ 0 → Forward (stand_of s₀ ends a) (stand_of s ends a)
  pub laid : (lo : ℕ → ℕ) (school : List ℕ) → Laid pool lo school (stand_of s₀ ends a) → Laid pool lo school (stand_of s ends a)
