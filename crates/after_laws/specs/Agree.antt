-- Of theorems: answers that agree: a start's with a join's, and those of two calls.
use Rattle.std.specs.Prelude.{ℕ, ◌≡◌, List}
use Rattle.leapfrog_triejoin.specs.declared.Joined.{Joined}
use Rattle.rows_after.specs.declared.JoinedAfter.{JoinedAfter}

-- a start's answer and window beside a join's: the number, the rows written, and every word of the window
pub record Agree (r : JoinedAfter) (after : List ℕ) (p : Joined) (join_after : List ℕ) : Type 0 where
  pub number : r.number ≡ p.number
  pub rows : r.rows ≡ p.rows
  pub words : after ≡ join_after

-- the answers and windows of two calls are the same
pub record Alike (r₁ r₂ : JoinedAfter) (w₁ w₂ : List ℕ) : Type 0 where
  pub answer : r₁ ≡ r₂
  pub window : w₁ ≡ w₂
