-- Of theorems: what two engines' answers to one query have in common: the number, the rows written, and every word of the window. The seeks are the leapfrogs' alone.
use Rattle.std.specs.Prelude.{ℕ, ◌≡◌, List}
use Rattle.leapfrog_triejoin.specs.declared.Joined.{Joined}
use Rattle.plain_join.specs.declared.PlainJoined.{PlainJoined}

-- one join's answer and window beside the other's
pub record Agree (r : Joined) (after : List ℕ) (p : PlainJoined) (plainly_after : List ℕ) : Type 0 where
  pub number : r.number ≡ p.number
  pub rows : r.rows ≡ p.rows
  pub words : after ≡ plainly_after
