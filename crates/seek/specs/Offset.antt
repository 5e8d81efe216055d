-- Of theorems: what a seek's offset is to be on a run whose keys don't fall, and what the halving rule's is on a part of such a kind.
use Rattle.std.specs.Prelude.{◌≡◌, List, ℕ, ◌≤◌, ◌<◌, length, get_or}

-- no key is above a later one
abbrev pub NonFalling : List ℕ → Type 0
NonFalling run = (a b : ℕ) → a ≤ b → b < length run → get_or run a 0 ≤ get_or run b 0

-- o is the number of keys below the target on such a run: every key before o is below, and the key at o, if o is inside the run, is not
pub record Leading (run : List ℕ) (t o : ℕ) : Type 0 where
  pub inside : o ≤ length run
  pub before : (k : ℕ) → k < o → get_or run k 0 < t
  pub stops : o < length run → t ≤ get_or run o 0

-- the target is one of the keys
pub record IsKey (run : List ℕ) (t : ℕ) : Type 0 where
  pub place : ℕ
  pub inside : place < length run
  pub there : get_or run place 0 ≡ t

-- the same of the part from..to, whatever stands outside it
abbrev pub NonFallingIn : List ℕ → ℕ → ℕ → Type 0
NonFallingIn run from to = (a b : ℕ) → from ≤ a → a ≤ b → b < to → get_or run a 0 ≤ get_or run b 0

pub record LeadingIn (run : List ℕ) (t from to o : ℕ) : Type 0 where
  pub after : from ≤ o
  pub inside : o ≤ to
  pub before : (k : ℕ) → from ≤ k → k < o → get_or run k 0 < t
  pub stops : o < to → t ≤ get_or run o 0
