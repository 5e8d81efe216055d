-- Internal: the contracts of a `Window`: the window while rows are written into it.
use Rattle.std.specs.Prelude.{ℕ, ◌≡◌, ◌≤◌, Bool, false, List, length}
use Rattle.query.specs.Window.{Progress}
use Rattle.join_window.specs.declared.Window.{Window}

-- the window's words, the rows written, and whether it is full
abbrev pub written : List ℕ → ℕ → Bool → Progress
written words rows full = record { words = words; count = rows; full = full }

abbrev pub progress : Window → Progress
progress w = written w.words.now w.rows w.full

-- rows of n words can be written, or one be told not to fit: none was told yet, and the rows are few also where a row takes no words
pub record Open (n : ℕ) (w : Window) : Type 0 where
  pub rows_of : w.n ≡ n
  pub few : w.rows ≤ length w.words.now
  pub going : w.full ≡ false

-- w' is w with rows written: in the same words, as wide
pub record Kept (w w' : Window) : Type 0 where
  pub same : w'.words.ghost_name ≡ w.words.ghost_name
  pub rows_of : w'.n ≡ w.n

-- and the window stands so
pub record Wrote (w w' : Window) (s : Progress) : Type 0 where
  pub kept : Kept w w'
  pub stands : progress w' ≡ s

-- nothing is written yet
pub record Begun (n : ℕ) (w : Window) : Type 0 where
  pub rows_of : w.n ≡ n
  pub none : w.rows ≡ 0
  pub going : w.full ≡ false
