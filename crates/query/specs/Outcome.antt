-- Public: what comes of a query: its number, how many rows are written, and the window's words.
use Rattle.std.specs.Prelude.{ℕ, List}
use Rattle.relation.specs.Order.{pick}
use Rattle.query.specs.Window.{Progress}

-- the refusal or 0, the rows written, and the window's words
pub record Comes : Type 0 where
  pub number : ℕ
  pub rows : ℕ
  pub words : List ℕ

-- the number that a finished window gives
unfoldable pub told : Progress → Comes
told s = record { number = pick s.full 12 0; rows = s.count; words = s.words }

-- a refusal but 12: no rows, and the window as it was
unfoldable pub refused : ℕ → List ℕ → Comes
refused number window = record { number = number; rows = 0; words = window }
