-- Internal: the contract of a writer's methods.
use Rattle.std.specs.Prelude.{ℕ, ◌≡◌, List}
use Rattle.layer_text.specs.declared.Writer.{Writer}
use Rattle.layer_text.specs.Piece.{PieceWritten}

-- the piece goes behind what the writer wrote, into the same bytes
pub record Wrote (w w' : Writer) (xs : List ℕ) : Type 0 where
  pub same : w'.text.ghost_name ≡ w.text.ghost_name
  pub piece : PieceWritten w.text.now w'.text.now w.end xs w'.end
