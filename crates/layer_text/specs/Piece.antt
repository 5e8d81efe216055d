-- Internal: the contract of the functions that write a part of the text, or tell its length.
use Rattle.std.specs.Prelude.{ℕ, ◌+◌, ◌≤◌, ◌≡◌, List, length}
use Rattle.column_trie.specs.Pool.{lay}

-- a piece written from `at` on, up to `end`, where the bytes have room for it; where they don't, only its end is told
pub record PieceWritten (bytes bytes' : List ℕ) (at : ℕ) (piece : List ℕ) (end : ℕ) : Type 0 where
  pub ends : end ≡ at + length piece
  pub laid : at + length piece ≤ length bytes → bytes' ≡ lay bytes at piece
  pub room : length bytes' ≡ length bytes
