-- Internal: where a row lies in a file.
use Rattle.std.specs.Prelude.{ℕ, ◌+◌, ◌*◌, ◌/◌}
use Rattle.table_file.specs.File.{per_field}

-- of row i, behind the head: three bytes for each field up to its own, and the rows before it
abbrev pub place : ℕ → ℕ → ℕ
place a i = 3 * (i / per_field a + 1) + 8 * (i * a)
