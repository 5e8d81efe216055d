-- Public: the limit that a query and a leapfrog over its atoms share.
use Rattle.std.specs.Prelude.{ℕ}

-- how many atoms there may be: the code's MAX_ATOMS
abbrev pub max_atoms : ℕ
max_atoms = 8
