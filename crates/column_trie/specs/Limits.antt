-- Public: the limits of a table. The code's associated constants are these: a check that used another would not be proved.
use Rattle.std.specs.Prelude.{ℕ}

abbrev pub max_arity : ℕ
max_arity = 8

abbrev pub max_capacity : ℕ
max_capacity = 65536
