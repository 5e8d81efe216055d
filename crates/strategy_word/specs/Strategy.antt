-- Public: the strategy that a number stands for. Nothing checks a C caller, so every word stands for one.
use Rattle.std.specs.Prelude.{ℕ, eqb}
use Rattle.relation.specs.Order.{pick}
use Rattle.seek.specs.declared.SeekStrategy.{SeekStrategy}
use Rattle.seek.specs.declared.SeekStrategy.TheVariants.{Linear, Binary, Galloping}

-- 0 is linear, 1 binary, and any other word galloping, which is the Rust's own choice where none is made
abbrev pub strategy_of : ℕ → SeekStrategy
strategy_of w = pick (eqb w 0) Linear (pick (eqb w 1) Binary Galloping)
