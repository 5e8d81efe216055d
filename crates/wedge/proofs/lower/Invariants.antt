-- `wedge::lower` meets its contract: the words passed are one less.
use Rattle.std.proofs.Common.{◌≡◌, ◌++◌, map, take, drop}
use Rattle.wedge.specs.Shift.{lessened}
use Rattle.wedge.proofs.lower.Given as goal

abbrev pub invariant-loop-word : goal.invariant-loop-word
invariant-loop-word l = l.words ≡ map lessened (take l.word-index l.initial.words) ++ drop l.word-index l.initial.words
