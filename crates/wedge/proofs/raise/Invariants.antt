-- `wedge::raise` meets its contract: the words passed are one more.
use Rattle.std.proofs.Common.{◌≡◌, ◌++◌, map, suc, take, drop}
use Rattle.wedge.proofs.raise.Given as goal

abbrev pub invariant-loop-word : goal.invariant-loop-word
invariant-loop-word l = l.words ≡ map suc (take l.word-index l.initial.words) ++ drop l.word-index l.initial.words
