-- `column_trie_path::check` meets its contract: the checks stand in the sequence of the definition's (Checks.antt).
use mathlib.Core.Path.{ap}
use mathlib.Core.Bool.{not}
use Rattle.relation.proofs.Tests.{passed, failed}
use Rattle.column_trie_path.proofs.Checks.{damaged, another_length, neither}
use Rattle.column_trie_path.proofs.check.Goals as goal

pub returns-then-not-undamaged : goal.returns-then-not-undamaged
returns-then-not-undamaged c = damaged _ _ _ (failed c.undamaged.ensures (ap not c.if-not-undamaged.true))

pub returns-then-tuple-t : goal.returns-then-tuple-t
returns-then-tuple-t c = another_length _ _ _ (passed c.undamaged.ensures (ap not c.if-not-undamaged.false)) c.if-tuple-t.true

pub returns : goal.returns
returns c = neither _ _ _ (passed c.undamaged.ensures (ap not c.if-not-undamaged.false)) c.if-tuple-t.false
