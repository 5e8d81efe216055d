-- `column_trie::capacity_ok` meets its contract: each way out is what the tests on the way say.
use borrow.Author.Tests.{lt-ltb, le-ltb}
use Rattle.column_trie.proofs.capacity_ok.Goals as goal

pub returns-then-capacity-gt0 : goal.returns-then-capacity-gt0
returns-then-capacity-gt0 c = simp (lt-ltb 0 c.args.capacity c.if-capacity-gt0.true)

pub returns-else-capacity-gt0 : goal.returns-else-capacity-gt0
returns-else-capacity-gt0 c = simp (le-ltb 0 c.args.capacity c.if-capacity-gt0.false)
