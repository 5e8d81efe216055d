-- `column_trie::arity_ok` meets its contract: each way out is what the tests on the way say.
use borrow.Author.Tests.{lt-ltb, le-ltb}
use Rattle.column_trie.proofs.arity_ok.Goals as goal

pub returns-then-arity-gt0 : goal.returns-then-arity-gt0
returns-then-arity-gt0 c = simp (lt-ltb 0 c.args.arity c.if-arity-gt0.true)

pub returns-else-arity-gt0 : goal.returns-else-arity-gt0
returns-else-arity-gt0 c = simp (le-ltb 0 c.args.arity c.if-arity-gt0.false)
