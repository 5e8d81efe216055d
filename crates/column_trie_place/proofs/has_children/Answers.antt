-- `column_trie_place::has_children` meets its contract: its tests are the definition's.
use borrow.Author.Tests.{lt-ltb, le-ltb, eq-eqb, ne_eqb}
use Rattle.column_trie_place.specs.Inside.{has_children}
use Rattle.column_trie_place.proofs.has_children.Goals as goal

pub returns-then-depth-eq0 : goal.returns-then-depth-eq0
unfolding has_children
returns-then-depth-eq0 c = simp (eq-eqb c.args.depth 0 c.if-depth-eq0.true)

pub returns-then-depth-table : goal.returns-then-depth-table
unfolding has_children
returns-then-depth-table c = simp (ne_eqb c.args.depth 0 c.if-depth-eq0.false, lt-ltb c.args.depth c.args.table.arity c.if-depth-table.true)

pub returns-else-depth-table : goal.returns-else-depth-table
unfolding has_children
returns-else-depth-table c = simp (ne_eqb c.args.depth 0 c.if-depth-eq0.false, le-ltb c.args.depth c.args.table.arity c.if-depth-table.false)
