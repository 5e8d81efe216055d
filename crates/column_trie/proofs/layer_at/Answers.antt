-- `column_trie::layer_at` meets its contract: nothing wraps, since a table is small and starts low.
use native.Mathlib.Omega.{arith}
use Rattle.column_trie.proofs.Header.{offset_small, spot_product}
use Rattle.column_trie.proofs.layer_at.Goals as goal

pub overflow_mul-result-2 : goal.overflow_mul-result-2
overflow_mul-result-2 c = omega (arith, offset_small c.args.t.capacity c.args.d c.requires.1 c.requires.2)

pub overflow_add-result : goal.overflow_add-result
overflow_add-result c = omega (arith, offset_small c.args.t.capacity c.args.d c.requires.1 c.requires.2)

pub returns : goal.returns
returns c = let t = c.args.t in spot_product t.start t.capacity c.args.d
