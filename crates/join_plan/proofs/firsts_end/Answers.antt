-- `firsts_end` meets its contract.
use native.Mathlib.Omega.{arith}
use Rattle.column_trie.proofs.Header.{offset_small, spot_product}
use Rattle.join_plan.proofs.firsts_end.Goals as goal

pub overflow_add-result : goal.overflow_add-result
overflow_add-result c =
    let t = c.args.t in
    let l = c.requires in
    omega (arith, c.layer_at.ensures, spot_product t.start t.capacity 0, offset_small t.capacity 0 l.capacity (omega arith), l)
