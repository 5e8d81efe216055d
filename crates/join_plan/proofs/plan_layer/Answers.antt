-- `plan_layer` meets its contract: the layer's intervals start within the pool's numbers.
use native.Mathlib.Omega.{arith}
use Rattle.column_trie.proofs.Header.{offset_small, spot_product}
use Rattle.join_plan.proofs.plan_layer.Goals as goal

pub overflow_add-result : goal.overflow_add-result
overflow_add-result c =
    let t = c.args.t in
    omega (arith, c.layer_at-keys.ensures, spot_product t.start t.capacity c.args.layer, offset_small t.capacity c.args.layer c.requires.0.capacity c.requires.1, c.requires.0)
