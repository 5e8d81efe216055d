-- `column_trie::lies_in` meets its contract: asked without the sum, the answer is that of the sum.
use Prim.Native.Nat.{◌+◌, ◌*◌, ◌-◌}
use native.Mathlib.Omega.{arith}
use Rattle.column_trie.proofs.Header.{leb_same, arity_told, capacity_told, size_small}
use Rattle.column_trie.proofs.lies_in.Goals as goal

pub overflow_mul-result : goal.overflow_mul-result
overflow_mul-result c = omega (arith, arity_told c.args.arity c.requires.0)

pub overflow_mul-result-then-start-len : goal.overflow_mul-result-then-start-len
overflow_mul-result-then-start-len c =
    let a = arity_told c.args.arity c.requires.0 in
    let b = capacity_told c.args.capacity c.requires.1 in
    omega (arith, size_small c.args.arity c.args.capacity a.1 b.1)

pub returns-then-start-len : goal.returns-then-start-len
returns-then-start-len c =
    let h = c.if-start-len.true in
    let s = c.args.start in
    let n = 2 * c.args.arity * c.args.capacity in
    leb_same n (c.args.len - s) (s + n) c.args.len (λ k. omega arith) (λ k. omega arith)

pub returns-else-start-len : goal.returns-else-start-len
returns-else-start-len c =
    let s = c.args.start in
    let n = 2 * c.args.arity * c.args.capacity in
    leb_same s c.args.len (s + n) c.args.len (λ k. absurd (omega arith)) (λ k. omega arith)
