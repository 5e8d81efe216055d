-- `Lengths::append_next` meets its contract: the row differs from the last one, or is equal to it (Next.antt).
use Prim.Native.Nat.{ℕ}
use mathlib.Core.Path.{◌≡◌, ap, ◌∙◌}
use mathlib.Core.List.{List}
use native.Mathlib.Omega.{arith}
use lib.ListN.{take, length-take}
use Rattle.relation.proofs.Order.{shared}
use Rattle.from_sorted.proofs.Fill.{can_push}
use Rattle.from_sorted.proofs.Next.{last_long, row_long, pushing_row, followed_row, followed_equal}
use Rattle.from_sorted.proofs.Lengths.append_next.Goals as goal

pub common_prefix_len-d-requires : goal.common_prefix_len-d-requires
common_prefix_len-d-requires c =
    let f = c.requires.4 in
    (omega (arith, length-take c.args.t.arity c.args.last.now, last_long f), omega (arith, length-take c.args.t.arity c.args.row.now, row_long f))

-- the columns that the code compares are the table's
compared : (x y : List ℕ) {d n a : ℕ} → n ≡ a → d ≡ shared (take n x) (take n y) → d ≡ shared (take a x) (take a y)
compared x y e h = h ∙ ap (λ (k : ℕ). shared (take k x) (take k y)) e

pub append_row-requires : goal.append_row-requires
append_row-requires c = let f = c.requires.4 in can_push f.row_is (pushing_row f c.common_prefix_len-d.result (compared _ _ (omega arith) c.common_prefix_len-d.ensures) c.if-d-t.true)

pub returns-then-d-t : goal.returns-then-d-t
returns-then-d-t c = λ len rows pool₀ i f. let d = c.common_prefix_len-d in followed_row f d.result (compared _ _ (omega arith) d.ensures) c.if-d-t.true c.append_row.auto.pool c.append_row.ensures

pub returns-else-d-t : goal.returns-else-d-t
returns-else-d-t c = λ len rows pool₀ i f. let d = c.common_prefix_len-d in followed_equal f d.result (compared _ _ (omega arith) d.ensures) c.if-d-t.false
