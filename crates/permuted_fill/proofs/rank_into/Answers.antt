-- `permuted_fill::rank_into` meets its contract: the part that is sorted is put back.
use Prim.Native.Nat.{◌+◌}
use native.Mathlib.Omega.{arith}
use Rattle.permuted_fill.proofs.Ranks.{put_back}
use Rattle.permuted_fill.proofs.rank_into.Goals as goal

pub returns : goal.returns
returns c =
    let f = c.rank_rows in
    let ns = f.new.numbers in
    record { numbers = ns; ranked = f.ensures; words = put_back c.args.into.now ns c.args.at (c.args.at + c.args.rows.now.table.tuple_count) (omega (arith, f.ensures.long)) (omega arith) (omega (arith, c.requires)) }
