-- `file_read::read` meets its contract: past the checks the table is filled with the rows of the file.
use mathlib.Core.Path.{◌≡◌, sym}
use native.Mathlib.Omega.{arith}
use lib.ListN.{length}
use Rattle.from_sorted.proofs.Answer.{regraded}
use Rattle.file_read.proofs.Numbers.{Accepted, accepted}
use Rattle.file_read.proofs.Outcomes.{reads_read, has_kinds, vacant, vacant_is, loading, filled_table, filled_pool}
use Rattle.file_read.proofs.read.Goals as goal
use Rattle.file_read.proofs.read.Goals.{After-read_kinds-empty}

pub read_kinds-empty-requires : goal.read_kinds-empty-requires
read_kinds-empty-requires c = has_kinds (accepted _ (length c.args.pool.now) c.args.start c.args.capacity (λ i. omega (arith, c.type_inv.bytes i)) (sym c.in-Ok.ensures.number)) c.in-Ok.ensures.file

-- the table that is filled
module _ (k : After-read_kinds-empty) where
  taken : Accepted k.args.bytes.now (length k.args.pool.now) k.args.start k.args.capacity
  taken = accepted _ _ _ _ (λ i. omega (arith, k.type_inv.bytes i)) (sym k.in-Ok.ensures.number)

  empty_table : regraded k.empty-empty.result k.read_kinds-empty.result ≡ vacant taken
  empty_table = vacant_is taken k.in-Ok.ensures.file k.empty-empty.ensures k.read_kinds-empty.ensures

pub load-table-requires : goal.load-table-requires
load-table-requires c = let k = (goal.at.load-table-requires c).After-read_kinds-empty in loading (taken k) c.in-Ok.ensures.file (empty_table k)

pub returns : goal.returns
returns c =
    let k = (goal.at.returns c).After-read_kinds-empty in
    reads_read c.args.bytes.now c.args.pool.now c.args.start c.args.capacity c.in-Ok.ensures.number (filled_table (taken k) (empty_table k) c.load-table.ensures) (filled_pool (taken k) (empty_table k) c.load-table.ensures)
