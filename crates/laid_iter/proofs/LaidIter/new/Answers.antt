-- `laid_iter::LaidIter::new` meets its contract.
use mathlib.Core.Path.{ap₂}
use Rattle.laid_iter.specs.Cursors.{pair}
use Rattle.laid_iter.specs.declared.LaidIter.{LaidIter}
use Rattle.laid_iter.proofs.LaidIter.new.Goals as goal

pub returns : goal.returns
returns c = ap₂ {C = LaidIter} pair c.new.ensures c.new-2.ensures
