-- `how_many` meets its contract: the count where rows have no words, else how often n words fit.
use Rattle.listing_check.proofs.Meeting.{many_none, many_some}
use Rattle.listing_check.proofs.how_many.Goals as goal

pub returns-then-n-eq0 : goal.returns-then-n-eq0
returns-then-n-eq0 c = let a = c.args in many_none a.n a.len a.count c.if-n-eq0.true

pub returns : goal.returns
returns c = let a = c.args in many_some a.n a.len a.count c.if-n-eq0.false
