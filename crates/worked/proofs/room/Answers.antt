-- `worked::room` answers as many words as its type says: by the law on such lists, since counting them one by one takes seconds.
use Rattle.std.proofs.Common.{ℕ, sym}
use lib.ListN.{length-replicate}
use Rattle.worked.proofs.room.Goals as goal

pub returns : goal.returns
returns c = sym (length-replicate {A = ℕ} 131074 0)
