-- `whole_seek::seek_one` meets its contract: the seek ended in the piece, or passed it, and what lies behind is sought.
use Rattle.whole_seek.proofs.One.{one_sized, one_found, one_gone, one_last, one_behind, one_behind_takes}
use Rattle.whole_seek.proofs.seek_one.Goals as goal

pub returns-then-q-e : goal.returns-then-q-e
returns-then-q-e c = one_found c.requires.on_key.0 c.requires.on_key.1 c.requires.tailed c.seek_run-q.ensures c.if-q-e.true

pub returns-then-state-a-eq0 : goal.returns-then-state-a-eq0
returns-then-state-a-eq0 c = one_last c.requires.on_key.0 c.requires.on_key.1 c.requires.tailed c.seek_run-q.ensures c.if-q-e.false c.if-state-a-eq0.true

pub refill-requires : goal.refill-requires
refill-requires c =
    let r = c.seek_run-q.ensures in
    let e = c.if-q-e.false in
    record { a_lt_max_atoms = (c.requires.on_key.0.atom, one_gone c.requires.on_key.0 c.requires.on_key.1 c.requires.tailed r e, one_sized c.requires.on_key.0 c.requires.on_key.1 c.requires.tailed r); fact = (c.if-state-a-eq0.false, one_behind c.requires.on_key.0 c.requires.on_key.1 c.requires.tailed r e c.if-state-a-eq0.false) }

pub returns : goal.returns
returns c = one_behind_takes c.requires.on_key.0 c.requires.on_key.1 c.requires.tailed c.seek_run-q.ensures c.if-q-e.false c.if-state-a-eq0.false c.refill.ensures
