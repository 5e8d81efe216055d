-- `stretches::refill` meets its contract: what lies behind the piece is sought to the target, and the atom put on its first stretch.
use Rattle.stretches.proofs.Taking.{sought_inside, sought_takes}
use Rattle.stretches.proofs.refill.Goals as goal

pub take_stretch-requires : goal.take_stretch-requires
take_stretch-requires c =
    let s₀ = c.args.state.now in
    record { a_lt_max_atoms = (c.requires.a_lt_max_atoms.0, c.requires.a_lt_max_atoms.2); inside = sought_inside c.args.leap.now.ends.now s₀ c.args.a c.requires.a_lt_max_atoms.1 c.requires.fact.0 c.requires.fact.1 c.seek_both-s.ensures }

pub returns : goal.returns
returns c =
    let s₀ = c.args.state.now in
    sought_takes c.args.leap.now.ends.now s₀ c.args.a c.requires.a_lt_max_atoms.1 c.requires.fact.0 c.requires.fact.1 c.seek_both-s.ensures c.take_stretch.ensures
