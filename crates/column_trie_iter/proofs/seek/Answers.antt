-- `column_trie_iter::seek` meets its contract: with nothing left it stays, else it passes as many siblings as the strategy does.
use mathlib.Core.Path.{ap, ◌∙◌}
use native.Mathlib.Omega.{arith}
use Rattle.column_trie_iter.specs.Cursor.{unsought}
use Rattle.column_trie_iter.proofs.Answers.{sought_refused, stood, sought_none, sought_some, sought_within}
use Rattle.column_trie_iter.proofs.seek.Goals as goal

pub returns-in-Err : goal.returns-in-Err
returns-in-Err c = c.unsought.ensures ∙ ap (unsought c.args.iter) c.number.ensures ∙ sought_refused c.place_of.ensures c.in-Err.is c.args.strategy c.args.target

pub returns-in-Ok : goal.returns-in-Ok
returns-in-Ok c = c.unsought-in-Ok.ensures ∙ sought_none c.place_of.ensures c.in-Ok.is c.args.strategy c.args.target c.if-p.true

pub past-requires : goal.past-requires
past-requires c =
    omega (arith, (stood c.place_of.ensures c.in-Ok.is).passed, sought_within c.place_of.ensures c.in-Ok.is c.args.strategy c.args.target c.partition_point-s.ensures)

pub returns : goal.returns
returns c = sought_some c.place_of.ensures c.in-Ok.is c.args.strategy c.args.target c.if-p.false c.partition_point-s.ensures c.past.ensures
