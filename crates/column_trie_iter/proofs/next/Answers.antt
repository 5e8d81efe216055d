-- `column_trie_iter::next` meets its contract: the present key is passed if there is one, and what is behind it is the answer.
use mathlib.Core.Path.{ap, ◌∙◌}
use native.Mathlib.Omega.{arith}
use Rattle.column_trie_iter.specs.Cursor.{unmoved}
use Rattle.column_trie_iter.proofs.Answers.{next_refused, stood, next_none, next_last, next_more}
use Rattle.column_trie_iter.proofs.next.Goals as goal

pub returns-in-Err : goal.returns-in-Err
returns-in-Err c = c.unmoved.ensures ∙ ap (unmoved c.args.iter) c.number.ensures ∙ next_refused c.place_of.ensures c.in-Err.is

pub returns-in-Ok : goal.returns-in-Ok
returns-in-Ok c = c.unmoved-in-Ok.ensures ∙ next_none c.place_of.ensures c.in-Ok.is c.if-p.true

pub past-after-requires : goal.past-after-requires
past-after-requires c = omega (arith, (stood c.place_of.ensures c.in-Ok.is).passed)

pub returns-then-p-at : goal.returns-then-p-at
returns-then-p-at c = c.unmoved-then-p-at.ensures ∙ next_last c.place_of.ensures c.in-Ok.is c.if-p.false c.past-after.ensures c.if-p-at.true

pub returns : goal.returns
returns c = next_more c.place_of.ensures c.in-Ok.is c.if-p.false c.past-after.ensures c.if-p-at.false
