-- `column_trie_iter::at_end` meets its contract: a refusal says no, else what is left of the run decides.
use mathlib.Core.Path.{ap, ◌∙◌}
use Rattle.column_trie_iter.specs.Cursor.{no_end}
use Rattle.column_trie_iter.proofs.Answers.{end_refused, end_said}
use Rattle.column_trie_iter.proofs.at_end.Goals as goal

pub returns-in-Err : goal.returns-in-Err
returns-in-Err c = ap no_end c.number.ensures ∙ end_refused c.place_of.ensures c.in-Err.is

pub returns-in-Ok : goal.returns-in-Ok
returns-in-Ok c = end_said c.place_of.ensures c.in-Ok.is
