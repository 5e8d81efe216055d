-- `column_trie_iter::key` meets its contract: a refusal, else a run with nothing left gives no key, any other its first.
use mathlib.Core.Path.{ap, ◌∙◌}
use Rattle.column_trie_iter.specs.Cursor.{no_key}
use Rattle.column_trie_iter.proofs.Answers.{key_refused, key_none, key_some}
use Rattle.column_trie_iter.proofs.key.Goals as goal

pub returns-in-Err : goal.returns-in-Err
returns-in-Err c = c.no_key.ensures ∙ ap no_key c.number.ensures ∙ key_refused c.place_of.ensures c.in-Err.is

pub returns-in-Ok : goal.returns-in-Ok
returns-in-Ok c = c.no_key-in-Ok.ensures ∙ key_none c.place_of.ensures c.in-Ok.is c.if-p.true

pub returns-in-Ok-2 : goal.returns-in-Ok-2
returns-in-Ok-2 c = key_some c.place_of.ensures c.in-Ok.is c.if-p.false
