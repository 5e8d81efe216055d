-- `file_write::head_len` meets its contract.
use mathlib.Core.Path.{sym, ◌∙◌}
use Rattle.file_write.proofs.Heads.{plain_long, graded_long}
use Rattle.file_write.proofs.head_len.Goals as goal

pub returns-then-some_grade : goal.returns-then-some_grade
returns-then-some_grade c = sym (graded_long c.args.kinds.now (sym c.some_grade.ensures ∙ c.if-some_grade.true))

pub returns-else-some_grade : goal.returns-else-some_grade
returns-else-some_grade c = sym (plain_long c.args.kinds.now (sym c.some_grade.ensures ∙ c.if-some_grade.false))
