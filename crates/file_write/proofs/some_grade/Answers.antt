-- `file_write::some_grade` meets its contract.
use mathlib.Core.Path.{◌∙◌}
use borrow.Author.Rules.{rules}
use Rattle.std.proofs.Common.{tests}
use Rattle.std.proofs.lemmas.Iterator.{YieldsList-from_slice}
use Rattle.std.proofs.lemmas.Iterator.Search.{any_from_yields_List}
use Rattle.file_write.proofs.Heads.{any_graded}
use Rattle.file_write.proofs.some_grade.Goals as goal

pub returns : goal.returns
returns c =
    let kinds = c.args.kinds.now in
    any_from_yields_List {all = kinds} (λ k. k) _ _ c.any.result c.any.ensures.ran (YieldsList-from_slice kinds cc) (λ x b q k. search (rules, tests)) ∙ any_graded kinds
