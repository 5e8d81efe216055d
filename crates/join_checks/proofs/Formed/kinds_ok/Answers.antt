-- `Formed::kinds_ok` meets its contract: `all` asks of each number below n whether it binds columns of one kind.
use native.Mathlib.Nat.{sub-zero}
use mathlib.Core.Path.{refl, ◌∙◌}
use borrow.Author.Rules.{rules}
use borrow.Author.Tests.{tests}
use Rattle.std.proofs.lemmas.Iterator.{YieldsList-from_range}
use Rattle.std.proofs.lemmas.Iterator.Search.{all_from_yields_List}
use Rattle.join_query.specs.Query.{one_kind}
use Rattle.join_checks.proofs.Every.{all_below}
use Rattle.join_checks.proofs.Formed.kinds_ok.Goals as goal

pub returns : goal.returns
returns c =
    let f = c.args.self.now in
    all_from_yields_List (one_kind f.ts.now f.q.now) _ _ c.all.result c.all.ensures.ran (YieldsList-from_range 0 f.q.now.n f.q.now.n refl (sub-zero f.q.now.n)) (λ x b r k. search (rules, tests))
    ∙ all_below (one_kind f.ts.now f.q.now) f.q.now.n
