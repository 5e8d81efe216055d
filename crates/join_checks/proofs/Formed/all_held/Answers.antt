-- `Formed::all_held` meets its contract: `all` asks of each number below n whether a list has it.
use Prim.Native.Nat.{ℕ}
use native.Mathlib.Nat.{sub-zero}
use mathlib.Core.Path.{refl, ◌∙◌}
use mathlib.Core.List.{List}
use borrow.Author.Rules.{rules}
use borrow.Author.Tests.{tests}
use Rattle.std.proofs.lemmas.Iterator.{YieldsList-from_range}
use Rattle.std.proofs.lemmas.Iterator.Search.{all_from_yields_List}
use Rattle.query.specs.Meet.{has}
use Rattle.query.specs.Checks.{some}
use Rattle.join_query.specs.Query.{lists_of}
use Rattle.join_checks.proofs.Every.{all_below, covers_is}
use Rattle.join_checks.proofs.Formed.all_held.Goals as goal

pub returns : goal.returns
returns c =
    let q = c.args.self.now.q.now in
    let p = λ (v : ℕ). some (λ (l : List ℕ). has l v) (lists_of q) in
    all_from_yields_List p _ _ c.all.result c.all.ensures.ran (YieldsList-from_range 0 q.n q.n refl (sub-zero q.n)) (λ x b r k. search (rules, tests))
    ∙ all_below p q.n
    ∙ covers_is (lists_of q) q.n
