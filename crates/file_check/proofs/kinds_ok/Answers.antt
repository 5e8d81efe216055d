-- `file_check::kinds_ok` meets its contract.
use mathlib.Core.Path.{◌≡◌}
use lib.Dec.{eqb, leb}
use borrow.Author.Rules.{rules}
use Rattle.std.proofs.Common.{tests}
use Rattle.std.specs.List.{list_all, list_any}
use Rattle.std.proofs.lemmas.Iterator.{YieldsList-from_slice}
use Rattle.std.proofs.lemmas.Iterator.Search.{all_from_yields_List, any_from_yields_List}
use Rattle.file_check.proofs.Heads.{kinds_low, kinds_high}
use Rattle.file_check.proofs.kinds_ok.Goals as goal

pub returns-then-all : goal.returns-then-all
returns-then-all c =
    let kinds = c.args.kinds.now in
    let low : c.all.result ≡ list_all (λ b. leb b 1) kinds = all_from_yields_List {all = kinds} (λ b. leb b 1) _ _ c.all.result c.all.ensures.ran (YieldsList-from_slice kinds cc) (λ x b q k. search (rules, tests)) in
    let one : c.any.result ≡ list_any (λ b. eqb b 1) kinds = any_from_yields_List {all = kinds} (λ b. eqb b 1) _ _ c.any.result c.any.ensures.ran (YieldsList-from_slice kinds cc) (λ x b q k. search (rules, tests)) in
    kinds_low kinds low c.if-all.true one

pub returns-else-all : goal.returns-else-all
returns-else-all c =
    let kinds = c.args.kinds.now in
    let low : c.all.result ≡ list_all (λ b. leb b 1) kinds = all_from_yields_List {all = kinds} (λ b. leb b 1) _ _ c.all.result c.all.ensures.ran (YieldsList-from_slice kinds cc) (λ x b q k. search (rules, tests)) in
    kinds_high kinds low c.if-all.false
