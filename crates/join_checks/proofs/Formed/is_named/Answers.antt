-- `Formed::is_named` meets its contract: the definition recurses as `any` goes.
use mathlib.Core.Path.{refl, ap, ◌∙◌}
use borrow.Author.Rules.{rules}
use Rattle.std.proofs.lemmas.List.Recursion.{or_is}
use Rattle.query.specs.Checks.{some}
use Rattle.join_query.specs.Query.{no_atom, names, named}
use Rattle.join_query.proofs.Lists.{named_told}
use Rattle.join_checks.proofs.Formed.is_named.Goals as goal

pub atoms-requires : goal.atoms-requires
atoms-requires c = let f = c.args.self.now in (named_told f.ts.now.count f.q.now f.named).few

pub returns : goal.returns
unfolding named some
returns c =
    let p = names c.args.t in
    or_is (some p) p refl (λ x xs. refl) c.atoms.result.now no_atom c.any.result (search rules) (search rules)
    ∙ ap (some p) c.atoms.ensures.listed
