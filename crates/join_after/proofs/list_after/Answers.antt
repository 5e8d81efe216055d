-- `list_after` meets its contract: from the root the descent with the bound leaves the rows after the given one, and that without it all of them.
use native.Mathlib.Omega.{arith}
use mathlib.Core.Path.{refl, sym, ap, ◌∙◌}
use mathlib.Core.List.{List, []}
use Prim.Native.Nat.{ℕ}
use Rattle.std.specs.Prelude.{Option}
use Rattle.join_window.proofs.Windows.{begun_open}
use Rattle.descent.proofs.Root.{plannable, standing_root, begun_completes}
use Rattle.join_after.specs.From.{listed_from}
use Rattle.join_after.proofs.Answer.{begun_after, listed_on, listed_all}
use Rattle.join_after.proofs.list_after.Goals as goal

pub make_plan-requires : goal.make_plan-requires
make_plan-requires c = plannable c.requires.accepted (omega (arith, c.well_formed))

pub make_ends-requires-clause-plannable : goal.make_ends-requires-clause-plannable
make_ends-requires-clause-plannable c = plannable c.requires.accepted (omega (arith, c.well_formed))

pub descend_after-requires : goal.descend_after-requires
descend_after-requires c = record { standing = standing_root c.requires.accepted c.make_plan.ensures c.make_ends.ensures; ready = begun_open c.requires.begun }

pub returns-in-Some : goal.returns-in-Some
returns-in-Some c =
    let a = c.args in
    let d = c.descend_after.ensures in
    record {
      kept = d.kept;
      listed = listed_on a.window.now.words.now c.requires.accepted c.in-Some.given c.make_plan.ensures c.make_ends.ensures (begun_after c.requires.begun d.descended)
          ∙ ap (λ (o : Option (List ℕ)). listed_from a.pool.now a.tables a.query o a.window.now.words.now) (sym c.in-Some.is);
    }

pub descend-requires : goal.descend-requires
descend-requires c = record { standing = standing_root c.requires.accepted c.make_plan.ensures c.make_ends.ensures; ready = begun_open c.requires.begun }

pub returns : goal.returns
returns c =
    let a = c.args in
    let d = c.descend.ensures in
    record {
      kept = d.kept;
      listed = listed_all a.window.now.words.now c.requires.accepted [] c.make_plan.ensures c.make_ends.ensures (begun_completes c.requires.begun refl d.completes).descended
          ∙ ap (λ (o : Option (List ℕ)). listed_from a.pool.now a.tables a.query o a.window.now.words.now) (sym c.in_default.is);
    }
