-- `check` meets its contract: each way out is a case of `join_number`, the checks before it having passed.
use mathlib.Core.Path.{◌≡◌}
use mathlib.Core.Bool.{true}
use Rattle.relation.specs.Tests.{every}
use Rattle.relation.proofs.Tests.{passed, failed}
use Rattle.query.specs.Checks.{covers}
use Rattle.join_query.specs.Query.{order_ok, named_ok, list_ok, lists_of, one_kind, whole_rows, sound_at}
use Rattle.join_query.proofs.Lists.{number_8, number_9, number_10, number_11, number_15, number_16, number_6, number_17, number_0}
use mathlib.Core.Path.{ap}
use mathlib.Core.Bool.{not}
use Rattle.join_query.proofs.Whole.{length_mapped}
use Rattle.query.specs.Limits.{max_atoms}
use lib.ListN.{length}
use borrow.Author.Rules.{rules}
use Rattle.join_checks.proofs.check.Goals as goal
use Rattle.join_checks.proofs.check.Goals.{Else-not-all_held, Else-not-kinds_ok, Else-not-lists_ok, Else-not-named_ok, Else-not-order_ok, Else-not-rows_ok, Else-not-tables_ok, Start}

-- what the parameter's type says
full : (s : Start) → length s.args.q.atoms ≡ max_atoms
full s = search (length_mapped, rules)

-- what has passed at each place
ordered : (c : Else-not-order_ok) → order_ok c.args.q ≡ true
ordered c = passed c.order_ok.ensures (ap not c.if-not-order_ok.false)

named : (c : Else-not-named_ok) → named_ok c.args.ts.count c.args.q ≡ true
named c = passed c.named_ok.ensures (ap not c.if-not-named_ok.false)

listed : (c : Else-not-lists_ok) → let a = c.args in every a.q.atom_count (list_ok a.ts a.q) ≡ true
listed c = passed c.lists_ok.ensures (ap not c.if-not-lists_ok.false)

covered : (c : Else-not-all_held) → let a = c.args in covers a.q.n (lists_of a.q) ≡ true
covered c = passed c.all_held.ensures (ap not c.if-not-all_held.false)

of_one_kind : (c : Else-not-kinds_ok) → let a = c.args in every a.q.n (one_kind a.ts a.q) ≡ true
of_one_kind c = passed c.kinds_ok.ensures (ap not c.if-not-kinds_ok.false)

whole : (c : Else-not-rows_ok) → let a = c.args in whole_rows a.q.n a.len ≡ true
whole c = passed c.rows_ok.ensures (ap not c.if-not-rows_ok.false)

sound : (c : Else-not-tables_ok) → let a = c.args in every a.ts.count (sound_at a.pool.now a.ts a.q) ≡ true
sound c = passed c.tables_ok.ensures (ap not c.if-not-tables_ok.false)

pub order_ok-requires : goal.order_ok-requires
order_ok-requires c = tt

pub returns-then-not-order_ok : goal.returns-then-not-order_ok
returns-then-not-order_ok c = let a = c.args in number_8 a.pool.now a.ts a.q a.len (failed c.order_ok.ensures (ap not c.if-not-order_ok.true))

pub named_ok-requires : goal.named_ok-requires
named_ok-requires c = tt

pub returns-then-not-named_ok : goal.returns-then-not-named_ok
returns-then-not-named_ok c = let a = c.args in number_9 a.pool.now a.ts a.q a.len (ordered (goal.at.returns-then-not-named_ok c).Else-not-order_ok) (failed c.named_ok.ensures (ap not c.if-not-named_ok.true))

pub lists_ok-requires : goal.lists_ok-requires
lists_ok-requires c = (ordered (goal.at.lists_ok-requires c).Else-not-order_ok, named ((goal.at.lists_ok-requires c).Else-not-named_ok))

pub returns-then-not-lists_ok : goal.returns-then-not-lists_ok
returns-then-not-lists_ok c =
    let a = c.args in
    number_10 a.pool.now a.ts a.q a.len (ordered (goal.at.returns-then-not-lists_ok c).Else-not-order_ok) (named (goal.at.returns-then-not-lists_ok c).Else-not-named_ok) (failed c.lists_ok.ensures (ap not c.if-not-lists_ok.true))

pub invariant_of-formed : goal.invariant_of-formed
invariant_of-formed c = record {
  named = named (goal.at.invariant_of-formed c).Else-not-named_ok;
  listed = listed (goal.at.invariant_of-formed c).Else-not-lists_ok;
  full = full (goal.at.invariant_of-formed c).Start;
}

pub returns-then-not-all_held : goal.returns-then-not-all_held
returns-then-not-all_held c =
    let a = c.args in
    number_11 a.pool.now a.ts a.q a.len (ordered (goal.at.returns-then-not-all_held c).Else-not-order_ok) (named (goal.at.returns-then-not-all_held c).Else-not-named_ok) (listed (goal.at.returns-then-not-all_held c).Else-not-lists_ok) (failed c.all_held.ensures (ap not c.if-not-all_held.true))

pub returns-then-not-kinds_ok : goal.returns-then-not-kinds_ok
returns-then-not-kinds_ok c =
    let a = c.args in
    number_15 a.pool.now a.ts a.q a.len (ordered (goal.at.returns-then-not-kinds_ok c).Else-not-order_ok) (named (goal.at.returns-then-not-kinds_ok c).Else-not-named_ok) (listed (goal.at.returns-then-not-kinds_ok c).Else-not-lists_ok) (covered (goal.at.returns-then-not-kinds_ok c).Else-not-all_held) (failed c.kinds_ok.ensures (ap not c.if-not-kinds_ok.true))

pub rows_ok-requires : goal.rows_ok-requires
rows_ok-requires c = tt

pub returns-then-not-rows_ok : goal.returns-then-not-rows_ok
returns-then-not-rows_ok c =
    let a = c.args in
    number_16 a.pool.now a.ts a.q a.len (ordered (goal.at.returns-then-not-rows_ok c).Else-not-order_ok) (named (goal.at.returns-then-not-rows_ok c).Else-not-named_ok) (listed (goal.at.returns-then-not-rows_ok c).Else-not-lists_ok) (covered (goal.at.returns-then-not-rows_ok c).Else-not-all_held) (of_one_kind (goal.at.returns-then-not-rows_ok c).Else-not-kinds_ok) (failed c.rows_ok.ensures (ap not c.if-not-rows_ok.true))

pub returns-then-not-tables_ok : goal.returns-then-not-tables_ok
returns-then-not-tables_ok c =
    let a = c.args in
    number_6 a.pool.now a.ts a.q a.len (ordered (goal.at.returns-then-not-tables_ok c).Else-not-order_ok) (named (goal.at.returns-then-not-tables_ok c).Else-not-named_ok) (listed (goal.at.returns-then-not-tables_ok c).Else-not-lists_ok) (covered (goal.at.returns-then-not-tables_ok c).Else-not-all_held) (of_one_kind (goal.at.returns-then-not-tables_ok c).Else-not-kinds_ok) (whole (goal.at.returns-then-not-tables_ok c).Else-not-rows_ok) (failed c.tables_ok.ensures (ap not c.if-not-tables_ok.true))

pub returns-then-not-shapes_ok : goal.returns-then-not-shapes_ok
returns-then-not-shapes_ok c =
    let a = c.args in
    number_17 a.pool.now a.ts a.q a.len (ordered (goal.at.returns-then-not-shapes_ok c).Else-not-order_ok) (named (goal.at.returns-then-not-shapes_ok c).Else-not-named_ok) (listed (goal.at.returns-then-not-shapes_ok c).Else-not-lists_ok) (covered (goal.at.returns-then-not-shapes_ok c).Else-not-all_held) (of_one_kind (goal.at.returns-then-not-shapes_ok c).Else-not-kinds_ok) (whole (goal.at.returns-then-not-shapes_ok c).Else-not-rows_ok) (sound (goal.at.returns-then-not-shapes_ok c).Else-not-tables_ok) (failed c.shapes_ok.ensures (ap not c.if-not-shapes_ok.true))

pub returns : goal.returns
returns c =
    let a = c.args in
    number_0 a.pool.now a.ts a.q a.len (ordered (goal.at.returns c).Else-not-order_ok) (named (goal.at.returns c).Else-not-named_ok) (listed (goal.at.returns c).Else-not-lists_ok) (covered (goal.at.returns c).Else-not-all_held) (of_one_kind (goal.at.returns c).Else-not-kinds_ok) (whole (goal.at.returns c).Else-not-rows_ok) (sound (goal.at.returns c).Else-not-tables_ok) (passed c.shapes_ok.ensures (ap not c.if-not-shapes_ok.false))
