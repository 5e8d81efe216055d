-- `column_trie_permute::check` meets its contract: the checks stand in the sequence of the definition's.
use native.Mathlib.Omega.{arith}
use Prim.Native.Nat.{◌≤◌}
use mathlib.Core.Path.{◌≡◌, ap, ◌∙◌}
use mathlib.Core.Bool.{true}
use Rattle.relation.proofs.Tests.{passed, failed, and_left}
use lib.ListN.{length, take}
use borrow.Author.Rules.{rules}
use Rattle.query.specs.Checks.{permutes}
use Rattle.column_trie.specs.Limits.{max_arity}
use Rattle.column_trie.specs.Table.{undamaged}
use Rattle.column_trie.proofs.Damage.{undamaged_told, undamaged_header}
use Rattle.column_trie_permute.proofs.Columns.{asked, size}
use Rattle.column_trie_permute.proofs.Numbers.{number_0, number_2, number_3, number_5, number_6, number_8}
use mathlib.Core.Bool.{not}
use Rattle.column_trie_permute.proofs.check.Goals as goal
use Rattle.column_trie_permute.proofs.check.Goals.{Else-not-undamaged}

pub returns-then-not-undamaged : goal.returns-then-not-undamaged
returns-then-not-undamaged c = number_6 _ _ _ _ _ _ (failed c.undamaged.ensures (ap not c.if-not-undamaged.true))

-- past the first check
sound : (c : Else-not-undamaged) → undamaged c.args.pool.now c.args.table ≡ true
sound c = passed c.undamaged.ensures (ap not c.if-not-undamaged.false)

-- the test of the first numbers
module _ (c : Else-not-undamaged) where
  few : c.args.table.arity ≤ max_arity
  few = (undamaged_told c.args.pool.now c.args.table (sound c)).arity.1

  long : length c.args.columns ≡ max_arity
  long = search rules

  tested : permutes (length (take c.args.table.arity c.args.columns)) (take c.args.table.arity c.args.columns) ≡ permutes c.args.table.arity (take c.args.table.arity c.args.columns)
  tested = asked c.args.table.arity c.args.columns few long

pub slice_bounds-columns-end : goal.slice_bounds-columns-end
slice_bounds-columns-end c = let e = (goal.at.slice_bounds-columns-end c).Else-not-undamaged in omega (arith, few e, long e)

pub slice_bounds-permutes-end : goal.slice_bounds-permutes-end
slice_bounds-permutes-end c = let e = (goal.at.slice_bounds-permutes-end c).Else-not-undamaged in omega (arith, few e, long e, size c.args.table.arity c.args.columns (few e) (long e))

pub returns-then-not-permutes : goal.returns-then-not-permutes
returns-then-not-permutes c = number_8 _ _ _ _ _ _ (sound (goal.at.returns-then-not-permutes c).Else-not-undamaged) (failed (c.permutes.ensures ∙ tested (goal.at.returns-then-not-permutes c).Else-not-undamaged) (ap not c.if-not-permutes.true))

pub returns-then-not-capacity_ok : goal.returns-then-not-capacity_ok
returns-then-not-capacity_ok c =
    number_2 _ _ _ _ _ _ (sound (goal.at.returns-then-not-capacity_ok c).Else-not-undamaged) (passed (c.permutes.ensures ∙ tested (goal.at.returns-then-not-capacity_ok c).Else-not-undamaged) (ap not c.if-not-permutes.false)) (failed c.capacity_ok.ensures (ap not c.if-not-capacity_ok.true))

pub lies_in-requires : goal.lies_in-requires
lies_in-requires c =
    (and_left _ _ (undamaged_header c.args.pool.now c.args.table (sound (goal.at.lies_in-requires c).Else-not-undamaged)), passed c.capacity_ok.ensures (ap not c.if-not-capacity_ok.false))

pub returns-then-not-lies_in : goal.returns-then-not-lies_in
returns-then-not-lies_in c =
    number_3 _ _ _ _ _ _ (sound (goal.at.returns-then-not-lies_in c).Else-not-undamaged) (passed (c.permutes.ensures ∙ tested (goal.at.returns-then-not-lies_in c).Else-not-undamaged) (ap not c.if-not-permutes.false)) (passed c.capacity_ok.ensures (ap not c.if-not-capacity_ok.false)) (failed c.lies_in.ensures (ap not c.if-not-lies_in.true))

pub returns-then-capacity-table : goal.returns-then-capacity-table
returns-then-capacity-table c =
    number_5 _ _ _ _ _ _ (sound (goal.at.returns-then-capacity-table c).Else-not-undamaged) (passed (c.permutes.ensures ∙ tested (goal.at.returns-then-capacity-table c).Else-not-undamaged) (ap not c.if-not-permutes.false)) (passed c.capacity_ok.ensures (ap not c.if-not-capacity_ok.false)) (passed c.lies_in.ensures (ap not c.if-not-lies_in.false)) c.if-capacity-table.true

pub returns : goal.returns
returns c =
    number_0 _ _ _ _ _ _ (sound (goal.at.returns c).Else-not-undamaged) (passed (c.permutes.ensures ∙ tested (goal.at.returns c).Else-not-undamaged) (ap not c.if-not-permutes.false)) (passed c.capacity_ok.ensures (ap not c.if-not-capacity_ok.false)) (passed c.lies_in.ensures (ap not c.if-not-lies_in.false)) c.if-capacity-table.false
