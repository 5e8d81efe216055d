-- `column_trie_permute::permute` meets its contract: a check refuses it, or the rows are ranked where the last keys will lie and the table is filled over them.
use mathlib.Core.Path.{◌≡◌, refl, sym, ap, ap₂, ◌∙◌}
use native.Mathlib.Omega.{arith}
use Prim.Native.Nat.{◌-◌}
use lib.ListN.{length}
use Rattle.column_trie.specs.Limits.{max_arity}
use Rattle.column_trie.specs.Pool.{spot}
use Rattle.column_trie.specs.declared.ColumnTrie.{ColumnTrie}
use Rattle.column_trie.proofs.Layers.{Whole}
use Rattle.from_sorted.proofs.Answer.{regraded}
use Rattle.refusal.specs.Number.{given}
use Rattle.refusal.proofs.Numbers.{not_zero}
use Rattle.column_trie_permute.proofs.Numbers.{Accepted, accepted}
use Rattle.column_trie_permute.proofs.Outcomes.{permutes_refused, permutes_rebuilt}
use Rattle.column_trie_permute.proofs.Rebuilt.{vacant, sound, legible, base_inside, laying, rebuilt_table, rebuilt_words}
use borrow.Author.Rules.{rules}
use Rattle.column_trie_permute.proofs.permute.Goals as goal
use Rattle.column_trie_permute.proofs.permute.Goals.{After-layer_at-at, In_default, Start}

-- what the call is handed
module _ (s : Start) where
  whole : Whole s.args.table
  whole = record { data_long = search rules; interval_long = search rules }

  long : length s.args.columns ≡ max_arity
  long = search rules

-- past the checks
module _ (k : In_default) where
  passed : Accepted k.args.pool.now k.args.table k.args.columns (length k.args.into.now) k.args.start k.args.capacity
  passed = accepted _ _ _ _ _ _ (sym k.check.ensures ∙ ap given k.in_default.is)

-- the table that is filled
vacant_is : (k : After-layer_at-at) → regraded k.empty-empty.result k.permuted_kinds-kinds.result ≡ vacant k.args.table k.args.columns k.args.start k.args.capacity
vacant_is k = ap₂ regraded k.empty-empty.ensures k.permuted_kinds-kinds.ensures

pub returns-in-Err : goal.returns-in-Err
returns-in-Err c =
    let s = c.args in
    permutes_refused s.pool.now s.table s.columns s.into.now s.start s.capacity (c.refused.ensures.0 ∙ sym (ap given c.in-Err.is) ∙ c.check.ensures) (λ z. not_zero _ (sym c.refused.ensures.0 ∙ z)) c.refused.ensures.1

pub permuted_kinds-kinds-requires : goal.permuted_kinds-kinds-requires
permuted_kinds-kinds-requires c =
    let s = (goal.at.permuted_kinds-kinds-requires c).Start in
    let p = passed (goal.at.permuted_kinds-kinds-requires c).In_default in
    ((sound (whole s) (long s) p).arity.1, (legible (whole s) (long s) p).inside)

pub overflow_sub-arity : goal.overflow_sub-arity
overflow_sub-arity c =
    let s = (goal.at.overflow_sub-arity c).Start in
    omega (arith, (sound (whole s) (long s) (passed (goal.at.overflow_sub-arity c).In_default)).arity.0)

pub layer_at-at-requires : goal.layer_at-at-requires
layer_at-at-requires c =
    let e = c.empty-empty.ensures in
    let s = (goal.at.layer_at-at-requires c).Start in
    let p = passed (goal.at.layer_at-at-requires c).In_default in
    let u = (sound (whole s) (long s) p).arity in
    (omega (arith, ap (λ (t : ColumnTrie). t.start) e, p.fits, c.well_formed), omega (arith, ap (λ (t : ColumnTrie). t.capacity) e, p.small), omega (arith, u.0, u.1))

pub invariant_of-rows : goal.invariant_of-rows
invariant_of-rows c =
    let s = (goal.at.invariant_of-rows c).Start in
    record { legible = legible (whole s) (long s) (passed (goal.at.invariant_of-rows c).In_default); whole = whole s }

-- where the last keys will lie
at_is : (k : After-layer_at-at) → k.layer_at-at.result ≡ spot k.args.start k.args.capacity (k.args.table.arity - 1)
at_is k = k.layer_at-at.ensures ∙ ap (λ (u : ColumnTrie). spot u.start u.capacity (k.args.table.arity - 1)) (vacant_is k)

pub rank_into-requires : goal.rank_into-requires
rank_into-requires c =
    let s = (goal.at.rank_into-requires c).Start in
    omega (arith, at_is (goal.at.rank_into-requires c).After-layer_at-at, base_inside (whole s) (long s) (passed (goal.at.rank_into-requires c).In_default))

pub lay_rows-table-requires : goal.lay_rows-table-requires
lay_rows-table-requires c =
    let k = (goal.at.lay_rows-table-requires c).After-layer_at-at in
    laying _ (long (goal.at.lay_rows-table-requires c).Start) (passed (goal.at.lay_rows-table-requires c).In_default) refl (rw (at_is k) at c.rank_into.ensures) (vacant_is k)

pub returns : goal.returns
returns c =
    let s = c.args in
    let k = (goal.at.returns c).After-layer_at-at in
    let l = long (goal.at.returns c).Start in
    let p = passed (goal.at.returns c).In_default in
    let r = rw (at_is k) at c.rank_into.ensures in
    let f = c.lay_rows-table.ensures in
    permutes_rebuilt s.pool.now s.table s.columns s.into.now s.start s.capacity (sym (ap given c.in_default.is) ∙ c.check.ensures) refl (rebuilt_table _ l p refl r (vacant_is k) f) (rebuilt_words _ l p refl r (vacant_is k) f)
