-- `column_trie_build::build` meets its contract: by the number it is refused, or the rows are sorted and the table filled with them.
use mathlib.Core.Path.{◌≡◌, refl, sym, ap, ap₂, ◌∙◌, subst}
use mathlib.Core.List.{List}
use native.Mathlib.Omega.{arith}
use lib.ListN.{length}
use Rattle.relation.specs.Order.{Row}
use Rattle.relation.specs.Layers.{layers_of}
use Rattle.column_trie.specs.Pool.{store}
use Rattle.column_trie.specs.Table.{empty_table, refilled}
use Rattle.column_trie.specs.declared.ColumnTrie.{ColumnTrie}
use Rattle.from_sorted.specs.Given.{rows_given}
use Rattle.from_sorted.specs.Push.{Filling, Fills}
use Rattle.from_sorted.specs.Answer.{kept_kinds}
use Rattle.column_trie_build.proofs.Numbers.{Accepted, accepted}
use Rattle.from_sorted.proofs.Answer.{regraded}
use Rattle.column_trie_build.proofs.Outcomes.{builds_built, set_of_rows, filling}
use Rattle.column_trie_build.proofs.build.Goals as goal
use Rattle.column_trie_build.proofs.build.Goals.{After-kept_kinds-empty, In_default}

-- past the checks
passed : (k : In_default) → Accepted (length k.args.rows.now) (length k.args.pool.now) k.args.start k.args.arity k.args.capacity
passed k = accepted _ _ _ _ _ (sym k.in_default.ensures)

pub sort_rows-requires : goal.sort_rows-requires
sort_rows-requires c = let a = passed (goal.at.sort_rows-requires c).In_default in (a.positive, a.whole)

pub kept_kinds-empty-requires : goal.kept_kinds-empty-requires
kept_kinds-empty-requires c = omega (arith, (passed (goal.at.kept_kinds-empty-requires c).In_default).few)

-- the table that is filled
module _ (k : After-kept_kinds-empty) where
  empty_table_lem :
      regraded k.empty-empty.result k.kept_kinds-empty.result
      ≡ regraded (empty_table k.args.start k.args.arity k.args.capacity) (kept_kinds k.args.arity k.args.grade)
  empty_table_lem = ap₂ regraded k.empty-empty.ensures k.kept_kinds-empty.ensures

pub from_sorted-table-requires : goal.from_sorted-table-requires
from_sorted-table-requires c =
    let w = c.sort_rows in
    let s = c.args in
    subst (λ (u : ColumnTrie). Filling (length s.pool.now) u (rows_given u.arity w.new.rows)) (sym (empty_table_lem (goal.at.from_sorted-table-requires c).After-kept_kinds-empty))
    (filling s.rows.now (passed (goal.at.from_sorted-table-requires c).In_default) w.ensures w.auto.rows (kept_kinds s.arity s.grade))

pub returns : goal.returns
returns c =
    let f = c.from_sorted-table in
    let w = c.sort_rows in
    let s = c.args in
    let rows = s.rows.now in
    let pool = s.pool.now in
    let t = regraded (empty_table s.start s.arity s.capacity) (kept_kinds s.arity s.grade) in
    let e = set_of_rows rows (passed (goal.at.returns c).In_default) w.ensures in
    let g : Fills pool t (rows_given s.arity w.new.rows) f.new.pool f.result = subst (λ (u : ColumnTrie). Fills pool u (rows_given u.arity w.new.rows) f.new.pool f.result) (empty_table_lem (goal.at.returns c).After-kept_kinds-empty) f.ensures in
    builds_built rows pool s.start s.arity s.capacity s.grade c.in_default.ensures refl (g.header ∙ ap (refilled t) e) w.ensures
    (g.words ∙ ap (λ (rs : List Row). store s.start s.capacity (layers_of s.arity rs) pool) e)
