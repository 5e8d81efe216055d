-- `column_trie_remove::remove` meets its contract: each way out is one of Removes.antt.
use mathlib.Core.Path.{refl, sym, ◌∙◌}
use native.Mathlib.Omega.{arith}
use lib.Arith.{lt_of_le-ne}
use Rattle.refusal.specs.Number.{number_of}
use Rattle.refusal.proofs.Numbers.{not_zero}
use Rattle.column_trie.proofs.Damage.{undamaged_header}
use Rattle.column_trie_path.proofs.Checks.{accepted}
use Rattle.column_trie_remove.proofs.Removes.{Accepted, refused, no_row, not_found, forked, taken_out}
use borrow.Author.Rules.{rules}
use Rattle.column_trie_remove.proofs.remove.Goals as goal
use Rattle.column_trie_remove.proofs.remove.Goals.{In_default}

-- past the checks
passed : (c : In_default) → Accepted c.args.pool.now c.args.table c.args.tuple.now
passed c = let p = accepted c.args.pool.now c.args.table c.args.tuple.now c.in_default.ensures in record { sound = p.0; long = p.1; whole = record { data_long = search rules; interval_long = search rules } }

pub returns-in-Err : goal.returns-in-Err
returns-in-Err c =
    let a = c.args in
    let e = c.in-Err.refused in
    refused a.pool.now a.table a.tuple.now (number_of e) c.in-Err.ensures (not_zero e) c.unchanged.result (c.unchanged.ensures.0 ∙ c.number.ensures, c.unchanged.ensures.1, c.unchanged.ensures.2)

pub returns-then-table-eq0 : goal.returns-then-table-eq0
returns-then-table-eq0 c = no_row (passed (goal.at.returns-then-table-eq0 c).In_default) c.if-table-eq0.true c.unchanged-then-table-eq0.result c.unchanged-then-table-eq0.ensures

pub invariant_of-rows-clause-sound : goal.invariant_of-rows-clause-sound
invariant_of-rows-clause-sound c = undamaged_header c.args.pool.now c.args.table (passed (goal.at.invariant_of-rows-clause-sound c).In_default).sound

pub invariant_of-rows-2 : goal.invariant_of-rows-2
invariant_of-rows-2 c = record { undamaged = (passed (goal.at.invariant_of-rows-2 c).In_default).sound }

pub find_path-path-requires : goal.find_path-path-requires
find_path-path-requires c =
    let p = passed (goal.at.find_path-path-requires c).In_default in
    (p.long, lt_of_le-ne (omega arith) (λ z. c.if-table-eq0.false (sym z)))

pub returns-then-path-table : goal.returns-then-path-table
returns-then-path-table c = not_found (passed (goal.at.returns-then-path-table c).In_default) c.find_path-path.ensures c.if-path-table.true c.unchanged-then-path-table.result c.unchanged-then-path-table.ensures

pub cut_row-shrunk-requires : goal.cut_row-shrunk-requires
cut_row-shrunk-requires c = (c.args.tuple.now, forked (passed (goal.at.cut_row-shrunk-requires c).In_default) c.find_path-path.ensures c.if-path-table.false)

pub returns : goal.returns
returns c =
    let l = passed (goal.at.returns c).In_default in
    let q = c.find_path-path.ensures in
    let e = c.if-path-table.false in
    taken_out l q e c.cut_row-shrunk.new.pool _ (refl, refl) (c.cut_row-shrunk.ensures c.args.tuple.now (forked l q e))
