-- The goals of `put_each` that the check leaves.
use Prim.Native.Nat.{ℕ, ◌+◌, ◌*◌}
use mathlib.Core.Path.{sym, subst}
use native.Mathlib.Omega.{arith}
use Rattle.column_trie.proofs.Damage.{undamaged_told}
use Rattle.file_rows.proofs.Tables.{RowsLaid, rows_few, none_laid, rows_kept, row_asked, row_ends, one_laid, all_laid}
use Rattle.file_rows.proofs.put_each.Goals as goal

pub loop-k-init : goal.loop-k-init
loop-k-init c = none_laid c.args.bytes.now c.requires.putting

pub overflow_add-i : goal.overflow_add-i
overflow_add-i c = let r = c.args.rows.now in omega (arith, c.loop-k-test.true, c.requires.putting.there, rows_few r.sound.whole (undamaged_told r.sound.pool.now r.sound.table.now r.undamaged))

pub put_row-requires-clause-putting : goal.put_row-requires-clause-putting
put_row-requires-clause-putting c = row_asked c.args.rows.now.sound.whole c.args.rows.now.undamaged c.loop-k.invariant c.requires.putting c.loop-k-test.true

pub overflow_mul-p : goal.overflow_mul-p
overflow_mul-p c = omega (arith, c.requires.all, row_ends c.args.rows.now.sound.whole c.args.rows.now.undamaged c.loop-k.invariant c.requires.putting c.loop-k-test.true, c.well_formed)

pub overflow_add-p : goal.overflow_add-p
overflow_add-p c = omega (arith, c.requires.all, row_ends c.args.rows.now.sound.whole c.args.rows.now.undamaged c.loop-k.invariant c.requires.putting c.loop-k-test.true, c.well_formed)

pub loop-k-preserved : goal.loop-k-preserved
loop-k-preserved c =
    let a = c.args in
    let r = a.rows.now.sound in
    subst (λ (x : ℕ). RowsLaid r.pool.now r.table.now a.bytes.now a.at a.i a.n c.put_row.new.bytes c.put_row.new.path (c.loop-k.p + 8 * x) (c.loop-k.k + 1)) (sym c.requires.all) (one_laid c.args.rows.now.sound.whole c.args.rows.now.undamaged c.loop-k.invariant c.requires.putting c.loop-k-test.true c.put_row.ensures)

pub shape_of-bytes : goal.shape_of-bytes
shape_of-bytes c = rows_kept c.args.rows.now.sound.whole c.args.rows.now.undamaged c.loop-k.invariant

pub returns : goal.returns
returns c = all_laid c.loop-k.invariant c.loop-k-test.false
