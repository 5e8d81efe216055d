-- The goals of `put_fields` that the check leaves.
use Prim.Native.Nat.{ℕ, ◌+◌, ◌*◌, ◌-◌, ◌<◌, ◌≤◌, min}
use mathlib.Core.Path.{◌≡◌, sym, ap, ◌∙◌, subst}
use native.Mathlib.Omega.{arith}
use lib.ListN.{length, take, drop}
use Rattle.column_trie.specs.Table.{rows_in, Undamaged}
use Rattle.column_trie.proofs.Layers.{Whole}
use Rattle.column_trie.proofs.Damage.{undamaged_told}
use Rattle.table_file.specs.File.{per_field, rows_field}
use Rattle.table_file.proofs.Fields.{per_some}
use Rattle.row_path.proofs.Keys.{start_path}
use Rattle.file_rows.specs.Rows.{Putting, RowsPut}
use Rattle.file_rows.proofs.Fields.{FieldsLaid, no_fields, fields_kept, fields_end, next_some, next_there, next_room, next_few, next_asked, next_laid}
use Rattle.file_rows.proofs.put_fields.Goals as goal
use Rattle.file_rows.proofs.put_fields.Goals.{After-min-n, Start}

whole : (s : Start) → Whole s.args.rows.now.sound.table.now
whole s = s.args.rows.now.sound.whole

sound : (s : Start) → Undamaged s.args.rows.now.sound.pool.now s.args.rows.now.sound.table.now
sound s = undamaged_told s.args.rows.now.sound.pool.now s.args.rows.now.sound.table.now s.args.rows.now.undamaged

-- in a turn of the loop: the next field's rows, by the full field that the code computed
module _ (k : After-min-n) where
  whole_here : Whole k.args.rows.now.sound.table.now
  whole_here = k.args.rows.now.sound.whole

  some : 0 < per_field k.args.rows.now.sound.table.now.arity
  some = let u = undamaged_told k.args.rows.now.sound.pool.now k.args.rows.now.sound.table.now k.args.rows.now.undamaged in per_some k.args.rows.now.sound.table.now.arity u.arity.0 u.arity.1

  abbrev rows : ℕ
  rows = min (per_field k.args.rows.now.sound.table.now.arity) (k.args.rows.now.sound.table.now.tuple_count - k.loop-i.i)

  rows_are : k.min-n.result ≡ rows
  rows_are = k.min-n.ensures ∙ ap (λ (m : ℕ). min m (k.args.rows.now.sound.table.now.tuple_count - k.loop-i.i)) k.per_field-full.ensures.0

  within : k.loop-i.p + 3 + 8 * (k.min-n.result * k.args.rows.now.sound.table.now.arity) ≤ length k.args.bytes.now
  within = subst (λ (n : ℕ). k.loop-i.p + 3 + 8 * (n * k.args.rows.now.sound.table.now.arity) ≤ length k.args.bytes.now) (sym rows_are) (next_room whole_here k.args.rows.now.undamaged k.loop-i.invariant k.loop-i-test.true some k.requires)

  few : 8 * (k.min-n.result * k.args.rows.now.sound.table.now.arity) ≤ 65535
  few = subst (λ (n : ℕ). 8 * (n * k.args.rows.now.sound.table.now.arity) ≤ 65535) (sym rows_are) (next_few whole_here k.args.rows.now.undamaged k.loop-i.invariant k.loop-i-test.true some)

pub per_field-full-requires : goal.per_field-full-requires
per_field-full-requires c = let u = sound (goal.at.per_field-full-requires c).Start in (u.arity.0, u.arity.1)

pub loop-i-init : goal.loop-i-init
loop-i-init c = no_fields c.args.bytes.now c.args.at (start_path (whole (goal.at.loop-i-init c).Start) (sound (goal.at.loop-i-init c).Start))

pub put_rows_field-requires : goal.put_rows_field-requires
put_rows_field-requires c =
    let k = (goal.at.put_rows_field-requires c).After-min-n in
    (subst (λ (n : ℕ). Putting c.args.rows.now.sound.pool.now c.args.rows.now.sound.table.now c.loop-i.path c.loop-i.i n (c.loop-i.p + 3) (length c.loop-i.bytes)) (sym (rows_are k)) (next_asked (whole_here k) c.args.rows.now.undamaged c.loop-i.invariant c.loop-i-test.true (some k) c.requires), few k)

pub overflow_mul-p : goal.overflow_mul-p
overflow_mul-p c = omega (arith, few (goal.at.overflow_mul-p c).After-min-n, within (goal.at.overflow_mul-p c).After-min-n, c.well_formed)

pub overflow_mul-p-in-loop-i : goal.overflow_mul-p-in-loop-i
overflow_mul-p-in-loop-i c = omega (arith, few (goal.at.overflow_mul-p-in-loop-i c).After-min-n, within (goal.at.overflow_mul-p-in-loop-i c).After-min-n, c.well_formed)

pub overflow_add-p : goal.overflow_add-p
overflow_add-p c = omega (arith, few (goal.at.overflow_add-p c).After-min-n, within (goal.at.overflow_add-p c).After-min-n, c.well_formed)

pub overflow_add-p-in-loop-i : goal.overflow_add-p-in-loop-i
overflow_add-p-in-loop-i c = omega (arith, few (goal.at.overflow_add-p-in-loop-i c).After-min-n, within (goal.at.overflow_add-p-in-loop-i c).After-min-n, c.well_formed)

pub overflow_add-i : goal.overflow_add-i
overflow_add-i c =
    let k = (goal.at.overflow_add-i c).After-min-n in
    omega (arith, rows_are k, next_there (whole_here k) c.args.rows.now.undamaged c.loop-i.invariant c.loop-i-test.true (some k), c.well_formed)

pub loop-i-smaller : goal.loop-i-smaller
loop-i-smaller c =
    let k = (goal.at.loop-i-smaller c).After-min-n in
    omega (arith, rows_are k, next_some (whole_here k) c.args.rows.now.undamaged c.loop-i.invariant c.loop-i-test.true (some k), c.loop-i-test.true)

pub loop-i-preserved : goal.loop-i-preserved
loop-i-preserved c =
    let k = (goal.at.loop-i-preserved c).After-min-n in
    let q = c.put_rows_field in
    subst (λ (n : ℕ). RowsPut c.args.rows.now.sound.pool.now c.args.rows.now.sound.table.now (c.loop-i.i + n - 1) c.loop-i.bytes c.loop-i.p (rows_field (take n (drop c.loop-i.i (rows_in c.args.rows.now.sound.pool.now c.args.rows.now.sound.table.now)))) q.new.bytes q.new.path → FieldsLaid c.args.rows.now.sound.pool.now c.args.rows.now.sound.table.now c.args.bytes.now c.args.at q.new.bytes q.new.path (c.loop-i.p + (3 + 8 * (n * c.args.rows.now.sound.table.now.arity))) (c.loop-i.i + n))
    (sym (rows_are k)) (next_laid (whole_here k) c.args.rows.now.undamaged c.loop-i.invariant c.loop-i-test.true (some k)) q.ensures

pub shape_of-bytes : goal.shape_of-bytes
shape_of-bytes c = fields_kept (whole (goal.at.shape_of-bytes c).Start) c.args.rows.now.undamaged c.loop-i.invariant

pub returns : goal.returns
returns c = fields_end (whole (goal.at.returns c).Start) c.args.rows.now.undamaged c.loop-i.invariant c.loop-i-test.false
