-- `file_check::check` meets its contract.
use Prim.Native.Nat.{ℕ}
use mathlib.Core.Path.{◌≡◌, sym, ap, ◌∙◌}
use native.Mathlib.Omega.{arith}
use lib.ListN.{get_or}
use Rattle.std.specs.Prelude.{Some}
use Rattle.table_file.specs.File.{ascending}
use Rattle.file_check.specs.Checks.{counted, given, rows_from}
use Rattle.file_check.proofs.Whole.{begun, not_begun, check_rows, has_rows, check_falls, check_good}
use Rattle.file_check.proofs.check.Goals as goal
use Rattle.file_check.proofs.check.Goals.{In_ok-rows}

pub returns-in_err-body : goal.returns-in_err-body
returns-in_err-body c = c.from_residual.ensures ∙ sym (not_begun c.args.bytes.now c.in_err-body.ensures)

pub bounds-bytes-3 : goal.bounds-bytes-3
bounds-bytes-3 c = omega (arith, (begun c.args.bytes.now c.in_ok-body.ensures).long)

pub invariant_of-fields : goal.invariant_of-fields
invariant_of-fields c =
    let g = begun c.args.bytes.now c.in_ok-body.ensures in
    record { inside = g.inside; some = omega (arith, g.some, c.from-arity.ensures); few = omega (arith, g.few, c.from-arity.ensures); each = λ i. omega (arith, c.type_inv.bytes i) }

-- the arity is the head's
module _ (c : In_ok-rows) where
  counted_rows : Some c.in_ok-rows.rows ≡ counted (rows_from c.args.bytes.now c.in_ok-body.body (get_or c.args.bytes.now 3 0))
  counted_rows = c.in_ok-rows.ensures ∙ ap (λ (a : ℕ). counted (rows_from c.args.bytes.now c.in_ok-body.body a)) c.from-arity.ensures

pub returns-in_err-rows : goal.returns-in_err-rows
returns-in_err-rows c =
    c.from_residual-in_err-rows.ensures ∙ sym (check_rows c.args.bytes.now (begun c.args.bytes.now c.in_ok-body.ensures) (c.in_err-rows.ensures ∙ ap (λ (a : ℕ). counted (rows_from c.args.bytes.now c.in_ok-body.body a)) c.from-arity.ensures))

pub ascends-requires : goal.ascends-requires
ascends-requires c = rw c.from-arity.ensures (has_rows c.args.bytes.now (begun c.args.bytes.now c.in_ok-body.ensures) (counted_rows (goal.at.ascends-requires c).In_ok-rows))

pub returns-then-ascends : goal.returns-then-ascends
returns-then-ascends c =
    let rise = ap (λ (a : ℕ). ascending (given (rows_from c.args.bytes.now c.in_ok-body.body a))) (sym c.from-arity.ensures) ∙ sym c.ascends.ensures ∙ c.if-ascends.true in
    rw c.from-arity.ensures (sym (check_good c.args.bytes.now (begun c.args.bytes.now c.in_ok-body.ensures) (counted_rows (goal.at.returns-then-ascends c).In_ok-rows) rise))

pub returns-else-ascends : goal.returns-else-ascends
returns-else-ascends c =
    let fall = ap (λ (a : ℕ). ascending (given (rows_from c.args.bytes.now c.in_ok-body.body a))) (sym c.from-arity.ensures) ∙ sym c.ascends.ensures ∙ c.if-ascends.false in
    sym (check_falls c.args.bytes.now (begun c.args.bytes.now c.in_ok-body.ensures) (counted_rows (goal.at.returns-else-ascends c).In_ok-rows) fall)
