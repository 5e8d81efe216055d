-- The goals of `from_sorted` that the check leaves.
use Prim.Native.Nat.{ℕ, ◌+◌, ◌*◌, ◌-◌, ◌/◌, ◌≤◌, ◌<◌}
use mathlib.Core.Path.{◌≡◌, refl, sym, ap, ◌∙◌, subst}
use mathlib.Core.List.{List, []}
use native.Mathlib.Omega.{arith}
use native.Mathlib.Nat.{zero-mul}
use lib.ListN.{length, take, drop, get_or}
use Rattle.from_sorted.specs.Given.{rows_given}
use Rattle.from_sorted.specs.Push.{Following, Fills}
use Rattle.from_sorted.proofs.Given.{length_given, width_given, row_inside, row_there, row_lent, row_back}
use Rattle.from_sorted.proofs.Fill.{pushing_first, filled_first, fills_none, fills_all, can_push, pushed}
use Rattle.from_sorted.proofs.from_sorted.Goals as goal
use Rattle.from_sorted.proofs.from_sorted.Goals.{In-loop-i}

first : (a : ℕ) (ws : List ℕ) → 0 < length (rows_given a ws) → take a ws ≡ get_or (rows_given a ws) 0 []
first a ws h = ap (λ (n : ℕ). take a (drop n ws)) (sym (zero-mul a)) ∙ row_there a ws 0 (omega (arith, length_given a ws))

ahead : (a : ℕ) (ws : List ℕ) {i : ℕ} → i < length ws / a → i < length (rows_given a ws)
ahead a ws h = omega (arith, length_given a ws)

pub returns-then-n-eq0 : goal.returns-then-n-eq0
returns-then-n-eq0 c = fills_none c.requires (width_given c.args.t.arity c.args.rows.now) (length_given c.args.t.arity c.args.rows.now ∙ c.if-n-eq0.true)

pub append_row-requires : goal.append_row-requires
append_row-requires c =
    let h : 0 < length (rows_given c.args.t.arity c.args.rows.now) = omega (arith, length_given c.args.t.arity c.args.rows.now, c.if-n-eq0.false) in
    can_push (first c.args.t.arity c.args.rows.now h) (pushing_first c.requires (width_given c.args.t.arity c.args.rows.now) c.of-lengths.ensures h)

pub loop-i-init : goal.loop-i-init
loop-i-init c =
    let h : 0 < length c.args.rows.now / c.args.t.arity = omega (arith, c.if-n-eq0.false) in
    filled_first c.requires (width_given c.args.t.arity c.args.rows.now) (ahead c.args.t.arity c.args.rows.now h) (pushed (first c.args.t.arity c.args.rows.now (ahead c.args.t.arity c.args.rows.now h)) (pushing_first c.requires (width_given c.args.t.arity c.args.rows.now) c.of-lengths.ensures (ahead c.args.t.arity c.args.rows.now h)) c.append_row.ensures)

-- where the loop turns
module _ (c : In-loop-i) where
  abbrev a : ℕ
  a = c.args.t.arity

  abbrev ws : List ℕ
  ws = c.args.rows.now

  abbrev i : ℕ
  i = c.loop-i.i

  -- where row i lies, and the row before it
  at_row : (i * a + a ≤ length ws) × (i * a - a ≡ (i - 1) * a) × (a ≤ i * a)
  at_row = let b = row_back a i c.loop-i.invariant.low in (row_inside a ws i c.loop-i-test.true, b.0, b.1)

  abbrev lent : ℕ → List ℕ
  lent x = take (length ws - x) (drop x ws)

  row_now : take a (lent (i * a)) ≡ get_or (rows_given a ws) i []
  row_now = row_lent a ws i c.loop-i-test.true refl

  row_last : take a (lent (i * a - a)) ≡ get_or (rows_given a ws) (i - 1) []
  row_last = row_lent a ws (i - 1) (omega (arith, c.loop-i-test.true)) at_row.1

  -- row i is the next one
  following : Following (length c.args.pool.now) c.args.t (rows_given a ws) c.append_row.new.pool c.loop-i.pool c.loop-i.lengths.data c.loop-i.lengths.intervals i (take a (lent (i * a - a))) (take a (lent (i * a)))
  following =
      record {
        filling = c.requires;
        width = width_given a ws;
        filled = c.loop-i.invariant;
        same = c.loop-i.invariant.long ∙ c.append_row.auto.pool;
        more = ahead a ws c.loop-i-test.true;
        last_is = row_last;
        row_is = row_now;
      }

pub append_next-requires : goal.append_next-requires
append_next-requires c = (length c.args.pool.now, rows_given c.args.t.arity c.args.rows.now, c.append_row.new.pool, c.loop-i.i, following (goal.at.append_next-requires c).In-loop-i)

pub loop-i-preserved : goal.loop-i-preserved
loop-i-preserved c = c.append_next.ensures (length c.args.pool.now) (rows_given c.args.t.arity c.args.rows.now) c.append_row.new.pool c.loop-i.i (following (goal.at.loop-i-preserved c).In-loop-i)

pub returns : goal.returns
returns c =
    let h : 0 < length c.args.rows.now / c.args.t.arity = omega (arith, c.if-n-eq0.false) in
    subst (Fills c.args.pool.now c.args.t (rows_given c.args.t.arity c.args.rows.now) c.loop-i.pool) (sym c.filled.ensures)
    (fills_all c.requires (width_given c.args.t.arity c.args.rows.now) (ahead c.args.t.arity c.args.rows.now h) (pushed (first c.args.t.arity c.args.rows.now (ahead c.args.t.arity c.args.rows.now h)) (pushing_first c.requires (width_given c.args.t.arity c.args.rows.now) c.of-lengths.ensures (ahead c.args.t.arity c.args.rows.now h)) c.append_row.ensures) c.loop-i.invariant (omega (arith, length_given c.args.t.arity c.args.rows.now, c.loop-i-test.false)))
