-- `layer_text::Writer::list` meets its contract: nothing, or the first number and the others; and what closes the list.
use Prim.Native.Nat.{◌+◌, ◌*◌, ◌≤◌}
use mathlib.Core.Path.{sym, subst}
use native.Mathlib.Omega.{arith}
use lib.ListN.{length}
use Rattle.layer_text.specs.Text.{numbers}
use Rattle.layer_text.specs.Wrote.{Wrote}
use Rattle.layer_text.specs.declared.Writer.{Writer}
use Rattle.layer_text.proofs.Texts.{numbers_none, numbers_tail, tail_length, wrote_none, wrote_more, wrote_as}
use Rattle.layer_text.proofs.Writer.list.Goals as goal
use Rattle.layer_text.proofs.Writer.list.Goals.{Joined-words-gt0, then-words-gt0, else-words-gt0}

-- the numbers, once the arms meet
listed : (c : Joined-words-gt0) → Wrote c.args.self.now c.if-words-gt0.self (numbers c.args.words.now) × (c.if-words-gt0.self.end ≤ c.args.self.now.end + 22 * length c.args.words.now)
listed c =
    let s = c.args.self.now in
    let xs = c.args.words.now in
    elim c.if-words-gt0.branch [
      | then-words-gt0 w ↦ subst (λ (z : Writer). Wrote s z (numbers xs) × (z.end ≤ s.end + 22 * length xs)) (sym w.self-is) (
        wrote_as (sym (numbers_tail xs (λ e. omega (arith, w.if-words-gt0.true)))) (wrote_more w.number.ensures.0 w.others.ensures.0),
        omega (arith, w.number.ensures.1, w.others.ensures.1, tail_length xs, w.if-words-gt0.true),
      )
      | else-words-gt0 w ↦ subst (λ (z : Writer). Wrote s z (numbers xs) × (z.end ≤ s.end + 22 * length xs)) (sym w.self-is) (wrote_as (sym (numbers_none xs (omega (arith, w.if-words-gt0.false)))) (wrote_none s), omega arith)
    ]

pub put-requires : goal.put-requires
put-requires c = omega (arith, c.requires, (listed (goal.at.put-requires c).Joined-words-gt0).1)

pub returns : goal.returns
returns c =
    let l = listed (goal.at.returns c).Joined-words-gt0 in
    (wrote_more l.0 c.put.ensures, omega (arith, l.1, c.put.ensures.piece.ends))
