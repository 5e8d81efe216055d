-- The goals of `Writer::others` that the check leaves.
use Prim.Native.Nat.{ℕ}
use mathlib.Core.Path.{refl, sym, ap, ◌∙◌}
use native.Mathlib.Omega.{arith}
use native.Mathlib.Numerals.{add-one}
use lib.ListN.{take}
use lib.Seq.{take_all}
use Rattle.layer_text.specs.Text.{others}
use Rattle.layer_text.proofs.Texts.{none_others, others_more, written_more, wrote_none, wrote_more, wrote_as}
use Rattle.layer_text.proofs.Writer.others.Goals as goal

pub loop-word-init : goal.loop-word-init
loop-word-init c = (wrote_as (sym none_others) (wrote_none c.args.self.now), omega arith)

pub put-end-requires : goal.put-end-requires
put-end-requires c = omega (arith, c.requires, c.loop-word.invariant.1, c.loop-word-test.true)

pub put_number-end-requires : goal.put_number-end-requires
put_number-end-requires c = omega (arith, c.requires, c.loop-word.invariant.1, c.loop-word-test.true, c.put-end.ensures.ends)

pub loop-word-preserved : goal.loop-word-preserved
loop-word-preserved c =
    let xs = c.args.words.now in
    let e = ap (λ (n : ℕ). others (take n xs)) (add-one c.loop-word.word-index) ∙ others_more xs c.loop-word.word-index c.loop-word-test.true in
    let w = wrote_more c.loop-word.invariant.0 (record { same = refl; piece = written_more c.put-end.ensures c.put_number-end.ensures.0 }) in
    (wrote_as (sym e) w, omega (arith, c.loop-word.invariant.1, c.put-end.ensures.ends, c.put_number-end.ensures.1))

pub returns : goal.returns
returns c =
    let l = c.loop-word in
    let xs = c.args.words.now in
    (wrote_as (ap others (take_all l.word-index xs c.loop-word-test.false)) l.invariant.0, omega (arith, l.invariant.1, l.auto.word-index-end))
