-- The goals of `write_number` that the check leaves: the last digit goes behind the others.
use Prim.Native.Nat.{ℕ, ◌+◌, ◌/◌, ◌%◌}
use mathlib.Core.Path.{sym, ap, ap₂, ◌∙◌}
use mathlib.Core.List.{List}
use native.Mathlib.Omega.{arith}
use lib.ListN.{length, set}
use Rattle.column_trie.specs.Pool.{lay}
use Rattle.column_trie.proofs.Pool.{lay_length, lay_snoc}
use Rattle.layer_text.specs.Text.{decimal}
use Rattle.layer_text.proofs.Texts.{decimal_one, decimal_more, more_long, lay_one}
use Rattle.layer_text.proofs.+write_number.Goals as goal

pub bounds-text-at : goal.bounds-text-at
bounds-text-at t c = omega (arith, c.requires, ap length (decimal_one c.args.n c.if-n-lt10.true))

pub returns-then-n-lt10 : goal.returns-then-n-lt10
returns-then-n-lt10 t c =
    let a = c.args in
    let e = decimal_one a.n c.if-n-lt10.true in
    (omega (arith, ap length e), sym (ap (lay a.text.now a.at) e ∙ lay_one a.text.now a.at (48 + a.n)))

pub write_number-end-requires : goal.write_number-end-requires
write_number-end-requires t c =
    (omega (arith, c.decreases, c.if-n-lt10.false), omega (arith, c.requires, more_long c.args.n c.if-n-lt10.false))

pub bounds-text-end : goal.bounds-text-end
bounds-text-end t c =
    let a = c.args in
    let w = c.write_number-end.ensures in
    omega (arith, c.requires, more_long a.n c.if-n-lt10.false, w.0, ap length w.1, lay_length a.text.now a.at (decimal (a.n / 10)))

pub overflow_add-result-2 : goal.overflow_add-result-2
overflow_add-result-2 t c = omega (arith, c.requires, more_long c.args.n c.if-n-lt10.false, c.write_number-end.ensures)

pub returns : goal.returns
returns t c =
    let a = c.args in
    let h = c.if-n-lt10.false in
    let w = c.write_number-end.ensures in (
      omega (arith, more_long a.n h, w.0),
      ap₂ (λ (l : List ℕ) (e : ℕ). set l e (48 + a.n % 10)) w.1 w.0
          ∙ sym (lay_snoc a.text.now a.at (decimal (a.n / 10)) (48 + a.n % 10))
          ∙ ap (lay a.text.now a.at) (sym (decimal_more a.n h)),
    )
