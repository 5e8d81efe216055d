-- The goals of `read_kinds` that the check leaves.
use Prim.Native.Nat.{◌+◌}
use mathlib.Core.Path.{sym, ap, ◌∙◌}
use mathlib.Core.Bool.{Bool}
use mathlib.Core.List.{List}
use native.Mathlib.Omega.{arith}
use lib.ListN.{get_or, set}
use lib.Dec.{eqb}
use Rattle.file_read.proofs.Grades.{kept_none, kept_more}
use Rattle.file_read.proofs.read_kinds.Goals as goal

pub returns-then-bytes-byte : goal.returns-then-bytes-byte
returns-then-bytes-byte c = kept_none c.args.arity c.args.bytes.now c.requires.few (λ e. c.if-bytes-byte.true (e ∙ sym c.byte.ensures))

pub bounds-bytes-d : goal.bounds-bytes-d
bounds-bytes-d c = omega (arith, c.requires.there (c.if-bytes-byte.false ∙ c.byte.ensures), c.loop-d-test.true)

pub bounds-grade-d : goal.bounds-grade-d
bounds-grade-d c = omega (arith, c.requires.few, c.loop-d-test.true)

pub loop-d-preserved : goal.loop-d-preserved
loop-d-preserved c =
    let l = c.loop-d in
    let t = (c.if-bytes-byte.false ∙ c.byte.ensures) in
    ap (λ (g : List Bool). set g l.d (eqb (get_or c.args.bytes.now (7 + l.d) 0) 1)) l.invariant ∙ kept_more c.args.arity c.args.bytes.now l.d c.requires.few t (c.requires.there t) c.loop-d-test.true
