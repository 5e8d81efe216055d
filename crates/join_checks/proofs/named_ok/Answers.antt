-- `named_ok` meets its contract: the first two tests are the definition's, and `all` makes the third at every index.
use native.Mathlib.Omega.{arith}
use mathlib.Core.Path.{◌∙◌}
use borrow.Author.Rules.{rules}
use borrow.Author.Tests.{lt-leb}
use Prim.Native.Nat.{◌<◌}
use Rattle.join_query.specs.Query.{no_atom, names_some}
use Rattle.join_query.proofs.Lists.{atoms_many, tables_many, names_all}
use Rattle.join_checks.proofs.Every.{every_first}
use Rattle.join_checks.proofs.named_ok.Goals as goal
use Rattle.join_checks.proofs.named_ok.Goals.{then-q-le-MAX_ATOMS, else-q-le-MAX_ATOMS}

pub returns-then-count-le-MAX_TABLES : goal.returns-then-count-le-MAX_TABLES
returns-then-count-le-MAX_TABLES c =
    let a = c.args in
    let h = c.if-count-le-MAX_TABLES.true in
    names_all a.count a.q.now (omega (arith, h)) c.all.result (omega (arith, h))
    (every_first (names_some a.count) no_atom a.q.now.atoms a.q.now.atom_count c.atoms.ensures.listed c.atoms.ensures.many c.all.result (search rules) (search rules))

pub returns-else-count-le-MAX_TABLES : goal.returns-else-count-le-MAX_TABLES
returns-else-count-le-MAX_TABLES c =
    let a = c.args in
    elim c.if-q-le-MAX_ATOMS.branch [
      | then-q-le-MAX_ATOMS w ↦ let h : 8 < a.count = omega (arith, c.if-count-le-MAX_TABLES.either, w.if-q-le-MAX_ATOMS.true) in w.t-5-is ∙ lt-leb a.count 8 h ∙ tables_many a.count a.q.now w.if-q-le-MAX_ATOMS.true h
      | else-q-le-MAX_ATOMS w ↦ w.t-5-is ∙ lt-leb a.q.now.atom_count 8 w.if-q-le-MAX_ATOMS.false ∙ atoms_many a.count a.q.now w.if-q-le-MAX_ATOMS.false
    ]
