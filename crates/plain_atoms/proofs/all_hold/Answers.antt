-- The goals of `all_hold` that the check leaves.
use Prim.Native.Nat.{ℕ, suc}
use native.Mathlib.Omega.{arith}
use mathlib.Core.Path.{◌≡◌, sym, ap, ◌∙◌}
use mathlib.Core.Bool.{true}
use lib.ListN.{length, get_or}
use borrow.Author.Tests.{eq-eqb, ne_eqb}
use Rattle.std.specs.Prelude.{Option, Some, nat_eq}
use Rattle.std.specs.Option.{option_eq}
use Rattle.join_query.specs.Query.{vars_of, atom_at, atom_of}
use Rattle.join_query.proofs.Accepted.{names, lists}
use Rattle.plain.specs.Plain.{column, holds}
use Rattle.plain_atoms.proofs.Places.{column_some, column_none}
use Rattle.plain_atoms.proofs.Searching.{searched, holds_skip, holds_asked, left_next, left_none}
use Rattle.plain_atoms.proofs.all_hold.Goals as goal
use Rattle.plain_atoms.proofs.all_hold.Goals.{in-Some+then-c-a+in-Some-next_key, in-Some+else-c-a, in_default}

pub offset_bounds-asked-i : goal.offset_bounds-asked-i
offset_bounds-asked-i c = omega (arith, (names c.args.asked.passed.accepted).few)

pub bounds-asked-i : goal.bounds-asked-i
bounds-asked-i c = omega (arith, (names c.args.asked.passed.accepted).few)

pub column-requires : goal.column-requires
column-requires c = (lists c.args.asked.passed.accepted c.loop-i.i c.loop-i-test.true).short

pub overflow_add-c : goal.overflow_add-c
overflow_add-c c = let k = column_some (atom_at c.args.asked.query.now c.loop-i.i) c.args.v c.in-Some.ensures.place in omega (arith, k.1, c.in-Some.ensures.long, (lists c.args.asked.passed.accepted c.loop-i.i c.loop-i-test.true).short)

pub next_key-requires : goal.next_key-requires
next_key-requires c = (searched c.args.asked.passed.accepted c.loop-i.i c.loop-i-test.true).reads c.in-Some.c (column_some (atom_at c.args.asked.query.now c.loop-i.i) c.args.v c.in-Some.ensures.place).1

-- a key above the row's word, or none, is found where its part is not there
pub returns-in_default-next_key : goal.returns-in_default-next_key
returns-in_default-next_key c =
    let a = c.args in
    let i = c.loop-i.i in
    let t = atom_at a.asked.query.now i in
    let k = column_some t a.v c.in-Some.ensures.place in
    let e : suc (column a.v (vars_of t)) ≡ length (vars_of t) = omega (arith, k.0, c.in-Some.ensures.long, c.if-c-a.true) in
    let z = a.asked.passed.accepted in
    let asked = holds_asked a.asked.pool.now a.asked.tables.now t a.v a.row (searched z i c.loop-i-test.true) e k.0 c.next_key.ensures in
    let here = sym (ne_eqb c.in-Some-next_key.key (get_or a.row a.v 0) (λ d. omega (arith, d, c.if-key-row.false))) ∙ ap (λ (x : Option ℕ). option_eq nat_eq x (Some (get_or a.row a.v 0))) (sym c.in-Some-next_key.is) ∙ asked in
    left_next z a.v a.row i c.loop-i-test.true here ∙ c.loop-i.invariant

pub returns-in_default-next_key-2 : goal.returns-in_default-next_key-2
returns-in_default-next_key-2 c =
    let a = c.args in
    let i = c.loop-i.i in
    let t = atom_at a.asked.query.now i in
    let k = column_some t a.v c.in-Some.ensures.place in
    let e : suc (column a.v (vars_of t)) ≡ length (vars_of t) = omega (arith, k.0, c.in-Some.ensures.long, c.if-c-a.true) in
    let z = a.asked.passed.accepted in
    let asked = holds_asked a.asked.pool.now a.asked.tables.now t a.v a.row (searched z i c.loop-i-test.true) e k.0 c.next_key.ensures in
    let here = ap (λ (x : Option ℕ). option_eq nat_eq x (Some (get_or a.row a.v 0))) (sym c.in_default-next_key.is) ∙ asked in
    left_next z a.v a.row i c.loop-i-test.true here ∙ c.loop-i.invariant

pub loop-i-preserved : goal.loop-i-preserved
loop-i-preserved c =
    let a = c.args in
    let i = c.loop-i.i in
    let t = atom_at a.asked.query.now i in
    let z = a.asked.passed.accepted in
    let here : true ≡ holds a.v a.row (atom_of a.asked.pool.now a.asked.tables.now t) =
    elim c.match-column.branch [
      | in-Some+then-c-a+in-Some-next_key w ↦
          let k = column_some t a.v w.in-Some.ensures.place in
          let e : suc (column a.v (vars_of t)) ≡ length (vars_of t) = omega (arith, k.0, w.in-Some.ensures.long, w.if-c-a.true) in
          let asked = holds_asked a.asked.pool.now a.asked.tables.now t a.v a.row (searched z i c.loop-i-test.true) e k.0 w.next_key.ensures in
          sym (eq-eqb w.in-Some-next_key.key (get_or a.row a.v 0) (omega (arith, w.if-key-row.true))) ∙ ap (λ (x : Option ℕ). option_eq nat_eq x (Some (get_or a.row a.v 0))) (sym w.in-Some-next_key.is) ∙ asked
      | in-Some+else-c-a w ↦
          let k = column_some t a.v w.in-Some.ensures.place in
          holds_skip a.asked.pool.now a.asked.tables.now t a.v a.row (λ d. w.if-c-a.false (omega (arith, k.0, w.in-Some.ensures.long, d)))
      | in_default w ↦ holds_skip a.asked.pool.now a.asked.tables.now t a.v a.row (λ d. omega (arith, column_none t a.v w.in_default.ensures.place, d))
    ] in
    left_next z a.v a.row i c.loop-i-test.true here ∙ c.loop-i.invariant

pub returns : goal.returns
returns c = sym (left_none c.args.asked.passed.accepted c.args.v c.args.row c.loop-i.i (omega arith)) ∙ c.loop-i.invariant
