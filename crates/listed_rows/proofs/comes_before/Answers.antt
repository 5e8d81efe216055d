-- The goals of `comes_before` that the check leaves.
use lib.ListN.{drop_of_length-le}
use lib.Seq.{get_or-take}
use Rattle.relation.proofs.Lists.{get_or_in}
use Prim.Native.Nat.{ℕ, ◌<◌}
use native.Mathlib.Omega.{arith}
use mathlib.Core.Path.{◌≡◌, refl, sym, ◌∙◌}
use lib.ListN.{length, get_or}
use Rattle.join_query.specs.Query.{order_of}
use Rattle.join_query.specs.declared.Query.{Query}
use Rattle.listed_rows.proofs.Reading.{same_word, other_word, no_word}
use Rattle.listed_rows.proofs.comes_before.Goals as goal
use Rattle.listed_rows.proofs.comes_before.Goals.{In-loop-d, Start}

-- the variable at a place of the order, which is below n
module _ (t : In-loop-d) where
  abbrev q : Query
  q = t.args.q.now

  abbrev d : ℕ
  d = t.loop-d.d

  inside : d < length (order_of q)
  inside = omega (arith, t.requires.permutation.size, t.loop-d-test.true)

  variable : get_or (order_of q) d 0 ≡ get_or q.order d 0
  variable = get_or-take q.n q.order d 0 t.loop-d-test.true

  low : get_or q.order d 0 < q.n
  low = rw (← variable) (t.requires.permutation.below (get_or (order_of q) d 0) (get_or_in (order_of q) d 0 inside))

  below : get_or q.order d 0 < 8
  below = omega (arith, low, t.requires.few)

pub loop-d-init : goal.loop-d-init
loop-d-init c = refl

pub offset_bounds-q-d : goal.offset_bounds-q-d
offset_bounds-q-d c = omega (arith, c.requires.few)

pub bounds-q-d : goal.bounds-q-d
bounds-q-d c = omega (arith, c.requires.few)

pub offset_bounds-a-v : goal.offset_bounds-a-v
offset_bounds-a-v c = omega (arith, below (goal.at.offset_bounds-a-v c).In-loop-d)

pub bounds-a-v : goal.bounds-a-v
bounds-a-v c = omega (arith, below (goal.at.bounds-a-v c).In-loop-d)

pub offset_bounds-b-v : goal.offset_bounds-b-v
offset_bounds-b-v c = omega (arith, below (goal.at.offset_bounds-b-v c).In-loop-d)

pub bounds-b-v : goal.bounds-b-v
bounds-b-v c = omega (arith, below (goal.at.bounds-b-v c).In-loop-d)

pub returns-then-a-v : goal.returns-then-a-v
returns-then-a-v c =
    let a = c.args in
    sym (c.loop-d.invariant ∙ other_word (order_of a.q.now) a.a a.b c.loop-d.d (get_or a.q.now.order c.loop-d.d 0) (inside (goal.at.returns-then-a-v c).In-loop-d) (variable (goal.at.returns-then-a-v c).In-loop-d) c.if-a-v.true)

pub loop-d-preserved : goal.loop-d-preserved
loop-d-preserved c =
    let a = c.args in
    (c.loop-d.invariant ∙ same_word (order_of a.q.now) a.a a.b c.loop-d.d (get_or a.q.now.order c.loop-d.d 0) (inside (goal.at.loop-d-preserved c).In-loop-d) (variable (goal.at.loop-d-preserved c).In-loop-d) c.if-a-v.false)

pub returns : goal.returns
returns c =
    let a = c.args in
    sym (c.loop-d.invariant ∙ no_word (order_of a.q.now) a.a a.b c.loop-d.d (drop_of_length-le (order_of a.q.now) {i = c.loop-d.d} (omega (arith, c.requires.permutation.size, c.loop-d-test.false))))
