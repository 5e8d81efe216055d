-- `descend` meets its contract: with no variable left it writes one row; else the keys left at this depth lead to its end (Walking.antt), and the
-- call for each key is one depth further down.
use Prim.Native.Nat.{ℕ, ◌+◌, ◌<◌}
use native.Mathlib.Omega.{arith}
use mathlib.Core.Path.{◌≡◌, sym, subst}
use mathlib.Core.List.{List}
use lib.ListN.{length, set}
use borrow.Author.Rules.{rules}
use Rattle.join_query.specs.Query.{max_variables}
use Rattle.join_plan.specs.Plan.{Plan}
use Rattle.join_window.specs.Window.{Kept}
use Rattle.join_window.specs.declared.Window.{Window}
use Rattle.join_window.proofs.Windows.{open_own, emitted_on, still_open, kept_none, kept_on}
use Rattle.join_openings.specs.Openings.{variable_at}
use Rattle.join_depths.specs.Depth.{Standing, Opening}
use Rattle.descent.specs.Descent.{Completes}
use Rattle.descent.proofs.Walking.{walk_start, walk_below, walk_agreed, walk_same, walk_full, walk_next, walk_none, steps_less, few_variables, deep_enough, variable_small, from_above}
use Rattle.descent.proofs.Counting.{counting_start, completes_leaf, counting_none, counting_full, counting_next}
use Rattle.descent.proofs.+descend.Goals as goal
use Rattle.descent.proofs.+descend.Goals.{After-open-first, Joined-last, then-last, else-last}

-- a variable is left
deep : {pool : List ℕ} {plan : Plan} {ends : List ℕ} {n d : ℕ} {above owned : List ℕ} → Standing pool plan ends n d above owned → (d ≡ n → ⊥) → d < n
deep st h = omega (arith, deep_enough st, h)

-- what holds of either way holds where they meet
came : (p : Window → ℕ → Type 0) {w w' : Window} {s s' : ℕ} → w ≡ w' → s ≡ s' → p w' s' → p w s
came p {w} {s' = s'} e h x = subst (p w) (sym h) (subst (λ (y : Window). p y s') (sym e) x)

-- ---- no variable is left

pub emit-requires : goal.emit-requires
emit-requires t c = open_own c.requires.ready

pub returns-then-depth-join : goal.returns-then-depth-join
returns-then-depth-join t c = record { kept = c.emit.ensures.kept; completes = completes_leaf c.if-depth-join.true (emitted_on c.requires.ready c.args.found c.emit.ensures.stands) }

-- ---- the depth is opened

pub offset_bounds-join-depth : goal.offset_bounds-join-depth
offset_bounds-join-depth t c = omega (arith, few_variables c.requires.standing, deep c.requires.standing c.if-depth-join.false)

pub bounds-join-depth : goal.bounds-join-depth
bounds-join-depth t c = omega (arith, few_variables c.requires.standing, deep c.requires.standing c.if-depth-join.false)

pub offset_bounds-join-depth-2 : goal.offset_bounds-join-depth-2
offset_bounds-join-depth-2 t c = omega (arith, few_variables c.requires.standing, deep c.requires.standing c.if-depth-join.false)

pub bounds-join-depth-2 : goal.bounds-join-depth-2
bounds-join-depth-2 t c = omega (arith, few_variables c.requires.standing, deep c.requires.standing c.if-depth-join.false)

pub open-first-requires-clause-standing : goal.open-first-requires-clause-standing
open-first-requires-clause-standing t c =
    let a = c.args in
    let e = c.begin-state.ensures in
    from_above (Standing a.join.now.leap.pool.now a.join.now.plan.now a.join.now.leap.ends.now a.join.now.n a.depth) (sym e.0) (sym e.1) c.requires.standing

opened : (t : ℕ) (s : After-open-first t) → let a = s.args in let o = s.open-first in Opening a.join.now.leap.pool.now a.join.now.plan.now a.join.now.leap.ends.now a.join.now.n a.depth a.above a.owned o.new.state o.new.ring o.new.by_atom a.before o.result
opened t s =
    let a = s.args in
    let o = s.open-first in
    let e = s.begin-state.ensures in
    from_above (λ (at own : List ℕ). Opening a.join.now.leap.pool.now a.join.now.plan.now a.join.now.leap.ends.now a.join.now.n a.depth at own o.new.state o.new.ring o.new.by_atom a.before o.result) e.0 e.1 o.ensures

-- ---- the loop

pub loop-landed-init : goal.loop-landed-init
loop-landed-init t c =
    let long : length c.args.found ≡ max_variables = search rules in
    (walk_start (opened t (goal.at.loop-landed-init t c).After-open-first).begun long, counting_start, kept_none, c.requires.ready)

-- no key is left
pub returns : goal.returns
returns t c =
    let st = c.requires.standing in
    let below = deep st c.if-depth-join.false in
    let o = opened t (goal.at.returns t c).After-open-first in
    let i = c.loop-landed.invariant in
    let going = i.3.going in
    record {
      kept = i.2;
      completes = record {
        descended = walk_none o.begun st below c.in_default.is i.0 going;
        counts = counting_none o below i.1 c.in_default.is going;
      };
    }

-- a key is found: its word, and the descent below it
pub offset_bounds-row-v : goal.offset_bounds-row-v
offset_bounds-row-v t c = let st = c.requires.standing in omega (arith, variable_small st (deep st c.if-depth-join.false))

pub bounds-row-v : goal.bounds-row-v
bounds-row-v t c = let st = c.requires.standing in variable_small st (deep st c.if-depth-join.false)

-- it was the last variable's
pub emit-requires-then-last : goal.emit-requires-then-last
emit-requires-then-last t c = open_own c.loop-landed.invariant.3

-- or there are more
pub descend-below-requires : goal.descend-below-requires
descend-below-requires t c =
    let st = c.requires.standing in
    let below = deep st c.if-depth-join.false in
    let i = c.loop-landed.invariant in
    (omega (arith, c.decreases, below), (walk_below (opened t (goal.at.descend-below-requires t c).After-open-first).begun st below c.in-Key.is i.0, i.3))

-- either way the rows that complete it are written
under : (t : ℕ) (u : Joined-last t) → let l = u.loop-landed in let a = u.args in let w = u.if-last in Kept l.window w.window × Completes a.join.now.leap.pool.now a.join.now.plan.now a.join.now.leap.ends.now a.join.now.n (a.depth + 1) l.state.at l.state.own (set l.row (variable_at a.join.now.plan.now a.depth) u.in-Key.key) l.window.words.now l.window.rows l.seeks w.window.words.now w.window.rows w.window.full w.below
under t u =
    let l = u.loop-landed in
    let a = u.args in
    let left = λ (w : Window) (seeks : ℕ). Kept l.window w × Completes a.join.now.leap.pool.now a.join.now.plan.now a.join.now.leap.ends.now a.join.now.n (a.depth + 1) l.state.at l.state.own (set l.row (variable_at a.join.now.plan.now a.depth) u.in-Key.key) l.window.words.now l.window.rows l.seeks w.words.now w.rows w.full seeks in
    elim u.if-last.branch [
      | then-last w ↦ came left w.window-is w.below-is (w.emit-then-last.ensures.kept, completes_leaf w.if-last.true (emitted_on l.invariant.3 _ w.emit-then-last.ensures.stands))
      | else-last w ↦ came left w.window-is w.below-is (w.descend-below.ensures.kept, w.descend-below.ensures.completes)
    ]

-- the window is full
pub returns-then-window : goal.returns-then-window
returns-then-window t c =
    let st = c.requires.standing in
    let below = deep st c.if-depth-join.false in
    let o = opened t (goal.at.returns-then-window t c).After-open-first in
    let i = c.loop-landed.invariant in
    let u = under t (goal.at.returns-then-window t c).Joined-last in
    record {
      kept = kept_on i.2 u.0;
      completes = record {
        descended = walk_full o.begun st below c.in-Key.is i.0 u.1.descended c.if-window.true;
        counts = counting_full o below i.1 c.in-Key.is i.0 u.1 c.if-window.true;
      };
    }

-- or the loop goes on
pub onward-next-requires-clause-whole_agreed : goal.onward-next-requires-clause-whole_agreed
onward-next-requires-clause-whole_agreed t c =
    let st = c.requires.standing in
    walk_agreed (opened t (goal.at.onward-next-requires-clause-whole_agreed t c).After-open-first).begun st (deep st c.if-depth-join.false) c.in-Key.is c.loop-landed.invariant.0

pub onward-next-requires-clause-same_atoms : goal.onward-next-requires-clause-same_atoms
onward-next-requires-clause-same_atoms t c =
    let st = c.requires.standing in
    walk_same (opened t (goal.at.onward-next-requires-clause-same_atoms t c).After-open-first).begun st (deep st c.if-depth-join.false) c.in-Key.is c.loop-landed.invariant.0

pub loop-landed-smaller : goal.loop-landed-smaller
loop-landed-smaller t c = steps_less c.in-Key.is c.onward-next.ensures.steps

pub loop-landed-preserved : goal.loop-landed-preserved
loop-landed-preserved t c =
    let st = c.requires.standing in
    let below = deep st c.if-depth-join.false in
    let o = opened t (goal.at.loop-landed-preserved t c).After-open-first in
    let i = c.loop-landed.invariant in
    let u = under t (goal.at.loop-landed-preserved t c).Joined-last in
    let going = c.if-window.false in (
      walk_next o.begun st below c.in-Key.is i.0 u.1.descended going c.onward-next.ensures.steps,
      counting_next o below i.1 c.in-Key.is i.0 u.1 going c.onward-next.ensures,
      kept_on i.2 u.0,
      still_open i.3 u.0 (omega (arith, below)) going,
    )
