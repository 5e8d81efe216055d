-- `descend_after` meets its contract: with no variable left nothing is written; else the depth is opened from the given row's word on, the call below that word is one depth
-- further down, and the rest of the depth is walked without the bound.
use Prim.Native.Nat.{ℕ, ◌<◌}
use native.Mathlib.Omega.{arith}
use mathlib.Core.Path.{◌≡◌, sym}
use mathlib.Core.List.{List}
use lib.ListN.{get_or}
use Rattle.join_query.specs.Query.{max_variables}
use Rattle.join_plan.specs.Plan.{Plan}
use Rattle.join_window.proofs.Windows.{still_open, kept_none, kept_on}
use Rattle.join_openings.specs.Openings.{variable_at}
use Rattle.join_depths.specs.Depth.{Standing}
use Rattle.bounded_depth.specs.From.{DepthFrom}
use Rattle.descent.proofs.Walking.{few_variables, deep_enough, variable_small, from_above}
use Rattle.descent_after.proofs.Bounding.{after_leaf, after_underway, after_none, after_past, after_below, after_agreed, after_same, after_next, after_filled, after_rest}
use Rattle.descent_after.proofs.+descend_after.Goals as goal
use Rattle.descent_after.proofs.+descend_after.Goals.{After-open_from-landed}

-- a variable is left
deep : {pool : List ℕ} {plan : Plan} {ends : List ℕ} {n d : ℕ} {above owned : List ℕ} → Standing pool plan ends n d above owned → (d ≡ n → ⊥) → d < n
deep st h = omega (arith, deep_enough st, h)

small : {pool : List ℕ} {plan : Plan} {ends : List ℕ} {n d : ℕ} {above owned : List ℕ} → Standing pool plan ends n d above owned → (d ≡ n → ⊥) → variable_at plan d < max_variables
small st h = variable_small st (deep st h)

-- ---- no variable is left

pub returns-then-depth-join : goal.returns-then-depth-join
returns-then-depth-join t c = record { kept = kept_none; descended = after_leaf c.if-depth-join.true c.requires.ready.going }

-- ---- the depth is opened

pub offset_bounds-join-depth : goal.offset_bounds-join-depth
offset_bounds-join-depth t c = omega (arith, few_variables c.requires.standing, deep c.requires.standing c.if-depth-join.false)

pub bounds-join-depth : goal.bounds-join-depth
bounds-join-depth t c = omega (arith, few_variables c.requires.standing, deep c.requires.standing c.if-depth-join.false)

pub offset_bounds-join-depth-2 : goal.offset_bounds-join-depth-2
offset_bounds-join-depth-2 t c = omega (arith, few_variables c.requires.standing, deep c.requires.standing c.if-depth-join.false)

pub bounds-join-depth-2 : goal.bounds-join-depth-2
bounds-join-depth-2 t c = omega (arith, few_variables c.requires.standing, deep c.requires.standing c.if-depth-join.false)

pub offset_bounds-bounds-v : goal.offset_bounds-bounds-v
offset_bounds-bounds-v t c = omega (arith, small c.requires.standing c.if-depth-join.false)

pub bounds-bounds-v : goal.bounds-bounds-v
bounds-bounds-v t c = small c.requires.standing c.if-depth-join.false

pub open_from-landed-requires-clause-standing : goal.open_from-landed-requires-clause-standing
open_from-landed-requires-clause-standing t c =
    let a = c.args in
    let e = c.begin-state.ensures in
    from_above (Standing a.join.now.leap.pool.now a.join.now.plan.now a.join.now.leap.ends.now a.join.now.n a.depth) (sym e.0) (sym e.1) c.requires.standing

opened : (t : ℕ) (s : After-open_from-landed t) → let a = s.args in let o = s.open_from-landed in DepthFrom a.join.now.leap.pool.now a.join.now.plan.now a.join.now.leap.ends.now a.join.now.n a.depth a.above a.owned o.new.state o.new.ring o.new.by_atom (get_or a.bounds (variable_at a.join.now.plan.now a.depth) 0) o.result
opened t s =
    let a = s.args in
    let o = s.open_from-landed in
    let e = s.begin-state.ensures in
    from_above (λ (at own : List ℕ). DepthFrom a.join.now.leap.pool.now a.join.now.plan.now a.join.now.leap.ends.now a.join.now.n a.depth at own o.new.state o.new.ring o.new.by_atom (get_or a.bounds (variable_at a.join.now.plan.now a.depth) 0) o.result) e.0 e.1 o.ensures

-- no key is left
pub returns-in_default : goal.returns-in_default
returns-in_default t c =
    let st = c.requires.standing in
    record { kept = kept_none; descended = after_none c.args.bounds (opened t (goal.at.returns-in_default t c).After-open_from-landed) st (deep st c.if-depth-join.false) c.in_default.is c.requires.ready.going }

-- ---- a key is found, and is not the given row's word

pub walk_rest-requires-clause-underway : goal.walk_rest-requires-clause-underway
walk_rest-requires-clause-underway t c =
    let st = c.requires.standing in
    after_underway c.args.bounds (opened t (goal.at.walk_rest-requires-clause-underway t c).After-open_from-landed) st (deep st c.if-depth-join.false) c.in-Key.is

pub returns-then-key-bound : goal.returns-then-key-bound
returns-then-key-bound t c =
    let st = c.requires.standing in
    let w = c.walk_rest.ensures in
    record { kept = w.kept; descended = after_past c.args.bounds (opened t (goal.at.returns-then-key-bound t c).After-open_from-landed) st (deep st c.if-depth-join.false) c.in-Key.is c.if-key-bound.true w.walks }

-- ---- it is: the descent below it

pub offset_bounds-row-v : goal.offset_bounds-row-v
offset_bounds-row-v t c = omega (arith, small c.requires.standing c.if-depth-join.false)

pub bounds-row-v : goal.bounds-row-v
bounds-row-v t c = small c.requires.standing c.if-depth-join.false

pub descend_after-requires : goal.descend_after-requires
descend_after-requires t c =
    let st = c.requires.standing in
    let below = deep st c.if-depth-join.false in
    (omega (arith, c.decreases, below), (after_below c.args.bounds (opened t (goal.at.descend_after-requires t c).After-open_from-landed) st below c.in-Key.is, c.requires.ready))

-- the window is full
pub returns-then-window : goal.returns-then-window
returns-then-window t c =
    let st = c.requires.standing in
    let r = c.descend_after.ensures in
    record { kept = r.kept; descended = after_filled c.args.bounds (opened t (goal.at.returns-then-window t c).After-open_from-landed) st (deep st c.if-depth-join.false) c.in-Key.is c.if-key-bound.false c.args.found r.descended c.if-window.true }

-- ---- or the rest is walked

pub onward-next-requires-clause-whole_agreed : goal.onward-next-requires-clause-whole_agreed
onward-next-requires-clause-whole_agreed t c =
    let st = c.requires.standing in
    after_agreed c.args.bounds (opened t (goal.at.onward-next-requires-clause-whole_agreed t c).After-open_from-landed) st (deep st c.if-depth-join.false) c.in-Key.is

pub onward-next-requires-clause-same_atoms : goal.onward-next-requires-clause-same_atoms
onward-next-requires-clause-same_atoms t c =
    let st = c.requires.standing in
    after_same c.args.bounds (opened t (goal.at.onward-next-requires-clause-same_atoms t c).After-open_from-landed) st (deep st c.if-depth-join.false) c.in-Key.is

pub walk_rest-requires-2-clause-underway : goal.walk_rest-requires-2-clause-underway
walk_rest-requires-2-clause-underway t c =
    let st = c.requires.standing in
    after_next c.args.bounds (opened t (goal.at.walk_rest-requires-2-clause-underway t c).After-open_from-landed) st (deep st c.if-depth-join.false) c.in-Key.is c.onward-next.ensures.steps

pub walk_rest-requires-2-clause-ready : goal.walk_rest-requires-2-clause-ready
walk_rest-requires-2-clause-ready t c =
    let below = deep c.requires.standing c.if-depth-join.false in
    still_open c.requires.ready c.descend_after.ensures.kept (omega (arith, below)) c.if-window.false

pub returns : goal.returns
returns t c =
    let st = c.requires.standing in
    let r = c.descend_after.ensures in
    let w = c.walk_rest-2.ensures in
    record {
      kept = kept_on r.kept w.kept;
      descended = after_rest c.args.bounds (opened t (goal.at.returns t c).After-open_from-landed) st (deep st c.if-depth-join.false) c.in-Key.is c.if-key-bound.false c.args.found r.descended c.onward-next.ensures.steps c.if-window.false w.walks;
    }
