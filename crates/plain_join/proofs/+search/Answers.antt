-- The goals of `search` that the check leaves: with no variable left it writes one row; else the keys left lead to its end (Trying.antt), and the call for each key has one variable
-- fewer left.
use Prim.Native.Nat.{ℕ, suc, ◌-◌, ◌≤◌, ◌<◌}
use native.Mathlib.Omega.{arith}
use mathlib.Core.Path.{◌≡◌, sym, ap, ◌∙◌}
use mathlib.Core.Bool.{true, false}
use mathlib.Core.List.{List, []}
use lib.ListN.{length, get_or, set, drop, length-set}
use lib.Seq.{set-set}
use borrow.Author.Rules.{rules}
use Rattle.relation.specs.Runs.{from}
use Rattle.query.specs.Window.{emits}
use Rattle.join_query.specs.Query.{max_variables, order_of, atoms_of, Accepted}
use Rattle.join_query.specs.declared.Query.{Query}
use Rattle.join_query.specs.declared.Tables.{Tables}
use Rattle.join_query.proofs.Accepted.{sized, names}
use Rattle.join_window.specs.Window.{progress, Wrote}
use Rattle.join_window.specs.declared.Window.{Window}
use Rattle.join_window.proofs.Windows.{open_own, emitted_as, kept_none}
use Rattle.plain.specs.Plain.{tried, all_hold, plainly}
use Rattle.plain_keys.specs.Keys.{head_of}
use Rattle.plain_atoms.proofs.First.{first_reads, next_tried, rest_holds}
use Rattle.plain_join.proofs.Trying.{leaf, none_left, variable_below, given_before, trying_start, trying_done, trying_full, under_key, under_none, trying_next, trying_less, trying_same}
use Rattle.plain_join.proofs.+search.Goals as goal
use Rattle.plain_join.proofs.+search.Goals.{then-all_hold+else-window, else-all_hold}

-- the variable whose turn it is
module _ {pool : List ℕ} {ts : Tables} {q : Query} {len : ℕ} (z : Accepted pool ts q len) {left : ℕ} (s : 0 < left) (h : left ≤ q.n) where
  below : get_or q.order (q.n - left) 0 < q.n
  below = variable_below z left s h []

  inside : get_or q.order (q.n - left) 0 < max_variables
  inside = omega (arith, below, (sized z).few)

  -- the word that the row began with for it has no part in the answer
  found_before : (found : List ℕ) {w w' : Window} → let g = set found (get_or q.order (q.n - left) 0) 0 in let rows = λ (row : List ℕ). plainly q.n (drop (q.n - left) (order_of q)) (atoms_of pool ts q) row in Wrote w w' (emits q.n (progress w) (rows g)) → Wrote w w' (emits q.n (progress w) (rows found))
  found_before found {w} e = record { kept = e.kept; stands = e.stands ∙ ap (emits q.n (progress w)) (given_before z left s h found 0) }

-- ---- no variable is left

pub emit-requires : goal.emit-requires
emit-requires t c = open_own c.requires.ready

pub returns-then-left-eq0 : goal.returns-then-left-eq0
returns-then-left-eq0 t c =
    let a = c.args in
    let q = a.asked.query.now in
    let e = c.emit.ensures in
    record { kept = e.kept; stands = emitted_as c.requires.ready a.found e.stands ∙ leaf q.n (atoms_of a.asked.pool.now a.asked.tables.now q) a.found (progress a.window.now) (none_left c.args.asked.passed.accepted a.left c.if-left-eq0.true) }

-- ---- the next variable, and the first key

pub offset_bounds-asked-asked : goal.offset_bounds-asked-asked
offset_bounds-asked-asked t c = omega (arith, (sized c.args.asked.passed.accepted).few, c.if-left-eq0.false)

pub bounds-asked-asked : goal.bounds-asked-asked
bounds-asked-asked t c = omega (arith, (sized c.args.asked.passed.accepted).few, c.if-left-eq0.false, c.requires.left)

pub holder-first-requires : goal.holder-first-requires
holder-first-requires t c = record { pool = c.args.asked.pool.now; tables = c.args.asked.tables.now; passed = c.args.asked.passed; below = omega (arith, below c.args.asked.passed.accepted (omega (arith, c.if-left-eq0.false)) c.requires.left) }

pub offset_bounds-asked-first : goal.offset_bounds-asked-first
offset_bounds-asked-first t c = omega (arith, c.holder-first.ensures.0.inside, (names c.args.asked.passed.accepted).few)

pub bounds-asked-first : goal.bounds-asked-first
bounds-asked-first t c = omega (arith, c.holder-first.ensures.0.inside, (names c.args.asked.passed.accepted).few)

pub offset_bounds-found-v : goal.offset_bounds-found-v
offset_bounds-found-v t c = omega (arith, inside c.args.asked.passed.accepted (let s : 0 < c.args.left = omega (arith, c.if-left-eq0.false) in s) c.requires.left, (sized c.args.asked.passed.accepted).few, c.if-left-eq0.false)

pub bounds-found-v : goal.bounds-found-v
bounds-found-v t c = omega (arith, inside c.args.asked.passed.accepted (let s : 0 < c.args.left = omega (arith, c.if-left-eq0.false) in s) c.requires.left, (sized c.args.asked.passed.accepted).few, c.if-left-eq0.false)

pub next_key-next-requires : goal.next_key-next-requires
next_key-next-requires t c =
    let a = c.args in
    first_reads c.args.asked.passed.accepted _ (omega (arith, below c.args.asked.passed.accepted (let s : 0 < a.left = omega (arith, c.if-left-eq0.false) in s) c.requires.left)) c.holder-first.ensures.0 c.holder-first.ensures.1

pub loop-next-init : goal.loop-next-init
loop-next-init t c =
    let a = c.args in
    let s : 0 < a.left = omega (arith, c.if-left-eq0.false) in
    let h = c.requires.left in
    let z = c.args.asked.passed.accepted in
    let v = get_or a.asked.query.now.order (a.asked.query.now.n - a.left) 0 in
    let long : length a.found ≡ max_variables = search rules in (
      s,
      h,
      trying_start z a.left s h (set a.found v 0) a.window.now
          (next_tried z v (below z s h) c.holder-first.ensures.0 (set a.found v 0) a.found (λ x. sym (set-set a.found v 0 x)) long 0 false c.holder-first.ensures.1 c.next_key-next.ensures)
          (length-set a.found v 0 ∙ long)
          c.requires.ready,
    )

-- ---- a key is tried

pub offset_bounds-found-v-in-Some : goal.offset_bounds-found-v-in-Some
offset_bounds-found-v-in-Some t c = let i = c.loop-next.invariant in omega (arith, inside c.args.asked.passed.accepted i.0 i.1)

pub bounds-found-v-in-Some : goal.bounds-found-v-in-Some
bounds-found-v-in-Some t c = let i = c.loop-next.invariant in inside c.args.asked.passed.accepted i.0 i.1

pub overflow_add-first : goal.overflow_add-first
overflow_add-first t c = omega (arith, c.holder-first.ensures.0.inside, (names c.args.asked.passed.accepted).few)

pub all_hold-requires : goal.all_hold-requires
all_hold-requires t c = let i = c.loop-next.invariant in inside c.args.asked.passed.accepted i.0 i.1

pub search-requires : goal.search-requires
search-requires t c = let i = c.loop-next.invariant in (omega (arith, c.decreases, i.0), (omega (arith, i.1), i.2.ready))

pub next_key-next-requires-in-Some : goal.next_key-next-requires-in-Some
next_key-next-requires-in-Some t c =
    let a = c.args in
    let i = c.loop-next.invariant in
    first_reads c.args.asked.passed.accepted (get_or a.asked.query.now.order (a.asked.query.now.n - a.left) 0) (below c.args.asked.passed.accepted i.0 i.1) c.holder-first.ensures.0 c.holder-first.ensures.1

pub loop-next-smaller : goal.loop-next-smaller
loop-next-smaller t c =
    let a = c.args in
    let i = c.loop-next.invariant in
    let z = c.args.asked.passed.accepted in
    let v = get_or a.asked.query.now.order (a.asked.query.now.n - a.left) 0 in
    let g = set a.found v 0 in
    trying_less z a.left i.0 i.1 g a.window.now i.2 c.in-Some.is
    (next_tried z v (below c.args.asked.passed.accepted i.0 i.1) c.holder-first.ensures.0 g c.loop-next.found i.2.same i.2.row_long c.in-Some.key true c.holder-first.ensures.1 c.next_key-next-in-Some.ensures)

pub returns-then-window : goal.returns-then-window
returns-then-window t c =
    let a = c.args in
    let i = c.loop-next.invariant in
    let z = c.args.asked.passed.accepted in
    let v = get_or a.asked.query.now.order (a.asked.query.now.n - a.left) 0 in
    let g = set a.found v 0 in
    let k = c.in-Some.key in
    let e = c.search.ensures in
    let tested : c.all_hold.result ≡ all_hold v (set c.loop-next.found v k) (atoms_of a.asked.pool.now a.asked.tables.now a.asked.query.now) =
    rest_holds z v (below c.args.asked.passed.accepted i.0 i.1) c.holder-first.ensures.0 g c.loop-next.found i.2.same i.2.row_long k (i.2.among k c.in-Some.is) c.all_hold.ensures in
    found_before z i.0 i.1 a.found (trying_full z a.left i.0 i.1 g a.window.now i.2 c.in-Some.is e.kept (under_key z a.left i.0 i.1 g a.window.now i.2 c.in-Some.is (sym tested ∙ c.if-all_hold.true) e.stands) c.if-window.true)

pub loop-next-preserved : goal.loop-next-preserved
loop-next-preserved t c =
    let a = c.args in
    let i = c.loop-next.invariant in
    let z = c.args.asked.passed.accepted in
    let v = get_or a.asked.query.now.order (a.asked.query.now.n - a.left) 0 in
    let g = set a.found v 0 in
    let k = c.in-Some.key in
    let found = c.in-Some.is in
    -- the tests made decide those of all atoms
    let tested : c.all_hold.result ≡ all_hold v (set c.loop-next.found v k) (atoms_of a.asked.pool.now a.asked.tables.now a.asked.query.now) =
    rest_holds z v (below c.args.asked.passed.accepted i.0 i.1) c.holder-first.ensures.0 g c.loop-next.found i.2.same i.2.row_long k (i.2.among k found) c.all_hold.ensures in
    -- the key behind the next
    let then : c.next_key-next-in-Some.result ≡ head_of (from (suc k) (tried v g (atoms_of a.asked.pool.now a.asked.tables.now a.asked.query.now))) =
    next_tried z v (below c.args.asked.passed.accepted i.0 i.1) c.holder-first.ensures.0 g c.loop-next.found i.2.same i.2.row_long k true c.holder-first.ensures.1 c.next_key-next-in-Some.ensures in (
      i.0,
      i.1,
      elim c.if-all_hold.branch [
        | then-all_hold+else-window w ↦
            trying_same z a.left i.0 i.1 g a.window.now (sym w.window-is)
            (trying_next z a.left i.0 i.1 g a.window.now i.2 found w.search.ensures.kept
            (under_key z a.left i.0 i.1 g a.window.now i.2 found (sym tested ∙ w.if-all_hold.true) w.search.ensures.stands)
            w.if-window.false then)
        | else-all_hold w ↦
            trying_same z a.left i.0 i.1 g a.window.now (sym w.window-is)
            (trying_next z a.left i.0 i.1 g a.window.now i.2 found kept_none
            (under_none z a.left i.0 i.1 g a.window.now i.2 found (sym tested ∙ w.if-all_hold.false))
            i.2.ready.going then)
      ],
    )

-- ---- no key is left

pub returns : goal.returns
returns t c =
    let a = c.args in
    let i = c.loop-next.invariant in
    let z = c.args.asked.passed.accepted in
    found_before z i.0 i.1 a.found (trying_done z a.left i.0 i.1 (set a.found (get_or a.asked.query.now.order (a.asked.query.now.n - a.left) 0) 0) a.window.now i.2 c.in_default.is)
