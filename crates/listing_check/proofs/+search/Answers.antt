-- The goals of `search` that the check leaves: with no variable left it compares one row; else the keys left lead to its end (Walking.antt), and the call for each key has one
-- variable fewer left.
use Prim.Native.Nat.{ℕ, suc, ◌-◌, ◌≤◌, ◌<◌}
use native.Mathlib.Omega.{arith}
use mathlib.Core.Path.{◌≡◌, sym, ap, ◌∙◌}
use mathlib.Core.Bool.{true, false}
use mathlib.Core.List.{List, []}
use Rattle.std.specs.Prelude.{is_some}
use lib.ListN.{length, get_or, set, length-set}
use lib.Seq.{set-set}
use borrow.Author.Rules.{rules}
use Rattle.relation.specs.Rows.{cut}
use Rattle.relation.specs.Runs.{from}
use Rattle.join_query.specs.Query.{max_variables, atoms_of, Accepted}
use Rattle.join_query.specs.declared.Query.{Query}
use Rattle.join_query.specs.declared.Tables.{Tables}
use Rattle.join_query.proofs.Accepted.{sized, names}
use Rattle.plain.specs.Plain.{tried, all_hold}
use Rattle.plain_keys.specs.Keys.{head_of}
use Rattle.plain_atoms.proofs.First.{first_reads, next_tried, rest_holds}
use Rattle.plain_join.proofs.Trying.{none_left, variable_below, given_before}
use Rattle.listing_check.specs.Walk.{meets}
use Rattle.listing_check.specs.declared.Reached.{Reached}
use Rattle.listing_check.proofs.Meeting.{padded_set}
use Rattle.listing_check.proofs.Walking.{leaf, walking_start, walking_done, walking_padded, under_key, under_none, walking_lacks, walking_next, walking_less}
use Rattle.listing_check.proofs.+search.Goals as goal
use Rattle.listing_check.proofs.+search.Goals.{then-all_hold+else-is_some, else-all_hold}

-- the variable whose turn it is
module _ {pool : List ℕ} {ts : Tables} {q : Query} {len : ℕ} (z : Accepted pool ts q len) {left : ℕ} (s : 0 < left) (h : left ≤ q.n) where
  below : get_or q.order (q.n - left) 0 < q.n
  below = variable_below z left s h []

  inside : get_or q.order (q.n - left) 0 < max_variables
  inside = omega (arith, below, (sized z).few)

-- ---- no variable is left

pub meet-requires : goal.meet-requires
meet-requires t c = let r = c.requires in ((sized c.args.asked.passed.accepted).few, r.1, r.2, r.3)

pub returns-then-left-eq0 : goal.returns-then-left-eq0
returns-then-left-eq0 t c =
    let a = c.args in
    c.meet.ensures ∙ leaf a.asked.query.now.n (atoms_of a.asked.pool.now a.asked.tables.now a.asked.query.now) a.found (cut a.rows a.asked.query.now.n a.listing.now) a.from (none_left c.args.asked.passed.accepted a.left c.if-left-eq0.true)

-- ---- the next variable, and the first key

pub offset_bounds-asked-asked : goal.offset_bounds-asked-asked
offset_bounds-asked-asked t c = omega (arith, (sized c.args.asked.passed.accepted).few, c.if-left-eq0.false)

pub bounds-asked-asked : goal.bounds-asked-asked
bounds-asked-asked t c = omega (arith, (sized c.args.asked.passed.accepted).few, c.if-left-eq0.false, c.requires.0)

pub holder-first-requires : goal.holder-first-requires
holder-first-requires t c = record { pool = c.args.asked.pool.now; tables = c.args.asked.tables.now; passed = c.args.asked.passed; below = below c.args.asked.passed.accepted (omega (arith, c.if-left-eq0.false)) c.requires.0 }

pub offset_bounds-asked-first : goal.offset_bounds-asked-first
offset_bounds-asked-first t c = omega (arith, c.holder-first.ensures.0.inside, (names c.args.asked.passed.accepted).few)

pub bounds-asked-first : goal.bounds-asked-first
bounds-asked-first t c = omega (arith, c.holder-first.ensures.0.inside, (names c.args.asked.passed.accepted).few)

pub offset_bounds-row-v : goal.offset_bounds-row-v
offset_bounds-row-v t c = omega (arith, inside c.args.asked.passed.accepted (let s : 0 < c.args.left = omega (arith, c.if-left-eq0.false) in s) c.requires.0)

pub bounds-row-v : goal.bounds-row-v
bounds-row-v t c = inside c.args.asked.passed.accepted (omega (arith, c.if-left-eq0.false)) c.requires.0

pub next_key-next-requires : goal.next_key-next-requires
next_key-next-requires t c =
    let a = c.args in
    first_reads c.args.asked.passed.accepted (get_or a.asked.query.now.order (a.asked.query.now.n - a.left) 0) (below c.args.asked.passed.accepted (omega (arith, c.if-left-eq0.false)) c.requires.0) c.holder-first.ensures.0 c.holder-first.ensures.1

pub loop-next-init : goal.loop-next-init
loop-next-init t c =
    let a = c.args in
    let s : 0 < a.left = omega (arith, c.if-left-eq0.false) in
    let h = c.requires.0 in
    let z = c.args.asked.passed.accepted in
    let v = get_or a.asked.query.now.order (a.asked.query.now.n - a.left) 0 in
    let l : length a.found ≡ max_variables = search rules in (
      s,
      h,
      walking_start z a.left s h (set a.found v 0) (cut a.rows a.asked.query.now.n a.listing.now) a.from
          (next_tried z v (below z s h) c.holder-first.ensures.0 (set a.found v 0) a.found (λ x. sym (set-set a.found v 0 x)) l 0 false c.holder-first.ensures.1 c.next_key-next.ensures)
          (length-set a.found v 0 ∙ l) c.requires.3,
    )

-- ---- a key is tried

pub offset_bounds-row-v-in-Some : goal.offset_bounds-row-v-in-Some
offset_bounds-row-v-in-Some t c = let i = c.loop-next.invariant in omega (arith, inside c.args.asked.passed.accepted i.0 i.1)

pub bounds-row-v-in-Some : goal.bounds-row-v-in-Some
bounds-row-v-in-Some t c = let i = c.loop-next.invariant in inside c.args.asked.passed.accepted i.0 i.1

pub overflow_add-first : goal.overflow_add-first
overflow_add-first t c = omega (arith, c.holder-first.ensures.0.inside, (names c.args.asked.passed.accepted).few)

pub all_hold-requires : goal.all_hold-requires
all_hold-requires t c = let i = c.loop-next.invariant in inside c.args.asked.passed.accepted i.0 i.1

pub search-met-requires : goal.search-met-requires
search-met-requires t c =
    let a = c.args in
    let i = c.loop-next.invariant in
    let z = c.args.asked.passed.accepted in
    let v = get_or a.asked.query.now.order (a.asked.query.now.n - a.left) 0 in
    let l : length a.found ≡ max_variables = search rules in
    let p = padded_set a.asked.query.now.n a.found v 0 (below c.args.asked.passed.accepted i.0 i.1) (omega (arith, (sized z).few, l)) c.requires.2 in
    (omega (arith, c.decreases, i.0), (omega (arith, i.1), c.requires.1, walking_padded z a.left i.0 i.1 (set a.found v 0) (cut a.rows a.asked.query.now.n a.listing.now) a.from i.2 c.in-Some.key p (length-set a.found v 0 ∙ l), i.2.agrees))

pub returns-then-is_some : goal.returns-then-is_some
returns-then-is_some t c =
    let a = c.args in
    let i = c.loop-next.invariant in
    let z = c.args.asked.passed.accepted in
    let v = get_or a.asked.query.now.order (a.asked.query.now.n - a.left) 0 in
    let g = set a.found v 0 in
    let k = c.in-Some.key in
    let found = c.in-Some.is in
    let lines = cut a.rows a.asked.query.now.n a.listing.now in
    -- the tests made are those of all atoms
    let tested : c.all_hold.result ≡ all_hold v (set c.loop-next.row v k) (atoms_of a.asked.pool.now a.asked.tables.now a.asked.query.now) =
    rest_holds z v (below c.args.asked.passed.accepted i.0 i.1) c.holder-first.ensures.0 g c.loop-next.row i.2.same i.2.row_long k (i.2.among k found) c.all_hold.ensures in
    walking_lacks z a.left i.0 i.1 g lines a.from i.2 found
    (under_key z a.left i.0 i.1 g lines a.from i.2 found (sym tested ∙ c.if-all_hold.true) c.search-met.ensures)
    (sym c.is_some.ensures ∙ c.if-is_some.true)
    ∙ ap (meets lines a.from) (given_before z a.left i.0 i.1 a.found 0)

pub next_key-next-requires-in-Some : goal.next_key-next-requires-in-Some
next_key-next-requires-in-Some t c =
    let a = c.args in
    let i = c.loop-next.invariant in
    first_reads c.args.asked.passed.accepted (get_or a.asked.query.now.order (a.asked.query.now.n - a.left) 0) (below c.args.asked.passed.accepted i.0 i.1) c.holder-first.ensures.0 c.holder-first.ensures.1

pub loop-next-smaller : goal.loop-next-smaller
loop-next-smaller t c =
    let a = c.args in
    let i = c.loop-next.invariant in
    let z = c.args.asked.passed.accepted in
    let v = get_or a.asked.query.now.order (a.asked.query.now.n - a.left) 0 in
    let g = set a.found v 0 in
    walking_less z a.left i.0 i.1 g (cut a.rows a.asked.query.now.n a.listing.now) a.from i.2 c.in-Some.is
    (next_tried z v (below c.args.asked.passed.accepted i.0 i.1) c.holder-first.ensures.0 g c.loop-next.row i.2.same i.2.row_long c.in-Some.key true c.holder-first.ensures.1 c.next_key-next-in-Some.ensures)

pub loop-next-preserved : goal.loop-next-preserved
loop-next-preserved t c =
    let a = c.args in
    let i = c.loop-next.invariant in
    let z = c.args.asked.passed.accepted in
    let v = get_or a.asked.query.now.order (a.asked.query.now.n - a.left) 0 in
    let g = set a.found v 0 in
    let k = c.in-Some.key in
    let found = c.in-Some.is in
    let lines = cut a.rows a.asked.query.now.n a.listing.now in
    -- the tests made are those of all atoms
    let tested : c.all_hold.result ≡ all_hold v (set c.loop-next.row v k) (atoms_of a.asked.pool.now a.asked.tables.now a.asked.query.now) =
    rest_holds z v (below c.args.asked.passed.accepted i.0 i.1) c.holder-first.ensures.0 g c.loop-next.row i.2.same i.2.row_long k (i.2.among k found) c.all_hold.ensures in
    -- the next key of those left
    let then : c.next_key-next-in-Some.result ≡ head_of (from (suc k) (tried v g (atoms_of a.asked.pool.now a.asked.tables.now a.asked.query.now))) =
    next_tried z v (below c.args.asked.passed.accepted i.0 i.1) c.holder-first.ensures.0 g c.loop-next.row i.2.same i.2.row_long k true c.holder-first.ensures.1 c.next_key-next-in-Some.ensures in (
      i.0,
      i.1,
      elim c.if-all_hold.branch [
        | then-all_hold+else-is_some w ↦
            walking_next z a.left i.0 i.1 g lines a.from i.2 found
            (w.met-is ∙ under_key z a.left i.0 i.1 g lines a.from i.2 found (sym tested ∙ w.if-all_hold.true) w.search-met.ensures)
            (ap (λ (r : Reached). is_some r.missing) w.met-is ∙ sym w.is_some.ensures ∙ w.if-is_some.false) then
        | else-all_hold w ↦
            walking_next z a.left i.0 i.1 g lines a.from i.2 found
            (w.met-is ∙ under_none z a.left i.0 i.1 g lines a.from i.2 found (sym tested ∙ w.if-all_hold.false))
            (ap (λ (r : Reached). is_some r.missing) (w.met-is ∙ i.2.agrees)) then
      ],
    )

-- ---- no key is left

pub returns : goal.returns
returns t c =
    let a = c.args in
    let i = c.loop-next.invariant in
    let lines = cut a.rows a.asked.query.now.n a.listing.now in
    walking_done c.args.asked.passed.accepted a.left i.0 i.1 (set a.found (get_or a.asked.query.now.order (a.asked.query.now.n - a.left) 0) 0) lines a.from i.2 c.in_default.is
    ∙ ap (meets lines a.from) (given_before c.args.asked.passed.accepted a.left i.0 i.1 a.found 0)
