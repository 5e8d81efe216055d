-- The goals of `lay_rows` that the check leaves.
use Prim.Native.Nat.{ℕ, ◌+◌, ◌-◌, ◌<◌}
use mathlib.Core.Path.{◌≡◌, sym, ap, ◌∙◌, subst}
use mathlib.Core.List.{List, []}
use native.Mathlib.Omega.{arith}
use lib.ListN.{length, take, get_or}
use Rattle.relation.specs.Order.{Row}
use Rattle.relation.specs.Rows.{sort}
use Rattle.column_trie.specs.Limits.{max_arity}
use Rattle.column_trie.specs.Pool.{spot}
use Rattle.column_trie.proofs.Header.{layer_inside}
use Rattle.from_sorted.specs.Push.{Pushes, Following, Fills}
use Rattle.from_sorted.proofs.Fill.{pushing_first, filled_first, fills_none, fills_all, can_push, pushed}
use Rattle.permuted_rows.specs.Packed.{number_of}
use Rattle.permuted_rows.specs.Seen.{rows_seen}
use Rattle.permuted_rows.specs.declared.Permuted.{Permuted}
use Rattle.permuted_fill.specs.Ranks.{RankAt}
use Rattle.permuted_fill.proofs.Words.{laid, still}
use borrow.Author.Rules.{rules}
use Rattle.permuted_fill.proofs.lay_rows.Goals as goal
use Rattle.permuted_fill.proofs.lay_rows.Goals.{After-row-last, After-row-row, In-loop-j, Start}

-- a word's row, and the row that it stands for
moved : {rows : Permuted} {j : ℕ} (into : List ℕ) {at place : ℕ} → at ≡ place → RankAt rows j (get_or into place 0) → RankAt rows j (get_or into at 0)
moved {rows} {j} into e r = subst (λ (m : ℕ). RankAt rows j (get_or into m 0)) (sym e) r

row_is : {rows : Permuted} {j word : ℕ} {a : ℕ} (row : List ℕ) → a ≡ rows.table.arity → RankAt rows j word → take rows.table.arity row ≡ get_or (rows_seen rows) (number_of word) [] → take a row ≡ get_or (sort (rows_seen rows)) j []
row_is row q r e = ap (λ (m : ℕ). take m row) q ∙ e ∙ r.row

-- what the function is handed
module _ (s : Start) where
  abbrev base : ℕ
  base = spot s.args.empty.start s.args.empty.capacity (s.args.empty.arity - 1)

  -- the words of the last layer lie in the second pool
  inside : {j : ℕ} → j < s.args.rows.now.table.tuple_count → base + j < length s.args.into.now
  inside h = omega (arith, h, s.requires.many, s.requires.fill.room, s.requires.fill.fits, layer_inside s.args.empty.start s.args.empty.arity s.args.empty.capacity (s.args.empty.arity - 1) (omega (arith, s.requires.fill.positive)))

-- the first row, read
module _ (k : After-row-last) where
  some : 0 < k.args.rows.now.table.tuple_count
  some = omega (arith, k.if-n-eq0.false)

  first_row : take k.args.empty.arity k.row-last.result ≡ get_or (sort (rows_seen k.args.rows.now)) 0 []
  first_row = row_is k.row-last.result k.requires.arity (moved k.args.into.now (omega (arith, k.layer_at-at.ensures)) (k.requires.lies 0 some)) k.row-last.ensures

  first : 0 < length (sort (rows_seen k.args.rows.now))
  first = omega (arith, k.requires.many, some)

-- where the loop turns
module _ (c : In-loop-j) where
  abbrev rows : List Row
  rows = sort (rows_seen c.args.rows.now)

  abbrev j : ℕ
  j = c.loop-j.j

  long : length c.loop-j.into ≡ length c.args.into.now
  long = c.loop-j.invariant.0.long ∙ c.append_row.auto.pool

  ahead : j < length rows
  ahead = omega (arith, c.requires.many, c.loop-j-test.true)

  begun : 0 < length rows
  begun = omega (arith, ahead)

  first_pushed : Pushes c.args.into.now c.args.empty (take 0 rows) (get_or rows 0 []) c.append_row.new.pool c.append_row.new.self.data c.append_row.new.self.intervals
  first_pushed =
      let r = row_is c.row-last.result c.requires.arity (moved c.args.into.now (omega (arith, c.layer_at-at.ensures)) (c.requires.lies 0 (omega (arith, c.if-n-eq0.false)))) c.row-last.ensures in
      pushed r (pushing_first c.requires.fill c.requires.width c.of-lengths.ensures begun) c.append_row.ensures

  -- word j is still there
  rank_now : RankAt c.args.rows.now j (get_or c.loop-j.into (c.layer_at-at.result + j) 0)
  rank_now =
      let e = laid c.requires.fill c.requires.width c.requires.asc begun first_pushed c.loop-j.invariant.0 in
      let q = still c.requires.fill c.requires.width c.requires.asc c.args.into.now j e j (omega arith) ahead in
      subst (RankAt c.args.rows.now j) (sym (ap (λ (m : ℕ). get_or c.loop-j.into (m + j) 0) c.layer_at-at.ensures ∙ q)) (c.requires.lies j c.loop-j-test.true)

pub returns-then-n-eq0 : goal.returns-then-n-eq0
returns-then-n-eq0 c = fills_none c.requires.fill c.requires.width (sym c.requires.many ∙ c.if-n-eq0.true)

pub overflow_sub-empty : goal.overflow_sub-empty
overflow_sub-empty c = omega (arith, c.requires.fill.positive)

pub layer_at-at-requires : goal.layer_at-at-requires
layer_at-at-requires c = let f = c.requires.fill in (omega (arith, f.fits, c.well_formed), f.small, omega (arith, f.few, f.positive))

pub offset_bounds-into-at : goal.offset_bounds-into-at
offset_bounds-into-at c = omega (arith, inside (goal.at.offset_bounds-into-at c).Start {j = 0} (omega (arith, c.if-n-eq0.false)), c.layer_at-at.ensures, c.well_formed)

pub bounds-into-at : goal.bounds-into-at
bounds-into-at c = omega (arith, inside (goal.at.bounds-into-at c).Start {j = 0} (omega (arith, c.if-n-eq0.false)), c.layer_at-at.ensures)

pub row-last-requires : goal.row-last-requires
row-last-requires c =
    let first_at : c.layer_at-at.result ≡ base (goal.at.row-last-requires c).Start + 0 = omega (arith, c.layer_at-at.ensures) in
    (moved c.args.into.now first_at (c.requires.lies 0 (omega (arith, c.if-n-eq0.false)))).packed

pub append_row-requires : goal.append_row-requires
append_row-requires c =
    let k = (goal.at.append_row-requires c).After-row-last in
    can_push (first_row k) (pushing_first c.requires.fill c.requires.width c.of-lengths.ensures (first k))

pub loop-j-init : goal.loop-j-init
loop-j-init c =
    let k = (goal.at.loop-j-init c).After-row-last in
    let e : length c.row-last.result ≡ max_arity = search rules in
    (filled_first c.requires.fill c.requires.width (first k) (pushed (first_row k) (pushing_first c.requires.fill c.requires.width c.of-lengths.ensures (first k)) c.append_row.ensures), e, first_row k)

pub overflow_add-w : goal.overflow_add-w
overflow_add-w c = omega (arith, c.layer_at-at.ensures, inside (goal.at.overflow_add-w c).Start c.loop-j-test.true, c.well_formed)

pub offset_bounds-into-at-in-loop-j : goal.offset_bounds-into-at-in-loop-j
offset_bounds-into-at-in-loop-j c = omega (arith, c.layer_at-at.ensures, inside (goal.at.offset_bounds-into-at-in-loop-j c).Start c.loop-j-test.true, c.well_formed)

pub bounds-into-at-in-loop-j : goal.bounds-into-at-in-loop-j
bounds-into-at-in-loop-j c = omega (arith, c.layer_at-at.ensures, inside (goal.at.bounds-into-at-in-loop-j c).Start c.loop-j-test.true, long (goal.at.bounds-into-at-in-loop-j c).In-loop-j)

pub row-row-requires : goal.row-row-requires
row-row-requires c = (rank_now (goal.at.row-row-requires c).In-loop-j).packed

row_long : (c : After-row-row) → length c.row-row.result ≡ max_arity
row_long c = search rules

-- the row that a turn appends is the next one
module _ (c : After-row-row) (r : take c.args.empty.arity c.row-row.result ≡ get_or (sort (rows_seen c.args.rows.now)) c.loop-j.j []) where
  following : Following (length c.args.into.now) c.args.empty (sort (rows_seen c.args.rows.now)) c.append_row.new.pool c.loop-j.into c.loop-j.lengths.data c.loop-j.lengths.intervals c.loop-j.j (take c.args.empty.arity c.loop-j.last) (take c.args.empty.arity c.row-row.result)
  following =
      record {
        filling = c.requires.fill;
        width = c.requires.width;
        filled = c.loop-j.invariant.0;
        same = c.loop-j.invariant.0.long ∙ c.append_row.auto.pool;
        more = omega (arith, c.requires.many, c.loop-j-test.true);
        last_is = c.loop-j.invariant.2;
        row_is = r;
      }

pub append_next-requires : goal.append_next-requires
append_next-requires c =
    let r = row_is c.row-row.result c.requires.arity (rank_now (goal.at.append_next-requires c).In-loop-j) c.row-row.ensures in
    (length c.args.into.now, sort (rows_seen c.args.rows.now), c.append_row.new.pool, c.loop-j.j, following (goal.at.append_next-requires c).After-row-row r)

pub loop-j-preserved : goal.loop-j-preserved
loop-j-preserved c =
    let l = (goal.at.loop-j-preserved c).In-loop-j in
    let k = (goal.at.loop-j-preserved c).After-row-row in
    let r = row_is c.row-row.result c.requires.arity (rank_now l) c.row-row.ensures in
    let q : c.loop-j.j + 1 - 1 ≡ c.loop-j.j = omega arith in (
      c.append_next.ensures (length c.args.into.now) (rows l) c.append_row.new.pool c.loop-j.j (following k r),
      row_long k,
      r ∙ ap (λ (m : ℕ). get_or (rows l) m []) (sym q),
    )

pub filled-requires : goal.filled-requires
filled-requires c = (c.requires.fill.positive, c.requires.fill.few)

pub shape_of-into : goal.shape_of-into
shape_of-into c = c.loop-j.invariant.0.long ∙ c.append_row.auto.pool

pub returns : goal.returns
returns c =
    let k = (goal.at.returns c).After-row-last in
    subst (Fills c.args.into.now c.args.empty (sort (rows_seen c.args.rows.now)) c.loop-j.into) (sym c.filled.ensures)
    (fills_all c.requires.fill c.requires.width (first k) (pushed (first_row k) (pushing_first c.requires.fill c.requires.width c.of-lengths.ensures (first k)) c.append_row.ensures) c.loop-j.invariant.0 (omega (arith, c.requires.many, c.loop-j-test.false)))
