-- The goals of `load` that the check leaves.
use Prim.Native.Nat.{ℕ, ◌+◌, ◌*◌, ◌-◌, ◌≤◌, ◌<◌}
use mathlib.Core.Path.{◌≡◌, sym, ap, ◌∙◌, subst}
use mathlib.Core.List.{List, []}
use native.Mathlib.Omega.{arith}
use lib.ListN.{length, take, drop, get_or, length-drop}
use Rattle.std.proofs.lemmas.List.{take_rest}
use Rattle.relation.specs.Order.{Row}
use Rattle.column_trie.specs.Limits.{max_arity}
use Rattle.from_sorted.specs.Push.{Following, Fills}
use Rattle.from_sorted.proofs.Fill.{pushing_first, filled_first, fills_none, fills_all, can_push, pushed}
use Rattle.table_file.specs.Bytes.{decode}
use Rattle.table_file.specs.File.{parse}
use Rattle.table_file.specs.Places.{place}
use Rattle.column_trie.specs.declared.ColumnTrie.{ColumnTrie}
use Rattle.file_read.specs.Load.{rows_found, Loading}
use borrow.Author.Rules.{rules}
use Rattle.file_read.proofs.load.Goals as goal
use Rattle.file_read.proofs.load.Goals.{After-read_row-last, After-read_row-row, Start}

-- a row that was read where it lies
there : {bytes : List ℕ} {at n len : ℕ} {t : ColumnTrie} → Loading bytes at n len t → (i : ℕ) → i < n → {y : ℕ} (row : List ℕ) → y ≡ at + place t.arity i → take t.arity row ≡ decode t.arity (take (length bytes - y) (drop y bytes)) → take t.arity row ≡ get_or (rows_found (parse bytes)) i []
there {bytes} {t = t} l i h {y} row q e = e ∙ ap (decode t.arity) (take_rest bytes y) ∙ ap (λ (z : ℕ). decode t.arity (drop z bytes)) q ∙ (l.lies i h).is

-- what the function is handed
module _ (s : Start) where
  abbrev a : ℕ
  a = s.args.t.arity

  placed : (i : ℕ) → i < s.args.file.rows → (0 < a) × (a ≤ 8) × (s.args.file.body + place a i < 18446744073709551616)
  placed i h = (s.requires.fill.positive, s.requires.fill.few, omega (arith, (s.requires.lies i h).inside, s.well_formed))

  starts : (i : ℕ) → i < s.args.file.rows → (y : ℕ) → y ≡ s.args.file.body + place a i → y ≤ length s.args.bytes.now
  starts i h y e = omega (arith, (s.requires.lies i h).inside)

  seated : (i : ℕ) → i < s.args.file.rows → (y : ℕ) → y ≡ s.args.file.body + place a i → (a ≤ max_arity) × (8 * a ≤ length (take (length s.args.bytes.now - y) (drop y s.args.bytes.now)))
  seated i h y e = (s.requires.fill.few, omega (arith, (s.requires.lies i h).inside, ap length (take_rest s.args.bytes.now y), length-drop y s.args.bytes.now))

-- the first row, read
module _ (k : After-read_row-last) where
  some : 0 < k.args.file.rows
  some = omega (arith, k.if-file-eq0.false)

  first_row : take k.args.t.arity k.read_row-last.result ≡ get_or (rows_found (parse k.args.bytes.now)) 0 []
  first_row = there k.requires 0 some _ k.row_place-first.ensures k.read_row-last.ensures

  first : 0 < length (rows_found (parse k.args.bytes.now))
  first = omega (arith, k.requires.many, some)

pub returns-then-file-eq0 : goal.returns-then-file-eq0
returns-then-file-eq0 c = fills_none c.requires.fill c.requires.width (sym c.requires.many ∙ c.if-file-eq0.true)

pub row_place-first-requires : goal.row_place-first-requires
row_place-first-requires c = placed (goal.at.row_place-first-requires c).Start 0 (omega (arith, c.if-file-eq0.false))

pub slice_bounds-read_row-start : goal.slice_bounds-read_row-start
slice_bounds-read_row-start c = starts (goal.at.slice_bounds-read_row-start c).Start 0 (omega (arith, c.if-file-eq0.false)) c.row_place-first.result c.row_place-first.ensures

pub slice_bounds-read_row-count : goal.slice_bounds-read_row-count
slice_bounds-read_row-count c = starts (goal.at.slice_bounds-read_row-count c).Start 0 (omega (arith, c.if-file-eq0.false)) c.row_place-first.result c.row_place-first.ensures

pub slice_bounds-read_row-start-in-loop-i : goal.slice_bounds-read_row-start-in-loop-i
slice_bounds-read_row-start-in-loop-i c = starts (goal.at.slice_bounds-read_row-start-in-loop-i c).Start c.loop-i.i c.loop-i-test.true c.row_place-place.result c.row_place-place.ensures

pub slice_bounds-read_row-count-in-loop-i : goal.slice_bounds-read_row-count-in-loop-i
slice_bounds-read_row-count-in-loop-i c = starts (goal.at.slice_bounds-read_row-count-in-loop-i c).Start c.loop-i.i c.loop-i-test.true c.row_place-place.result c.row_place-place.ensures

pub read_row-last-requires : goal.read_row-last-requires
read_row-last-requires c = seated (goal.at.read_row-last-requires c).Start 0 (omega (arith, c.if-file-eq0.false)) c.row_place-first.result c.row_place-first.ensures

pub append_row-requires : goal.append_row-requires
append_row-requires c =
    let k = (goal.at.append_row-requires c).After-read_row-last in
    can_push (first_row k) (pushing_first c.requires.fill c.requires.width c.of-lengths.ensures (first k))

pub loop-i-init : goal.loop-i-init
loop-i-init c =
    let k = (goal.at.loop-i-init c).After-read_row-last in
    let e : length c.read_row-last.result ≡ max_arity = search rules in
    (filled_first c.requires.fill c.requires.width (first k) (pushed (first_row k) (pushing_first c.requires.fill c.requires.width c.of-lengths.ensures (first k)) c.append_row.ensures), e, first_row k)

pub row_place-place-requires : goal.row_place-place-requires
row_place-place-requires c = placed (goal.at.row_place-place-requires c).Start c.loop-i.i c.loop-i-test.true

pub read_row-row-requires : goal.read_row-row-requires
read_row-row-requires c = seated (goal.at.read_row-row-requires c).Start c.loop-i.i c.loop-i-test.true c.row_place-place.result c.row_place-place.ensures

row_long : (c : After-read_row-row) → length c.read_row-row.result ≡ max_arity
row_long c = search rules

-- the row that a turn appends is the next one
module _ (c : After-read_row-row) where
  abbrev rows : List Row
  rows = rows_found (parse c.args.bytes.now)

  abbrev i : ℕ
  i = c.loop-i.i

  row_read : take c.args.t.arity c.read_row-row.result ≡ get_or rows i []
  row_read = there c.requires i c.loop-i-test.true _ c.row_place-place.ensures c.read_row-row.ensures

  following : Following (length c.args.pool.now) c.args.t rows c.append_row.new.pool c.loop-i.pool c.loop-i.lengths.data c.loop-i.lengths.intervals i (take c.args.t.arity c.loop-i.last) (take c.args.t.arity c.read_row-row.result)
  following =
      record {
        filling = c.requires.fill;
        width = c.requires.width;
        filled = c.loop-i.invariant.0;
        same = c.loop-i.invariant.0.long ∙ c.append_row.auto.pool;
        more = omega (arith, c.requires.many, c.loop-i-test.true);
        last_is = c.loop-i.invariant.2;
        row_is = row_read;
      }

pub append_next-requires : goal.append_next-requires
append_next-requires c = (length c.args.pool.now, rows_found (parse c.args.bytes.now), c.append_row.new.pool, c.loop-i.i, following (goal.at.append_next-requires c).After-read_row-row)

pub loop-i-preserved : goal.loop-i-preserved
loop-i-preserved c =
    let k = (goal.at.loop-i-preserved c).After-read_row-row in
    let q : c.loop-i.i + 1 - 1 ≡ c.loop-i.i = omega arith in (
      c.append_next.ensures (length c.args.pool.now) (rows k) c.append_row.new.pool c.loop-i.i (following k),
      row_long k,
      row_read k ∙ ap (λ (n : ℕ). get_or (rows k) n []) (sym q),
    )

pub filled-requires : goal.filled-requires
filled-requires c = (c.requires.fill.positive, c.requires.fill.few)

pub shape_of-pool : goal.shape_of-pool
shape_of-pool c = c.loop-i.invariant.0.long ∙ c.append_row.auto.pool

pub returns : goal.returns
returns c =
    let k = (goal.at.returns c).After-read_row-last in
    subst (Fills c.args.pool.now c.args.t (rows_found (parse c.args.bytes.now)) c.loop-i.pool) (sym c.filled.ensures)
    (fills_all c.requires.fill c.requires.width (first k) (pushed (first_row k) (pushing_first c.requires.fill c.requires.width c.of-lengths.ensures (first k)) c.append_row.ensures) c.loop-i.invariant.0 (omega (arith, c.requires.many, c.loop-i-test.false)))
