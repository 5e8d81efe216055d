-- The goals of `rows_ascend` that the check leaves.
use Prim.Native.Nat.{ℕ, ◌+◌, ◌*◌, ◌-◌, ◌<◌, ◌≤◌}
use mathlib.Core.Path.{◌≡◌, sym, ap, ◌∙◌}
use mathlib.Core.List.{List, []}
use native.Mathlib.Omega.{arith}
use lib.ListN.{length, take, drop, get_or, length-drop}
use Rattle.std.proofs.lemmas.List.{take_rest}
use Rattle.relation.specs.Order.{Row}
use Rattle.column_trie.specs.Limits.{max_arity}
use Rattle.table_file.specs.Bytes.{decode, Bytes}
use Rattle.table_file.specs.Places.{place}
use Rattle.file_check.specs.Checks.{given, rows_from}
use Rattle.file_check.proofs.Compares.{is_before}
use Rattle.file_check.proofs.Whole.{ascended_none, ascended_next, ascended_falls, ascended_no_rows, ascended_all, row_inside, row_is}
use borrow.Author.Rules.{rules}
use Rattle.file_check.proofs.Body.ascends.Goals as goal
use Rattle.file_check.proofs.Body.ascends.Goals.{After-read_row-row, Else-n-eq0}

-- what the function is handed
module _ (k : Else-n-eq0) where
  abbrev a : ℕ
  a = k.args.self.now.arity

  abbrev rows : List Row
  rows = given (rows_from k.args.self.now.bytes.now k.args.self.now.at a)

  byte : Bytes k.args.self.now.bytes.now
  byte = k.args.self.now.each

  inside : (i : ℕ) → i < k.args.n → k.args.self.now.at + place a i + 8 * a ≤ length k.args.self.now.bytes.now
  inside i h = row_inside byte k.requires i h

  placed : (i : ℕ) → i < k.args.n → (0 < a) × (a ≤ 8) × (k.args.self.now.at + place a i < 18446744073709551616)
  placed i h = (k.requires.some, k.requires.few, omega (arith, inside i h, k.well_formed))

  ahead : (i : ℕ) → i < k.args.n → (y : ℕ) → y ≡ k.args.self.now.at + place a i → y ≤ length k.args.self.now.bytes.now
  ahead i h y e = omega (arith, inside i h)

  seated : (i : ℕ) → i < k.args.n → (y : ℕ) → y ≡ k.args.self.now.at + place a i → (a ≤ max_arity) × (8 * a ≤ length (take (length k.args.self.now.bytes.now - y) (drop y k.args.self.now.bytes.now)))
  seated i h y e = (k.requires.few, omega (arith, inside i h, ap length (take_rest k.args.self.now.bytes.now y), length-drop y k.args.self.now.bytes.now))

  there : (i : ℕ) → i < k.args.n → (y : ℕ) (row : List ℕ) → y ≡ k.args.self.now.at + place a i → take a row ≡ decode a (take (length k.args.self.now.bytes.now - y) (drop y k.args.self.now.bytes.now)) → take a row ≡ get_or rows i []
  there i h y row q e = e ∙ ap (decode a) (take_rest k.args.self.now.bytes.now y) ∙ ap (λ (z : ℕ). decode a (drop z k.args.self.now.bytes.now)) q ∙ row_is byte k.requires i h

row_long : (c : After-read_row-row) → length c.read_row-row.result ≡ max_arity
row_long c = search rules

pub returns-then-n-eq0 : goal.returns-then-n-eq0
returns-then-n-eq0 c = sym (ascended_no_rows c.args.self.now.each c.requires c.if-n-eq0.true)

pub slice_bounds-read_row-start : goal.slice_bounds-read_row-start
slice_bounds-read_row-start c = ahead (goal.at.slice_bounds-read_row-start c).Else-n-eq0 0 (omega (arith, c.if-n-eq0.false)) c.row_place-first.result c.row_place-first.ensures

pub slice_bounds-read_row-count : goal.slice_bounds-read_row-count
slice_bounds-read_row-count c = ahead (goal.at.slice_bounds-read_row-count c).Else-n-eq0 0 (omega (arith, c.if-n-eq0.false)) c.row_place-first.result c.row_place-first.ensures

pub slice_bounds-read_row-start-in-loop-i : goal.slice_bounds-read_row-start-in-loop-i
slice_bounds-read_row-start-in-loop-i c = ahead (goal.at.slice_bounds-read_row-start-in-loop-i c).Else-n-eq0 c.loop-i.i c.loop-i-test.true c.row_place-place.result c.row_place-place.ensures

pub slice_bounds-read_row-count-in-loop-i : goal.slice_bounds-read_row-count-in-loop-i
slice_bounds-read_row-count-in-loop-i c = ahead (goal.at.slice_bounds-read_row-count-in-loop-i c).Else-n-eq0 c.loop-i.i c.loop-i-test.true c.row_place-place.result c.row_place-place.ensures

pub read_row-last-requires : goal.read_row-last-requires
read_row-last-requires c = seated (goal.at.read_row-last-requires c).Else-n-eq0 0 (omega (arith, c.if-n-eq0.false)) c.row_place-first.result c.row_place-first.ensures

pub loop-i-init : goal.loop-i-init
loop-i-init c =
    let e : length c.read_row-last.result ≡ max_arity = search rules in
    (ascended_none (rows (goal.at.loop-i-init c).Else-n-eq0), e, there (goal.at.loop-i-init c).Else-n-eq0 0 (omega (arith, c.if-n-eq0.false)) c.row_place-first.result c.read_row-last.result c.row_place-first.ensures c.read_row-last.ensures)

pub row_place-place-requires : goal.row_place-place-requires
row_place-place-requires c = placed (goal.at.row_place-place-requires c).Else-n-eq0 c.loop-i.i c.loop-i-test.true

pub read_row-row-requires : goal.read_row-row-requires
read_row-row-requires c = seated (goal.at.read_row-row-requires c).Else-n-eq0 c.loop-i.i c.loop-i-test.true c.row_place-place.result c.row_place-place.ensures

pub returns-then-not-rises : goal.returns-then-not-rises
returns-then-not-rises c =
    let k = (goal.at.returns-then-not-rises c).Else-n-eq0 in
    let now = there k c.loop-i.i c.loop-i-test.true c.row_place-place.result c.read_row-row.result c.row_place-place.ensures c.read_row-row.ensures in
    sym (ascended_falls (byte k) c.requires c.loop-i.invariant.0 c.loop-i-test.true c.loop-i.invariant.2 now (is_before _ _ c.lt-rises.result c.lt-rises.ensures) c.if-not-rises.true)

pub loop-i-preserved : goal.loop-i-preserved
loop-i-preserved c =
    let k = (goal.at.loop-i-preserved c).Else-n-eq0 in
    let now = there k c.loop-i.i c.loop-i-test.true c.row_place-place.result c.read_row-row.result c.row_place-place.ensures c.read_row-row.ensures in
    let q : c.loop-i.i + 1 - 1 ≡ c.loop-i.i = omega arith in (
      ascended_next (byte k) c.requires c.loop-i.invariant.0 c.loop-i-test.true c.loop-i.invariant.2 now (is_before _ _ c.lt-rises.result c.lt-rises.ensures) c.if-not-rises.false,
      row_long (goal.at.loop-i-preserved c).After-read_row-row,
      now ∙ ap (λ (n : ℕ). get_or (rows k) n []) (sym q),
    )

pub returns : goal.returns
returns c = sym (ascended_all c.args.self.now.each c.requires c.loop-i.invariant.0 c.loop-i-test.false)
