-- `meet` meets its contract: no row is listed there, or another one, or this one.
use Prim.Native.Nat.{◌<◌}
use native.Mathlib.Omega.{arith}
use mathlib.Core.Path.{◌≡◌, sym, ap, ◌∙◌}
use mathlib.Core.List.{[]}
use Rattle.std.specs.Prelude.{Some}
use lib.ListN.{length, get_or, take}
use Rattle.relation.specs.Order.{Row}
use Rattle.relation.specs.Rows.{cut, same}
use Rattle.relation.proofs.Words.{length_cut}
use Rattle.listed_rows.proofs.Reading.{row_inside}
use Rattle.listing_verdict.specs.Checked.{eight}
use Rattle.listing_check.specs.Walk.{agreed, meet}
use Rattle.listing_check.specs.declared.Reached.{Reached}
use Rattle.listing_check.proofs.Meeting.{words_same, words_differ, meet_past, meet_other, meet_next, read_row}
use Rattle.listing_check.proofs.meet.Goals as goal
use Rattle.listing_check.proofs.meet.Goals.{After-row_at-next, Else-at-rows, Start}

-- the row's words, zeros behind them
padded : (s : Start) → let a = s.args in ◌≡◌ {A = Reached} (record { at = a.met.at; missing = Some a.found }) (record { at = a.met.at; missing = Some (eight (take a.n a.found)) })
padded s = let a = s.args in ap {B = Reached} (λ (r : Row). record { at = a.met.at; missing = Some r }) s.requires.2

-- the row is compared behind those that agree
behind : (s : Start) {r : Reached} → r ≡ meet (cut s.args.rows s.args.n s.args.listing.now) (agreed s.args.met.at) (take s.args.n s.args.found) → r ≡ meet (cut s.args.rows s.args.n s.args.listing.now) s.args.met (take s.args.n s.args.found)
behind s e = let a = s.args in e ∙ ap (λ (m : Reached). meet (cut a.rows a.n a.listing.now) m (take a.n a.found)) (sym s.requires.3)

-- a row is listed there
inside : (c : Else-at-rows) → c.args.met.at < c.args.rows
inside c = omega (arith, c.if-at-rows.false)

-- and this is what it has
listed : (c : After-row_at-next) → let a = c.args in take a.n c.row_at-next.result ≡ get_or (cut a.rows a.n a.listing.now) a.met.at []
listed c =
    let a = c.args in
    read_row a.listing.now a.n a.rows a.met.at (omega (arith, c.if-at-rows.false)) c.requires.1 (row_inside a.met.at a.rows a.n (length a.listing.now) (omega (arith, c.if-at-rows.false)) c.requires.1) c.row_at-next.ensures

pub returns-then-at-rows : goal.returns-then-at-rows
returns-then-at-rows c =
    let a = c.args in
    behind (goal.at.returns-then-at-rows c).Start (padded (goal.at.returns-then-at-rows c).Start ∙ sym (meet_past (cut a.rows a.n a.listing.now) a.met.at (take a.n a.found) (omega (arith, c.if-at-rows.true, length_cut a.rows a.n a.listing.now))))

pub row_at-next-requires : goal.row_at-next-requires
row_at-next-requires c = let a = c.args in (c.requires.0, row_inside a.met.at a.rows a.n (length a.listing.now) (inside (goal.at.row_at-next-requires c).Else-at-rows) c.requires.1)

pub returns-then-ne : goal.returns-then-ne
returns-then-ne c =
    let a = c.args in
    behind (goal.at.returns-then-ne c).Start
    (padded (goal.at.returns-then-ne c).Start
    ∙ sym (meet_other (cut a.rows a.n a.listing.now) a.met.at (take a.n a.found)
    (ap (λ (r : Row). same r (take a.n a.found)) (sym (listed (goal.at.returns-then-ne c).After-row_at-next)) ∙ words_differ (take a.n c.row_at-next.result) (take a.n a.found) (sym c.ne.ensures ∙ c.if-ne.true))))

pub returns : goal.returns
returns c =
    let a = c.args in
    behind (goal.at.returns c).Start
    (sym (meet_next (cut a.rows a.n a.listing.now) a.met.at (take a.n a.found) (omega (arith, inside (goal.at.returns c).Else-at-rows, length_cut a.rows a.n a.listing.now))
    (ap (λ (r : Row). same r (take a.n a.found)) (sym (listed (goal.at.returns c).After-row_at-next)) ∙ words_same (take a.n c.row_at-next.result) (take a.n a.found) (sym c.ne.ensures ∙ c.if-ne.false))))
