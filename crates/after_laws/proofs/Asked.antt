-- The rows that a call on an accepted query lists: their width, that they ascend, and that those after one of them are the ones behind it.
use Prim.Native.Nat.{ℕ, suc, ◌<◌}
use mathlib.Core.Path.{◌≡◌, refl, sym, subst, ap, ◌∙◌}
use mathlib.Core.Bool.{Bool, true, false}
use mathlib.Core.List.{List, []}
use lib.ListN.{length, get_or, take, drop}
use lib.Seq.{split_at}
use Rattle.relation.specs.Order.{Row, ◌≺◌}
use Rattle.relation.specs.Lists.{Ascends}
use Rattle.relation.specs.Rows.{Width}
use Rattle.relation.proofs.Lists.{get_or_in}
use Rattle.query.specs.Meaning.{part, Listing}
use Rattle.query.specs.Solve.{listing}
use Rattle.query.proofs.Listed.{listing_listing}
use Rattle.join_query.specs.Query.{order_of, atoms_of, Accepted}
use Rattle.join_query.specs.declared.Query.{Query}
use Rattle.join_query.specs.declared.Tables.{Tables}
use Rattle.join_query.proofs.Accepted.{passes}
use Rattle.rows_after.specs.After.{after_row, rows_asked, padded}
use Rattle.rows_after.proofs.After.{in_after, after_ascends, after_same, after_after, after_behind}
use Rattle.rows_after.proofs.Last.{padded_part}

-- where a row follows another by the order
abbrev pub Follows : Query → Row → Row → Type 0
Follows q r s = part (order_of q) r ≺ part (order_of q) s

module _ {pool : List ℕ} {ts : Tables} {q : Query} {len : ℕ} (a : Accepted pool ts q len) (given : Row) where
  abbrev answers : List Row
  answers = listing q.n (order_of q) (atoms_of pool ts q)

  all : Listing q.n (order_of q) (atoms_of pool ts q) answers
  all = listing_listing (passes a)

  pub asked_wide : (goes_on : Bool) → Width q.n (rows_asked pool ts q goes_on given)
  asked_wide true r m = all.wide r (in_after (order_of q) given answers m).0
  asked_wide false r m = all.wide r m

  pub asked_ascends : (goes_on : Bool) → Ascends (Follows q) (rows_asked pool ts q goes_on given)
  asked_ascends true = after_ascends (order_of q) given all.ascending
  asked_ascends false = all.ascending

  -- the rows after one of them, of all and of those that the call lists
  among : (goes_on : Bool) (i : ℕ) → i < length (rows_asked pool ts q goes_on given) → after_row (order_of q) (get_or (rows_asked pool ts q goes_on given) i []) answers ≡ after_row (order_of q) (get_or (rows_asked pool ts q goes_on given) i []) (rows_asked pool ts q goes_on given)
  among true i h =
      let rows = rows_asked pool ts q true given in
      sym (after_after (order_of q) given (get_or rows i []) (in_after (order_of q) given answers (get_or_in rows i [] h)).1 answers)
  among false i h = refl

  -- a call that goes on after row i lists the rows behind it
  pub asked_behind : (goes_on : Bool) (i : ℕ) → i < length (rows_asked pool ts q goes_on given) → rows_asked pool ts q true (padded (get_or (rows_asked pool ts q goes_on given) i [])) ≡ drop (suc i) (rows_asked pool ts q goes_on given)
  asked_behind goes_on i h =
      let rows = rows_asked pool ts q goes_on given in
      let r = get_or rows i [] in
      let e = split_at rows i [] h in
      after_same (order_of q) (padded r) r (padded_part (order_of q) r) answers
      ∙ among goes_on i h
      ∙ ap (after_row (order_of q) r) e
      ∙ after_behind (order_of q) (take i rows) r (drop (suc i) rows) (subst (Ascends (Follows q)) e (asked_ascends goes_on))
