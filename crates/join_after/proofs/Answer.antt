-- The call from its checks to its answer: the descents leave the rows that it lists in the window, and the row read back from there is the one to hand back.
use Prim.Native.Nat.{ℕ, zero, suc, ◌*◌}
use native.Mathlib.Omega.{arith}
use mathlib.Core.Path.{◌≡◌, refl, sym, subst, ap, ◌∙◌}
use mathlib.Core.Bool.{Bool, true, false}
use Rattle.std.specs.Prelude.{Some, None}
use mathlib.Core.List.{List}
use lib.ListN.{length, take, drop, replicate}
use Rattle.relation.specs.Order.{Row, pick}
use Rattle.relation.specs.Rows.{Width}
use Rattle.query.specs.Limits.{max_atoms}
use Rattle.query.specs.Outcome.{Comes, told, refused}
use Rattle.query.specs.Solve.{listing}
use Rattle.query.specs.Window.{Progress}
use Rattle.query.proofs.Listed.{listing_listing}
use Rattle.join_query.specs.Query.{max_variables, order_of, atoms_of, join_number, Accepted}
use Rattle.join_query.specs.declared.Query.{Query}
use Rattle.join_query.specs.declared.Tables.{Tables}
use Rattle.join_query.proofs.Accepted.{sized, passes}
use Rattle.join_plan.specs.Plan.{Plan, Planned, FirstsEnded}
use Rattle.join_window.specs.Window.{written, Begun}
use Rattle.join_window.specs.declared.Window.{Window}
use Rattle.descent.specs.Descent.{Descended}
use Rattle.descent.proofs.Root.{stands_root, joined}
use Rattle.rows_after.specs.After.{rows_asked, listed_after, last_of, stood_at, padded, outcome_after, JoinsAfter}
use Rattle.rows_after.proofs.After.{in_after}
use Rattle.rows_after.proofs.Walk.{engine_after_root}
use Rattle.rows_after.proofs.Outcome.{outcome_refused, outcome_listed, last_refused, last_listed}
use Rattle.rows_after.proofs.Last.{last_written, last_none}
use Rattle.last_row.specs.Last.{last_read}
use Rattle.join_after.specs.From.{given_row, listed_from}
use Rattle.descent_after.specs.Descent.{DescendedAfter}

-- a descent that began in a new window, as one of its words
pub begun_after : {pool : List ℕ} {plan : Plan} {ends : List ℕ} {m n d : ℕ} {at own found given : List ℕ} {w₀ : Window} {w' : List ℕ} {rows : ℕ} {full : Bool} → Begun m w₀ → DescendedAfter pool plan ends n d at own found given w₀.words.now w₀.rows w' rows full → DescendedAfter pool plan ends n d at own found given w₀.words.now 0 w' rows full
begun_after {pool} {plan} {ends} {n = n} {d} {at} {own} {found} {given} {w₀} {w'} {rows} {full} b d₀ = subst (λ (r : ℕ). DescendedAfter pool plan ends n d at own found given w₀.words.now r w' rows full) b.none d₀

module _ {pool : List ℕ} {ts : Tables} {q : Query} (w : List ℕ) (a : Accepted pool ts q (length w)) (given : Row) where
  -- every row listed is n words
  wide : (goes_on : Bool) → Width q.n (rows_asked pool ts q goes_on given)
  wide true r m = (listing_listing (passes a)).wide r (in_after (order_of q) given (listing q.n (order_of q) (atoms_of pool ts q)) m).0
  wide false r m = (listing_listing (passes a)).wide r m

  -- what the inner function lists is what the call does
  from : (b : Bool) → listed_from pool ts q (given_row b given) w ≡ listed_after pool ts q b given w
  from true = refl
  from false = refl

  -- ---- the descents from the root

  module _ {plan : Plan} {ends : List ℕ} (p : Planned plan ts q) (e : FirstsEnded ends ts q q.atom_count) {w' : List ℕ} {rows : ℕ} {full : Bool} where
    pub listed_on : DescendedAfter pool plan ends q.n 0 (replicate max_atoms 0) (replicate max_atoms 0) (replicate max_variables 0) given w 0 w' rows full → written w' rows full ≡ listed_from pool ts q (Some given) w
    listed_on d = engine_after_root (passes a) (λ i. _) (λ i h. refl) (replicate max_variables 0) given w (omega (arith, (sized a).few)) (d.descends ts q _ (stands_root a p e))

    pub listed_all : Descended pool plan ends q.n 0 (replicate max_atoms 0) (replicate max_atoms 0) (replicate max_variables 0) w 0 w' rows full → written w' rows full ≡ listed_from pool ts q None w
    listed_all d = joined a p e d

  -- ---- the window that they leave

  module _ (goes_on : Bool) {w' : List ℕ} {rows : ℕ} {full : Bool} (f : written w' rows full ≡ listed_from pool ts q (given_row goes_on given) w) where
    l : written w' rows full ≡ listed_after pool ts q goes_on given w
    l = f ∙ from goes_on

    -- the row read back is the last of those written, or the one that the call stood at
    read_back : last_of (stood_at q.n goes_on given) (take (listed_after pool ts q goes_on given w).count (rows_asked pool ts q goes_on given)) ≡ last_read w' q.n rows (given_row goes_on given)
    unfolding last_read
    read_back = go rows (ap (λ (s : Progress). s.count) l)
      where
        all : List Row
        all = rows_asked pool ts q goes_on given

        words : (listed_after pool ts q goes_on given w).words ≡ w'
        words = sym (ap (λ (s : Progress). s.words) l)

        stood : (b : Bool) → stood_at q.n b given ≡ last_read w' q.n 0 (given_row b given)
        stood true = refl
        stood false = refl

        go : (m : ℕ) → m ≡ (listed_after pool ts q goes_on given w).count → last_of (stood_at q.n goes_on given) (take (listed_after pool ts q goes_on given w).count all) ≡ last_read w' q.n m (given_row goes_on given)
        go zero e = last_none w q.n all (stood_at q.n goes_on given) (sym e) ∙ stood goes_on
        go (suc j) e = last_written w q.n all (wide goes_on) (stood_at q.n goes_on given) j (sym e) ∙ ap (λ (x : List ℕ). take q.n (drop (j * q.n) x)) words

    pub answers : {number : ℕ} → number ≡ pick full 12 0 → {last : List ℕ} → last ≡ padded (last_read w' q.n rows (given_row goes_on given)) → JoinsAfter pool ts q goes_on given w (record { number = number; rows = rows; last = last }) w'
    unfolding told
    answers n k =
        let o : told (written w' rows full) ≡ outcome_after pool ts q goes_on given w = ap told l ∙ sym (outcome_listed pool ts q goes_on given w a.passed) in
        record {
          number = n ∙ ap (λ (c : Comes). c.number) o;
          rows = ap (λ (c : Comes). c.rows) o;
          words = ap (λ (c : Comes). c.words) o;
          last = k ∙ (ap padded (sym read_back) ∙ sym (last_listed pool ts q goes_on given w a.passed));
        }

-- ---- a refusal

pub refuses : (pool : List ℕ) (ts : Tables) (q : Query) (goes_on : Bool) (given w : List ℕ) (k : ℕ) → k ≡ join_number pool ts q (length w) → (k ≡ 0 → ⊥) → JoinsAfter pool ts q goes_on given w (record { number = k; rows = 0; last = replicate max_variables 0 }) w
unfolding refused
refuses pool ts q goes_on given w zero e f = absurd (f refl)
refuses pool ts q goes_on given w (suc k) e f =
    let o = sym (outcome_refused pool ts q goes_on given w (sym e)) in
    record { number = ap (λ (c : Comes). c.number) o; rows = ap (λ (c : Comes). c.rows) o; words = ap (λ (c : Comes). c.words) o; last = sym (last_refused pool ts q goes_on given w (sym e)) }
