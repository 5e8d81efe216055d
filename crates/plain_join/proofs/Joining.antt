-- The plain join from its checks to its answer: a refusal alone, or the rows found, which are the query's listing, in the window.
use Prim.Native.Nat.{ℕ, zero, suc, ◌-◌}
use native.Mathlib.Omega.{arith}
use mathlib.Core.Path.{◌≡◌, refl, sym, ap, ◌∙◌}
use mathlib.Core.Bool.{Bool, false}
use mathlib.Core.List.{List}
use lib.ListN.{length, drop, replicate}
use Rattle.relation.specs.Order.{pick}
use Rattle.query.specs.Outcome.{Comes, told, refused}
use Rattle.query.specs.Solve.{listing}
use Rattle.query.specs.Window.{Progress, emits}
use Rattle.query.proofs.Listed.{listing_listing}
use Rattle.query.proofs.Window.{emits_windowed}
use Rattle.join_query.specs.Query.{max_variables, order_of, atoms_of, join_number, Accepted}
use Rattle.join_query.specs.Outcome.{listed, outcome}
use Rattle.join_query.specs.declared.Query.{Query}
use Rattle.join_query.specs.declared.Tables.{Tables}
use Rattle.join_query.proofs.Accepted.{sized, passes}
use Rattle.join_query.proofs.Outcome.{outcome_refused, outcome_listed}
use Rattle.join_window.specs.Window.{written, progress, Begun}
use Rattle.join_window.specs.declared.Window.{Window}
use Rattle.join_window.proofs.Windows.{begun_progress}
use Rattle.plain.specs.Plain.{plainly}
use Rattle.plain.proofs.Plain.{plainly_is}
use Rattle.plain_join.specs.Outcome.{PlainJoins}

module _ {pool : List ℕ} {ts : Tables} {q : Query} {len : ℕ} (z : Accepted pool ts q len) where
  -- the search from the root leaves the listing
  pub joined : {n : ℕ} {w₀ : Window} {s : Progress} → Begun n w₀ → s ≡ emits q.n (progress w₀) (plainly q.n (drop (q.n - q.n) (order_of q)) (atoms_of pool ts q) (replicate max_variables 0)) → s ≡ listed pool ts q w₀.words.now
  joined {w₀ = w₀} b d =
      let w = w₀.words.now in
      d
      ∙ ap (λ (s : Progress). emits q.n s (plainly q.n (drop (q.n - q.n) (order_of q)) (atoms_of pool ts q) (replicate max_variables 0))) (begun_progress b)
      ∙ ap (λ (k : ℕ). emits q.n (written w 0 false) (plainly q.n (drop k (order_of q)) (atoms_of pool ts q) (replicate max_variables 0))) (let e : q.n - q.n ≡ 0 = omega arith in e)
      ∙ ap (emits q.n (written w 0 false)) (plainly_is (passes z) (replicate max_variables 0) (omega (arith, (sized z).few)))
      ∙ emits_windowed w q.n (listing q.n (order_of q) (atoms_of pool ts q)) (listing_listing (passes z)).wide

module _ (pool : List ℕ) (ts : Tables) (q : Query) (w : List ℕ) where
  pub joins_refused : (k : ℕ) → k ≡ join_number pool ts q (length w) → (k ≡ 0 → ⊥) → PlainJoins pool ts q w (record { number = k; rows = 0 }) w
  unfolding refused
  joins_refused zero e f = absurd (f refl)
  joins_refused (suc k) e f = let o = sym (outcome_refused pool ts q w (sym e)) in record { number = ap (λ (c : Comes). c.number) o; rows = ap (λ (c : Comes). c.rows) o; words = ap (λ (c : Comes). c.words) o }

  pub joins_listed : 0 ≡ join_number pool ts q (length w) → {w' : List ℕ} {rows : ℕ} {full : Bool} → written w' rows full ≡ listed pool ts q w → {number : ℕ} → number ≡ pick full 12 0 → PlainJoins pool ts q w (record { number = number; rows = rows }) w'
  unfolding told
  joins_listed e {w'} {rows} {full} l n =
      let o : told (written w' rows full) ≡ outcome pool ts q w = ap told l ∙ sym (outcome_listed pool ts q w (sym e)) in
      record { number = n ∙ ap (λ (c : Comes). c.number) o; rows = ap (λ (c : Comes). c.rows) o; words = ap (λ (c : Comes). c.words) o }
