-- "If two queries have the same atoms up to such rebuilding, and each passes the checks, their rows are the same set and each listing ascends in its own order":
-- of the join's contract, where both windows are big enough for all rows. Idea: both queries have the same answers, and a listing has exactly the answers.
use Prim.Native.Nat.{ℕ, zero, suc, ◌*◌, ◌≤◌, ◌<◌}
use native.Mathlib.Nat.{le-div_iff_mul-le}
use native.Mathlib.Decide.{dec_lt}
use native.Mathlib.Omega.{arith}
use mathlib.Core.Path.{◌≡◌, refl, sym, ap, ◌∙◌, subst}
use mathlib.Core.List.{List, ◌++◌}
use lib.ListN.{length, take, drop}
use lib.Seq.{take_all}
use Rattle.relation.specs.Order.{Row}
use Rattle.relation.specs.Lists.{◌∈◌}
use Rattle.relation.specs.Rows.{flat}
use Rattle.relation.proofs.Lists.{in_get_or, get_or_in}
use Rattle.query.specs.Meaning as meaning
use Rattle.query.specs.Meaning.{part, Answer, Listing}
use Rattle.query.specs.Descend.{nobody}
use Rattle.query.specs.Window.{fit}
use Rattle.join_query.specs.Query.{atom_at, atom_of, atoms_of, Accepted}
use Rattle.join_query.specs.declared.Query.{Query}
use Rattle.join_query.specs.declared.Tables.{Tables}
use Rattle.join_query.proofs.Accepted.{atoms_length, atoms_at}
use Rattle.leapfrog_triejoin.specs.Outcome.{Joins}
use Rattle.leapfrog_triejoin.specs.declared.Joined.{Joined}
use Rattle.demand_3.proofs.Theorems.{Demand3, demand_3}
use Rattle.orders.specs.Orders.{sited, SameAtoms, Wrote, SameRows}
use Rattle.orders.proofs.Alike.{Allows, alike_allows}

-- atom i of a query that passed
module _ {pool : List ℕ} {ts : Tables} {q : Query} {len : ℕ} (a : Accepted pool ts q len) where
  atom_of_lem : (x : meaning.Atom) → x ∈ atoms_of pool ts q → (i : ℕ) × (i < q.atom_count) × (atom_of pool ts (atom_at q i) ≡ x)
  atom_of_lem x m =
      let t = in_get_or nobody m in
      let h : t.0 < q.atom_count = omega (arith, t.1, atoms_length a) in
      (t.0, h, sym (atoms_at a t.0 h) ∙ t.2)

  atom_in : (i : ℕ) → i < q.atom_count → atom_of pool ts (atom_at q i) ∈ atoms_of pool ts q
  atom_in i h = subst (λ (x : meaning.Atom). x ∈ atoms_of pool ts q) (atoms_at a i h) (get_or_in (atoms_of pool ts q) i nobody (omega (arith, h, atoms_length a)))

-- each atom of the second query is one of the first
answers_go_over : {pool : List ℕ} {ts : Tables} {q : Query} {len : ℕ} {pool' : List ℕ} {ts' : Tables} {q' : Query} {len' : ℕ} → Accepted pool ts q len → Accepted pool' ts' q' len' → ((v : Row) (j : ℕ) → j < q'.atom_count → (i : ℕ) × (i < q.atom_count) × (Allows (sited pool ts q i) v → Allows (sited pool' ts' q' j) v)) → (v : Row) → Answer (atoms_of pool ts q) v → Answer (atoms_of pool' ts' q') v
answers_go_over a a' over v answer x m =
    let t = atom_of_lem a' x m in
    let o = over v t.0 t.1 in
    subst (λ (y : meaning.Atom). part y.vars v ∈ y.rows) t.2 (o.2 (answer _ (atom_in a o.0 o.1)))

-- with number 0 a join wrote its whole listing
all_fit : (n l c : ℕ) → c * n ≤ l → fit n l c ≡ c
unfolding fit
all_fit zero l c h = refl
all_fit (suc n) l c h = let p : 0 < suc n = omega arith in omega (arith, (le-div_iff_mul-le p).1 h)

wrote_all : {pool : List ℕ} {ts : Tables} {q : Query} {window : List ℕ} {r : Joined} {after : List ℕ} → (d : Demand3 pool ts q window r after) → r.number ≡ 0 → Wrote q window r after d.rows
wrote_all {q = q} {window} {r} {after} d z =
    let e : r.rows ≡ length d.rows = d.first ∙ all in
    record {
      count = e;
      words = d.receives ∙ ap (λ (m : ℕ). flat (take m d.rows) ++ drop (m * q.n) window) e ∙ ap (λ (rows : List Row). flat rows ++ drop (length d.rows * q.n) window) (take_all (length d.rows) d.rows (omega arith));
      ascending = d.exactly.ascending;
    }
  where
    all : fit q.n (length window) (length d.rows) ≡ length d.rows
    all = all_fit q.n (length window) (length d.rows) (go (dec_lt (length window) (length d.rows * q.n)))
      where
        go : Dec (length window < length d.rows * q.n) → length d.rows * q.n ≤ length window
        go (yes h) = absurd (omega (arith, z, d.full.1 h))
        go (no h) = omega (arith, h)

module _ {pool : List ℕ} {ts : Tables} {q : Query} {window : List ℕ} (a : Accepted pool ts q (length window)) {pool' : List ℕ} {ts' : Tables} {q' : Query} {window' : List ℕ} (a' : Accepted pool' ts' q' (length window')) (s : SameAtoms pool ts q pool' ts' q') {r r' : Joined} {after after' : List ℕ} (j : Joins pool ts q window r after) (j' : Joins pool' ts' q' window' r' after') where
  d : Demand3 pool ts q window r after
  d = demand_3 a j

  d' : Demand3 pool' ts' q' window' r' after'
  d' = demand_3 a' j'

  forth : (v : Row) → v ∈ d.rows → v ∈ d'.rows
  forth v m =
      d'.exactly.complete v (d.exactly.wide v m ∙ s.variables)
      (answers_go_over a a' (λ w k h. let t = s.back k h in (t.0, t.1, (alike_allows t.2 w).0)) v (d.exactly.sound v m))

  aback : (v : Row) → v ∈ d'.rows → v ∈ d.rows
  aback v m =
      d.exactly.complete v (d'.exactly.wide v m ∙ sym s.variables)
      (answers_go_over a' a (λ w i h. let t = s.forth i h in (t.0, t.1, (alike_allows t.2 w).1)) v (d'.exactly.sound v m))

  pub two_orders_give_the_same_rows : r.number ≡ 0 → r'.number ≡ 0 → SameRows q window r after q' window' r' after'
  two_orders_give_the_same_rows z z' = record { rows = d.rows; rows' = d'.rows; wrote = wrote_all d z; wrote' = wrote_all d' z'; same = λ v. (forth v, aback v) }
