-- Each number of a join is given exactly when documents 01 and 02 say, from the facts of a query: the checks' numbers by crates/join_query, 12 and 0 by demand 3.
use Prim.Native.Nat.{ℕ, ◌*◌, ◌<◌}
use native.Mathlib.Omega.{arith}
use mathlib.Core.Path.{◌≡◌, refl, sym, subst, ◌∙◌}
use mathlib.Core.Logic.{◌⊎◌, inl, inr}
use mathlib.Core.List.{List}
use lib.ListN.{length}
use Rattle.relation.specs.Order.{Row}
use Rattle.relation.specs.Exactly.{Exactly}
use Rattle.relation.proofs.Sequence.{exactly_then, exactly_same}
use Rattle.query.specs.Meaning.{Listing}
use Rattle.query.proofs.Unique.{unique}
use Rattle.join_query.specs.Query.{order_of, atoms_of, join_number, Accepted}
use Rattle.join_query.specs.Facts.{Typed, Ordered, Named, AllFollow, Covered, SameKinds, WholeRows, SoundTables, SameShapes, Passing}
use Rattle.join_query.specs.Outcome.{listed, outcome}
use Rattle.join_query.specs.declared.Query.{Query}
use Rattle.join_query.specs.declared.Tables.{Tables}
use Rattle.join_query.proofs.Exactly.{checks_8, checks_9, checks_10, checks_11, checks_15, checks_16, checks_6, checks_17, checks_0, not_12, answered_by, answered_late}
use Rattle.leapfrog_triejoin.specs.Outcome.{Joins}
use Rattle.leapfrog_triejoin.specs.declared.Joined.{Joined}
use Rattle.demand_3.proofs.Theorems.{demand_3}

-- what `join` answers, for any query, pool, tables and window
module _ {pool : List ℕ} {ts : Tables} {q : Query} {window : List ℕ} {r : Joined} {after : List ℕ} (y : Typed q) (j : Joins pool ts q window r after) where
  by_checks : (k : ℕ) → (k ≡ 0 → ⊥) → (k ≡ 12 → ⊥) → Exactly (r.number ≡ k) (join_number pool ts q (length window) ≡ k)
  unfolding outcome
  by_checks k f g = exactly_then (exactly_same j.number) (answered_by (join_number pool ts q (length window)) k window (listed pool ts q window) f g)

  -- "the order, n numbers long, isn't a permutation of 0 to n - 1, or n is over 8"
  pub number_8_exactly : Exactly (r.number ≡ 8) (Ordered q → ⊥)
  number_8_exactly = exactly_then (by_checks 8 (λ e. omega arith) (λ e. omega arith)) (checks_8 pool ts q (length window) y)

  -- "over 8 atoms or tables, or an atom names no table": neither as its table nor, laid over, as its maker's
  pub number_9_exactly : Exactly (r.number ≡ 9) (Ordered q × (Named ts.count q → ⊥))
  number_9_exactly = exactly_then (by_checks 9 (λ e. omega arith) (λ e. omega arith)) (checks_9 pool ts q (length window) y)

  -- "an atom's list isn't as long as its table's arity, holds a number from n up, or doesn't strictly follow the order"
  pub number_10_exactly : Exactly (r.number ≡ 10) (Ordered q × (Named ts.count q × (AllFollow ts q → ⊥)))
  number_10_exactly = exactly_then (by_checks 10 (λ e. omega arith) (λ e. omega arith)) (checks_10 pool ts q (length window) y)

  -- "some variable is in no atom"
  pub number_11_exactly : Exactly (r.number ≡ 11) (Ordered q × (Named ts.count q × (AllFollow ts q × (Covered q → ⊥))))
  number_11_exactly = exactly_then (by_checks 11 (λ e. omega arith) (λ e. omega arith)) (checks_11 pool ts q (length window) y)

  -- "some variable binds columns of both kinds"
  pub number_15_exactly : Exactly (r.number ≡ 15) (Ordered q × (Named ts.count q × (AllFollow ts q × (Covered q × (SameKinds ts q → ⊥)))))
  number_15_exactly = exactly_then (by_checks 15 (λ e. omega arith) (λ e. omega arith)) (checks_15 pool ts q (length window) y)

  -- "n is above 0 and the window length isn't a multiple of n"
  pub number_16_exactly : Exactly (r.number ≡ 16) (Ordered q × (Named ts.count q × (AllFollow ts q × (Covered q × (SameKinds ts q × (WholeRows q.n (length window) → ⊥))))))
  number_16_exactly = exactly_then (by_checks 16 (λ e. omega arith) (λ e. omega arith)) (checks_16 pool ts q (length window) y)

  -- "damaged table"; "only tables that atoms name are checked", both where it is laid over
  pub number_6_exactly : Exactly (r.number ≡ 6) (Ordered q × (Named ts.count q × (AllFollow ts q × (Covered q × (SameKinds ts q × (WholeRows q.n (length window) × (SoundTables pool ts q → ⊥)))))))
  number_6_exactly = exactly_then (by_checks 6 (λ e. omega arith) (λ e. omega arith)) (checks_6 pool ts q (length window) y)

  -- "lay one table over another of the same arity and kinds (else new 17, after 6 on either and before 12)"
  pub number_17_exactly : Exactly (r.number ≡ 17) (Ordered q × (Named ts.count q × (AllFollow ts q × (Covered q × (SameKinds ts q × (WholeRows q.n (length window) × (SoundTables pool ts q × (SameShapes ts q → ⊥))))))))
  number_17_exactly = exactly_then (by_checks 17 (λ e. omega arith) (λ e. omega arith)) (checks_17 pool ts q (length window) y)

  module _ {rows : List Row} (l : Listing q.n (order_of q) (atoms_of pool ts q) rows) where
    abbrev More : Type 0
    More = length window < length rows * q.n

    accepted : Passing pool ts q (length window) → Accepted pool ts q (length window)
    accepted p = record { passed = (checks_0 pool ts q (length window) y).1 p; whole = y.atoms }

    full : Passing pool ts q (length window) → Exactly (r.number ≡ 12) More
    full p =
        let d = demand_3 (accepted p) j in
        let e : d.rows ≡ rows = unique d.exactly l in
        subst (λ (rs : List Row). Exactly (r.number ≡ 12) (length window < length rs * q.n)) e d.full

    passing : (k : ℕ) → (k ≡ 0) ⊎ (k ≡ 12) → r.number ≡ k → Passing pool ts q (length window)
    unfolding outcome
    passing k w e =
        (checks_0 pool ts q (length window) y).0 (answered_late (join_number pool ts q (length window)) k window (listed pool ts q window) (not_12 pool ts q (length window) y) w (sym j.number ∙ e))

    -- "more rows exist than fit the window (full)": of the rows that the query means
    pub number_12_exactly : Exactly (r.number ≡ 12) (Passing pool ts q (length window) × (length window < length rows * q.n))
    number_12_exactly = (λ e. let p = passing 12 (inr refl) e in (p, (full p).0 e), λ t. (full t.0).1 t.1)

    -- and 0 exactly when nothing of this is so
    pub number_0_exactly : Exactly (r.number ≡ 0) (Passing pool ts q (length window) × (length window < length rows * q.n → ⊥))
    number_0_exactly = (
      λ e. let p = passing 0 (inl refl) e in (p, λ h. omega (arith, e, (full p).1 h)),
      λ t. (demand_3 (accepted t.0) j).not_full (λ e. t.1 ((full t.0).0 e)),
    )
