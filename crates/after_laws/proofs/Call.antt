-- One call, in document 02's words, from its contract alone: a start, one that goes on, a refusal, a window without room, no variables, and when each number is given.
use Prim.Native.Nat.{ℕ, zero, suc, ◌*◌, ◌/◌, ◌<◌}
use native.Mathlib.Omega.{arith}
use native.Mathlib.Nat.{div-lt_iff_lt-mul, zero-mul, suc-mul}
use mathlib.Core.Path.{◌≡◌, refl, sym, subst, ap, ◌∙◌}
use mathlib.Core.Logic.{inl, inr}
use mathlib.Core.Bool.{Bool, true, false}
use mathlib.Core.List.{List, [], ◌++◌}
use lib.ListN.{length, take, drop}
use Rattle.relation.specs.Order.{Row, pick}
use Rattle.relation.specs.Rows.{flat}
use Rattle.relation.specs.Exactly.{Exactly}
use Rattle.relation.proofs.Sequence.{exactly_then, exactly_same}
use Rattle.query.specs.Meaning.{Atom}
use Rattle.query.specs.Solve.{listing}
use Rattle.query.specs.Window.{Progress, fit, windowed}
use Rattle.query.specs.Outcome.{Comes, refused}
use Rattle.query.proofs.Listed.{listing_listing}
use Rattle.query.proofs.Window.{full_exactly}
use Rattle.join_query.specs.Query.{order_of, atoms_of, join_number, Accepted}
use Rattle.join_query.specs.Facts.{Typed, Passing}
use Rattle.join_query.specs.declared.Query.{Query}
use Rattle.join_query.specs.declared.Tables.{Tables}
use Rattle.join_query.proofs.Accepted.{passes}
use Rattle.join_query.proofs.Exactly.{checks_0, answered_by}
use Rattle.rows_after.specs.After.{after_row, asked, rows_asked, listed_after, last_of, stood_at, padded, outcome_after, JoinsAfter}
use Rattle.rows_after.specs.declared.JoinedAfter.{JoinedAfter}
use Rattle.rows_after.proofs.After.{in_after, after_in}
use Rattle.rows_after.proofs.Outcome.{outcome_refused, last_refused}
use Rattle.after_laws.specs.Call.{Lists, GoesOn, Starts, Refused, NoRoom, NoWords}
use Rattle.after_laws.proofs.Asked.{asked_wide, asked_ascends}
use Rattle.after_laws.proofs.Accepted.{accepted_late, number_is, rows_is, words_is, last_is, last_some, last_stood, full_12}

-- ---- a call that a check refuses

pub refused_gives_zeros : {pool : List ℕ} {ts : Tables} {q : Query} {goes_on : Bool} {given window : List ℕ} {r : JoinedAfter} {after : List ℕ} (number : ℕ) → join_number pool ts q (length window) ≡ suc number → JoinsAfter pool ts q goes_on given window r after → Refused (suc number) window r after
unfolding refused
refused_gives_zeros {pool} {ts} {q} {goes_on} {given} {window} number e j =
    let o = outcome_refused pool ts q goes_on given window e in
    record {
      says = j.number ∙ ap (λ (c : Comes). c.number) o;
      no_rows = j.rows ∙ ap (λ (c : Comes). c.rows) o;
      untouched = j.words ∙ ap (λ (c : Comes). c.words) o;
      zeros = j.last ∙ last_refused pool ts q goes_on given window e;
    }

-- ---- an accepted one

-- fewer than n words hold no row
fit_none : (n l c : ℕ) → l < n → fit n l c ≡ 0
unfolding fit
fit_none zero l c h = absurd (omega arith)
fit_none (suc n) l c h =
    let p : 0 < suc n = omega arith in
    let g : l / suc n < 1 = (div-lt_iff_lt-mul p).1 (omega arith) in
    omega arith

module _ {pool : List ℕ} {ts : Tables} {q : Query} {goes_on : Bool} {given window : List ℕ} {r : JoinedAfter} {after : List ℕ} (a : Accepted pool ts q (length window)) (j : JoinsAfter pool ts q goes_on given window r after) where
  abbrev rows : List Row
  rows = rows_asked pool ts q goes_on given

  pub lists : Lists q.n (rows_asked pool ts q goes_on given) window r after
  unfolding windowed
  lists =
      let f = full_exactly window q.n rows in
      record {
        first = rows_is j a;
        receives = words_is j a ∙ ap (λ (m : ℕ). flat (take m rows) ++ drop (m * q.n) window) (sym (rows_is j a));
        full = (λ e. f.0 (full_12 j a e), λ h. number_is j a ∙ ap (λ (b : Bool). pick b 12 0) (f.1 h));
        not_full = λ n. number_is j a ∙ zero_else (listed_after pool ts q goes_on given window).full (λ e. n (number_is j a ∙ e));
        last = last_some j a;
      }
    where
      zero_else : (b : Bool) → (◌≡◌ {A = ℕ} (pick b 12 0) 12 → ⊥) → ◌≡◌ {A = ℕ} (pick b 12 0) 0
      zero_else true n = absurd (n refl)
      zero_else false n = refl

  -- no room for a row
  pub no_room : length window < q.n → NoRoom (rows_asked pool ts q goes_on given) (stood_at q.n goes_on given) window r after
  unfolding flat
  no_room h =
      let none : r.rows ≡ 0 = lists.first ∙ fit_none q.n (length window) (length rows) h in
      record {
        twelve = (λ e. some (length rows) (lists.full.0 e), λ p. lists.full.1 (more (length rows) p));
        else_zero = lists.not_full;
        no_rows = none;
        untouched = lists.receives ∙ ap (λ (m : ℕ). flat (take m rows) ++ drop (m * q.n) window) none ∙ ap (λ (m : ℕ). drop m window) (zero-mul q.n);
        stays = last_stood j a none;
      }
    where
      some : (c : ℕ) → length window < c * q.n → 0 < c
      some zero e = absurd (omega (arith, zero-mul q.n))
      some (suc c) e = omega arith

      more : (c : ℕ) → 0 < c → length window < c * q.n
      more zero p = absurd (omega arith)
      more (suc c) p = omega (arith, suc-mul c q.n)

-- ---- a start, and a call that goes on

pub starts : {pool : List ℕ} {ts : Tables} {q : Query} {given window : List ℕ} {r : JoinedAfter} {after : List ℕ} → Accepted pool ts q (length window) → JoinsAfter pool ts q false given window r after → Starts pool ts q window r after
starts {pool} {ts} {q} a j = record {
  rows = listing q.n (order_of q) (atoms_of pool ts q);
  exactly = listing_listing (passes a);
  lists = lists a j;
  none = last_stood j a;
}

pub goes_on : {pool : List ℕ} {ts : Tables} {q : Query} {given window : List ℕ} {r : JoinedAfter} {after : List ℕ} → Accepted pool ts q (length window) → JoinsAfter pool ts q true given window r after → GoesOn pool ts q given window r after
goes_on {pool} {ts} {q} {given} {window} a j =
    let answers = listing q.n (order_of q) (atoms_of pool ts q) in
    let all = listing_listing (passes a) in
    record {
      rows = rows_asked pool ts q true given;
      exactly = record {
        wide = asked_wide a given true;
        sound = λ v m. all.sound v (in_after (order_of q) given answers m).0;
        later = λ v m. (in_after (order_of q) given answers m).1;
        complete = λ v e f h. after_in (order_of q) given (all.complete v e f) h;
        ascending = asked_ascends a given true;
      };
      lists = lists a j;
      none = last_stood j a;
    }

-- ---- no variables: one row at a start, the empty one, and none going on

no_words : (window : List ℕ) (given : Row) (b : Bool) (atoms : List Atom) → windowed window 0 (asked [] b given (listing 0 [] atoms)) ≡ record { words = window; count = pick b 0 1; full = false }
unfolding windowed listing fit flat after_row
no_words window given true atoms = refl
no_words window given false atoms = refl

empty_last : (given : Row) (b : Bool) (m : ℕ) (atoms : List Atom) → padded (last_of (stood_at 0 b given) (take m (asked [] b given (listing 0 [] atoms)))) ≡ padded []
unfolding listing after_row last_of
empty_last given true zero atoms = refl
empty_last given true (suc m) atoms = refl
empty_last given false zero atoms = refl
empty_last given false (suc m) atoms = go m
  where
    go : (m : ℕ) → padded (last_of [] (take m [])) ≡ padded []
    go zero = refl
    go (suc m) = refl

pub no_variables : {pool : List ℕ} {ts : Tables} {q : Query} {goes_on : Bool} {given window : List ℕ} {r : JoinedAfter} {after : List ℕ} → q.n ≡ 0 → Accepted pool ts q (length window) → JoinsAfter pool ts q goes_on given window r after → NoWords (pick goes_on 0 1) window r after
no_variables {pool} {ts} {q} {goes_on} {given} {window} z a j =
    let atoms = atoms_of pool ts q in
    let s : listed_after pool ts q goes_on given window ≡ record { words = window; count = pick goes_on 0 1; full = false } =
    subst (λ (m : ℕ). windowed window m (asked (take m q.order) goes_on given (listing m (take m q.order) atoms)) ≡ record { words = window; count = pick goes_on 0 1; full = false }) (sym z) (no_words window given goes_on atoms) in
    let l : padded (last_of (stood_at q.n goes_on given) (take (listed_after pool ts q goes_on given window).count (rows_asked pool ts q goes_on given))) ≡ padded [] =
    subst (λ (m : ℕ). padded (last_of (stood_at m goes_on given) (take (listed_after pool ts q goes_on given window).count (asked (take m q.order) goes_on given (listing m (take m q.order) atoms)))) ≡ padded []) (sym z)
    (empty_last given goes_on (listed_after pool ts q goes_on given window).count atoms) in
    record {
      not_refused = number_is j a ∙ ap (λ (p : Progress). pick p.full 12 0) s;
      count = rows_is j a ∙ ap (λ (p : Progress). p.count) s;
      untouched = words_is j a ∙ ap (λ (p : Progress). p.words) s;
      zeros = last_is j a ∙ l;
    }

-- ---- when each number is given

module _ {pool : List ℕ} {ts : Tables} {q : Query} {goes_on : Bool} {given window : List ℕ} {r : JoinedAfter} {after : List ℕ} (y : Typed q) (j : JoinsAfter pool ts q goes_on given window r after) where
  -- one but 0 and 12: when the join's checks give it, so when documents 01 and 02 say (crates/join_query, proofs/Exactly.antt)
  pub number_by_checks : (k : ℕ) → (k ≡ 0 → ⊥) → (k ≡ 12 → ⊥) → Exactly (r.number ≡ k) (join_number pool ts q (length window) ≡ k)
  unfolding outcome_after
  number_by_checks k f g = exactly_then (exactly_same j.number) (answered_by (join_number pool ts q (length window)) k window (listed_after pool ts q goes_on given window) f g)

  accepted : Passing pool ts q (length window) → Accepted pool ts q (length window)
  accepted p = record { passed = (checks_0 pool ts q (length window) y).1 p; whole = y.atoms }

  passing : Accepted pool ts q (length window) → Passing pool ts q (length window)
  passing a = (checks_0 pool ts q (length window) y).0 a.passed

  -- 12: more of the rows that the call lists exist than fit
  pub number_12_exactly : Exactly (r.number ≡ 12) (Passing pool ts q (length window) × (length window < length (rows_asked pool ts q goes_on given) * q.n))
  number_12_exactly = (
    λ e. let a = accepted_late j y 12 (inr refl) e in (passing a, (lists a j).full.0 e),
    λ t. (lists (accepted t.0) j).full.1 t.1,
  )

  -- and 0 exactly when nothing of this is so
  pub number_0_exactly : Exactly (r.number ≡ 0) (Passing pool ts q (length window) × (length window < length (rows_asked pool ts q goes_on given) * q.n → ⊥))
  number_0_exactly = (
    λ e. let a = accepted_late j y 0 (inl refl) e in (passing a, λ h. omega (arith, e, (lists a j).full.1 h)),
    λ t. let l = lists (accepted t.0) j in l.not_full (λ e. t.1 (l.full.0 e)),
  )
