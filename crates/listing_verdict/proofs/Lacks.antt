-- The first row of all that is not listed: it is the least one missing, and there is none exactly where all are listed.
use Prim.Native.Nat.{ℕ, zero, suc, ◌<◌}
use native.Mathlib.Omega.{arith}
use mathlib.Core.Path.{◌≡◌, refl, sym, ap, subst, ◌∙◌}
use mathlib.Core.Logic.{⊎_elim}
use mathlib.Core.Bool.{Bool, true, false}
use mathlib.Core.List.{List, [], ◌∷◌}
use lib.ListN.{length, get_or}
use Rattle.relation.specs.Order.{Row, pick}
use Rattle.relation.specs.Lists.{◌∈◌, hd, tl, not_in_nil, in_cons, amore}
use Rattle.relation.specs.Rows.{same}
use Rattle.relation.proofs.Order.{irrefl, asym}
use Rattle.query.specs.Checks.{some}
use Rattle.listing_verdict.specs.Verdict.{accepted, wrong, missing, lacks}
use Rattle.listing_verdict.specs.Facts.{Earlier, InOrder, LeastMissing}
use Rattle.listing_verdict.proofs.Fails.{among_in, in_among, not_among, among_not}

-- verdicts are told apart by their constructors
pub not_wrong : {i : ℕ} → accepted ≡ wrong i → ⊥
not_wrong e = let z : ◌≡◌ {A = ℕ} 0 1 = cc in omega arith

pub not_missing : {r : Row} → accepted ≡ missing r → ⊥
not_missing e = let z : ◌≡◌ {A = ℕ} 0 1 = cc in omega arith

pub wrong_not_missing : {i : ℕ} {r : Row} → wrong i ≡ missing r → ⊥
wrong_not_missing e = let z : ◌≡◌ {A = ℕ} 0 1 = cc in omega arith

pub same_missing : {r s : Row} → missing r ≡ missing s → r ≡ s
same_missing e = cc

pub same_wrong : {i j : ℕ} → wrong i ≡ wrong j → i ≡ j
same_wrong e = cc

-- of a verdict that is accepted, or a missing row
pub lacks_never_wrong : (rows all : List Row) {i : ℕ} → lacks rows all ≡ wrong i → ⊥
unfolding lacks
lacks_never_wrong rows [] e = not_wrong e
lacks_never_wrong rows (r ∷ all) {i} e = go (lacks_never_wrong rows all) (some (same r) rows) e
  where
    go : (lacks rows all ≡ wrong i → ⊥) → (b : Bool) → pick b (lacks rows all) (missing r) ≡ wrong i → ⊥
    go ih true e = ih e
    go ih false e = wrong_not_missing (sym e)

-- ---- all are listed

pub lacks_none : (rows all : List Row) → ((r : Row) → r ∈ all → r ∈ rows) → lacks rows all ≡ accepted
unfolding lacks
lacks_none rows [] f = refl
lacks_none rows (r ∷ all) f = ap (λ (b : Bool). pick b (lacks rows all) (missing r)) (in_among (f r (hd refl))) ∙ lacks_none rows all (λ s m. f s (tl m))

pub none_lacking : (rows all : List Row) → lacks rows all ≡ accepted → (r : Row) → r ∈ all → r ∈ rows
unfolding lacks
none_lacking rows [] e r m = absurd (not_in_nil m)
none_lacking rows (s ∷ all) e r m = go (none_lacking rows all) (some (same s) rows) refl e
  where
    go : (lacks rows all ≡ accepted → (r : Row) → r ∈ all → r ∈ rows) → (b : Bool) → some (same s) rows ≡ b → pick b (lacks rows all) (missing s) ≡ accepted → r ∈ rows
    go ih true t e = ⊎_elim {C = r ∈ rows} (λ (d : r ≡ s). rw d (among_in s rows t)) (λ (i : r ∈ all). ih e r i) (in_cons m)
    go ih false t e = absurd (not_missing (sym e))

-- ---- one is missing

-- the first of them is named
pub lacks_at : (rows all : List Row) (i : ℕ) → i < length all → (get_or all i [] ∈ rows → ⊥) → ((j : ℕ) → j < i → get_or all j [] ∈ rows) → lacks rows all ≡ missing (get_or all i [])
unfolding lacks
lacks_at rows [] i h f g = absurd (omega arith)
lacks_at rows (r ∷ all) zero h f g = ap (λ (b : Bool). pick b (lacks rows all) (missing r)) (not_among r rows f)
lacks_at rows (r ∷ all) (suc i) h f g = ap (λ (b : Bool). pick b (lacks rows all) (missing r)) (in_among (g 0 (omega arith))) ∙ lacks_at rows all i (omega arith) f (λ j k. g (suc j) (omega arith))

-- what is named is the least
pub lacking_least : (order : List ℕ) (rows : List Row) {all : List Row} → InOrder order all → {r : Row} → lacks rows all ≡ missing r → LeastMissing order all rows r
unfolding lacks
lacking_least order rows {all = []} s e = absurd (not_missing e)
lacking_least order rows {all = x ∷ all} (amore f s) {r = r} e = go (λ d. lacking_least order rows s d) (some (same x) rows) refl e
  where
    go : (lacks rows all ≡ missing r → LeastMissing order all rows r) → (b : Bool) → some (same x) rows ≡ b → pick b (lacks rows all) (missing x) ≡ missing r → LeastMissing order (x ∷ all) rows r
    go ih true t e =
        let l = ih e in
        record {
          among = tl l.among;
          missing = l.missing;
          least = λ q m h. ⊎_elim {C = q ∈ rows} (λ (d : q ≡ x). rw d (among_in x rows t)) (λ (i : q ∈ all). l.least q i h) (in_cons m);
        }
    go ih false t e =
        let d : r ≡ x = sym (same_missing e) in
        record {
          among = hd d;
          missing = λ m. among_not t (subst (λ (q : Row). q ∈ rows) d m);
          least = λ q m h.
              ⊎_elim {C = q ∈ rows}
              (λ (c : q ≡ x). absurd (irrefl (subst (λ (y : Row). Earlier order q y) (d ∙ sym c) h)))
              (λ (i : q ∈ all). absurd (asym (f q i) (subst (λ (y : Row). Earlier order q y) d h)))
              (in_cons m);
        }
