-- A query has one listing, and it lists each row once. Idea: an ascending list is determined by its members, and a listing's are the answers.
use Prim.Native.Nat.{ℕ}
use mathlib.Core.Path.{◌≡◌}
use mathlib.Core.List.{List}
use Rattle.relation.specs.Order.{Row, ◌≺◌}
use Rattle.relation.specs.Lists.{Ascends, anone, amore}
use Rattle.relation.proofs.Lists.{same_members}
use Rattle.relation.proofs.Order.{asym, irrefl}
use Rattle.query.specs.Meaning.{Atom, part, Listing}

pub unique : {n : ℕ} {order : List ℕ} {atoms : List Atom} {l m : List Row} → Listing n order atoms l → Listing n order atoms m → l ≡ m
unique p q =
    same_members (λ a b. asym) p.ascending q.ascending
    (λ v i. q.complete v (p.wide v i) (p.sound v i))
    (λ v i. p.complete v (q.wide v i) (q.sound v i))

-- "each once"
pub once : {n : ℕ} {order : List ℕ} {atoms : List Atom} {rows : List Row} → Listing n order atoms rows → Ascends (λ (r s : Row). r ≡ s → ⊥) rows
once {order = order} p = apart p.ascending
  where
    apart : {rows : List Row} → Ascends (λ (r s : Row). part order r ≺ part order s) rows → Ascends (λ (r s : Row). r ≡ s → ⊥) rows
    apart anone = anone
    apart (amore {r = r} f s) = amore (λ q m e. irrefl (rw (← e) at (f q m))) (apart s)
