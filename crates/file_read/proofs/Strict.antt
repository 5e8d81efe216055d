-- Rows that ascend strictly differ in a column, so that each is appended.
use Prim.Native.Nat.{ℕ, zero, suc, ◌-◌, ◌≤◌, ◌<◌}
use mathlib.Core.Path.{◌≡◌, refl, sym, ◌∙◌, subst}
use mathlib.Core.Bool.{Bool, true, false}
use mathlib.Core.List.{List, []}
use native.Mathlib.Omega.{arith}
use lib.ListN.{length, get_or}
use lib.Dec.{leb}
use lib.Seq.{take_all}
use borrow.Author.Tests.{leb-true, leb-false}
use Rattle.relation.specs.Order.{Row, ◌≺◌}
use Rattle.relation.specs.Rows.{Asc, Width}
use Rattle.relation.proofs.Lists.{get_or_in}
use Rattle.relation.proofs.Order.{shared, shared_take, irrefl}
use Rattle.table_file.proofs.Laws.{neighbours_asc}

apart : {a : ℕ} {q r : Row} → length q ≡ a → length r ≡ a → q ≺ r → shared q r < a
apart {a} {q} {r} l m u = go (leb a (shared q r)) refl
  where
    same : a ≤ shared q r → q ≡ r
    same h = sym (take_all a q (omega arith)) ∙ shared_take q r a h ∙ take_all a r (omega arith)

    go : (b : Bool) → leb a (shared q r) ≡ b → shared q r < a
    go true e = absurd (irrefl (subst (λ (z : Row). z ≺ r) (same (leb-true a (shared q r) e)) u))
    go false e = leb-false a (shared q r) e

pub neighbours_differ : {a : ℕ} {rows : List Row} → Asc rows → Width a rows → (i : ℕ) → 0 < i → i < length rows → shared (get_or rows (i - 1) []) (get_or rows i []) < a
neighbours_differ s w zero p h = absurd (omega arith)
neighbours_differ {rows = rows} s w (suc i) p h =
    let e : suc i - 1 ≡ i = omega arith in
    rw e (apart (w (get_or rows i []) (get_or_in rows i [] (omega arith))) (w (get_or rows (suc i) []) (get_or_in rows (suc i) [] h)) (neighbours_asc s i h))
