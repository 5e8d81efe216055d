-- A query that passes the checks with some window passes them with one of no words: only one check looks at the window, and that is some number of rows long.
use Prim.Native.Nat.{ℕ}
use mathlib.Core.Path.{◌≡◌, refl, sym, ap, ◌∙◌}
use mathlib.Core.Bool.{Bool, true, false, ◌||◌}
use mathlib.Core.List.{List}
use lib.Dec.{eqb}
use Rattle.std.proofs.Math.Nat.{zero-mod}
use Rattle.join_query.specs.Query.{whole_rows, Accepted}
use Rattle.join_query.specs.declared.Query.{Query}
use Rattle.join_query.specs.declared.Tables.{Tables}
use Rattle.join_query.proofs.Lists.{passed_all, number_0}
use Rattle.plain_atoms.specs.Atoms.{Passed}

no_words : (n : ℕ) → whole_rows n 0 ≡ true
no_words n = ap (λ (m : ℕ). eqb n 0 || eqb m 0) (zero-mod n) ∙ go (eqb n 0)
  where
    go : (b : Bool) → (b || true) ≡ true
    go true = refl
    go false = refl

pub any_window : {pool : List ℕ} {ts : Tables} {q : Query} {len : ℕ} → Accepted pool ts q len → Passed pool ts q
any_window {pool} {ts} {q} {len} z =
    let p = passed_all pool ts q len z.passed in
    record { accepted = record { passed = sym (number_0 pool ts q 0 p.order p.names p.lists p.covered p.kinds (no_words q.n) p.sound p.shapes); whole = z.whole } }
