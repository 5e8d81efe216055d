-- `file_check::ends` meets its contract.
use mathlib.Core.Bool.{Bool}
use mathlib.Core.Path.{◌≡◌, ap₂, ◌∙◌}
use mathlib.Core.List.{List, [], ◌∷◌}
use lib.Pointwise.{pointwise}
use lib.Seq.{take-length}
use Prim.Native.Nat.{ℕ}
use Rattle.std.specs.Prelude.{nat_eq}
use Rattle.file_check.proofs.Same.{ended}
use Rattle.file_check.proofs.ends.Goals as goal

-- the bytes that the code compares are all that are left
compared : (x rest : List ℕ) {tag : ℕ} {r : Bool} → x ≡ rest → tag ≡ 3 → r ≡ pointwise nat_eq x (tag ∷ (0 ∷ (0 ∷ []))) → r ≡ pointwise nat_eq rest (3 ∷ (0 ∷ (0 ∷ [])))
compared x rest e t h = h ∙ ap₂ (λ (l : List ℕ) (k : ℕ). pointwise nat_eq l (k ∷ (0 ∷ (0 ∷ [])))) e t

pub returns : goal.returns
returns c = compared _ c.args.rest.now (let whole = take-length c.args.rest.now in cc) c.byte.ensures c.eq.ensures ∙ ended c.args.rest.now
