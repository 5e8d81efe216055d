-- The contract of read determines its outcome: any two that it allows on the same arguments are equal.
use Prim.Native.Nat.{ℕ}
use mathlib.Core.Path.{◌≡◌, sym, ap₂, ◌∙◌}
use mathlib.Core.List.{List}
use Rattle.from_sorted.specs.declared.Built.{Built}
use Rattle.file_read.specs.Read.{Reads}

-- an outcome: the answer, and the pool's words
pub record Outcome : Type 0 where
  pub answer : Built
  pub pool : List ℕ

abbrev pub Allowed : List ℕ → List ℕ → ℕ → ℕ → Outcome → Type 0
Allowed bytes lent start capacity o = Reads bytes lent start capacity o.pool o.answer

pub determined : (bytes lent : List ℕ) (start capacity : ℕ) (o q : Outcome) → Allowed bytes lent start capacity o → Allowed bytes lent start capacity q → o ≡ q
determined bytes lent start capacity o q x y = ap₂ (λ (a : Built) (p : List ℕ). record { answer = a; pool = p }) (x.answer ∙ sym y.answer) (x.pool ∙ sym y.pool)
