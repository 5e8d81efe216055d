-- The contract of build determines its outcome: any two that it allows on the same arguments are equal.
use Prim.Native.Nat.{ℕ}
use mathlib.Core.Path.{◌≡◌, sym, ap, ap₂, ◌∙◌}
use mathlib.Core.Bool.{Bool}
use mathlib.Core.List.{List}
use Rattle.column_trie_build.specs.Build.{Builds}
use Rattle.from_sorted.specs.declared.Built.{Built}

-- an outcome: the answer, the rows' words and the pool's
pub record Outcome : Type 0 where
  pub answer : Built
  pub rows : List ℕ
  pub pool : List ℕ

abbrev pub Allowed : List ℕ → List ℕ → ℕ → ℕ → ℕ → List Bool → Outcome → Type 0
Allowed given lent start arity capacity kinds o = Builds given lent start arity capacity kinds o.rows o.pool o.answer

pub determined : (given lent : List ℕ) (start arity capacity : ℕ) (kinds : List Bool) (o q : Outcome) → Allowed given lent start arity capacity kinds o → Allowed given lent start arity capacity kinds q → o ≡ q
determined given lent start arity capacity kinds o q x y =
    ap (λ (a : Built). record { answer = a; rows = o.rows; pool = o.pool }) (x.answer ∙ sym y.answer)
    ∙ ap₂ (λ (r p : List ℕ). record { answer = q.answer; rows = r; pool = p }) (x.rows ∙ sym y.rows) (x.pool ∙ sym y.pool)
