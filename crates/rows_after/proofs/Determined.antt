-- Any two outcomes that the contract allows are equal: its fields are equations.
use Prim.Native.Nat.{ℕ}
use mathlib.Core.Path.{◌≡◌, sym, ◌∙◌}
use mathlib.Core.Bool.{Bool}
use mathlib.Core.List.{List}
use Rattle.relation.specs.Order.{Row}
use Rattle.join_query.specs.declared.Query.{Query}
use Rattle.join_query.specs.declared.Tables.{Tables}
use Rattle.rows_after.specs.After.{JoinsAfter}
use Rattle.rows_after.specs.declared.JoinedAfter.{JoinedAfter}

same_joined : {a b : JoinedAfter} → a.number ≡ b.number → a.rows ≡ b.rows → a.last ≡ b.last → a ≡ b
same_joined p q l i = record { number = p i; rows = q i; last = l i }

module _ {pool : List ℕ} {ts : Tables} {q : Query} {goes_on : Bool} {given : Row} {window : List ℕ} {r₁ r₂ : JoinedAfter} {w₁ w₂ : List ℕ} (one : JoinsAfter pool ts q goes_on given window r₁ w₁) (two : JoinsAfter pool ts q goes_on given window r₂ w₂) where
  pub one_answer : r₁ ≡ r₂
  one_answer = same_joined (one.number ∙ sym two.number) (one.rows ∙ sym two.rows) (one.last ∙ sym two.last)

  pub one_window : w₁ ≡ w₂
  one_window = one.words ∙ sym two.words
