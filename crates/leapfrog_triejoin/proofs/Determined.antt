-- Any two outcomes that the join's contract allows are equal: its fields are equations.
use Prim.Native.Nat.{ℕ}
use mathlib.Core.Path.{◌≡◌, sym, ◌∙◌}
use mathlib.Core.List.{List}
use Rattle.join_query.specs.declared.Query.{Query}
use Rattle.join_query.specs.declared.Tables.{Tables}
use Rattle.leapfrog_triejoin.specs.Outcome.{Joins}
use Rattle.leapfrog_triejoin.specs.declared.Joined.{Joined}

same_joined : {a b : Joined} → a.number ≡ b.number → a.rows ≡ b.rows → a.seeks ≡ b.seeks → a ≡ b
same_joined p q r i = record { number = p i; rows = q i; seeks = r i }

module _ {pool : List ℕ} {ts : Tables} {q : Query} {window : List ℕ} {r₁ r₂ : Joined} {w₁ w₂ : List ℕ} (one : Joins pool ts q window r₁ w₁) (two : Joins pool ts q window r₂ w₂) where
  pub one_answer : r₁ ≡ r₂
  one_answer = same_joined (one.number ∙ sym two.number) (one.rows ∙ sym two.rows) (one.seeks ∙ sym two.seeks)

  pub one_window : w₁ ≡ w₂
  one_window = one.words ∙ sym two.words
