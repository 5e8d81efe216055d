-- Any two outcomes that the plain join's contract allows are equal: its fields are equations.
use Prim.Native.Nat.{ℕ}
use mathlib.Core.Path.{◌≡◌, sym, ◌∙◌}
use mathlib.Core.List.{List}
use Rattle.join_query.specs.declared.Query.{Query}
use Rattle.join_query.specs.declared.Tables.{Tables}
use Rattle.plain_join.specs.Outcome.{PlainJoins}
use Rattle.plain_join.specs.declared.PlainJoined.{PlainJoined}

same_joined : {a b : PlainJoined} → a.number ≡ b.number → a.rows ≡ b.rows → a ≡ b
same_joined p q i = record { number = p i; rows = q i }

module _ {pool : List ℕ} {ts : Tables} {q : Query} {window : List ℕ} {r₁ r₂ : PlainJoined} {w₁ w₂ : List ℕ} (one : PlainJoins pool ts q window r₁ w₁) (two : PlainJoins pool ts q window r₂ w₂) where
  pub one_answer : r₁ ≡ r₂
  one_answer = same_joined (one.number ∙ sym two.number) (one.rows ∙ sym two.rows)

  pub one_window : w₁ ≡ w₂
  one_window = one.words ∙ sym two.words
