-- "Prove that both give the same rows, numbers and window words on every input": of the two calls' contracts, for any pool, tables, query and window, refused ones included.
-- Idea: both contracts are equations with the query's outcome.
use Prim.Native.Nat.{ℕ}
use mathlib.Core.Path.{sym, ◌∙◌}
use mathlib.Core.List.{List}
use Rattle.join_query.specs.declared.Query.{Query}
use Rattle.join_query.specs.declared.Tables.{Tables}
use Rattle.leapfrog_triejoin.specs.Outcome.{Joins}
use Rattle.leapfrog_triejoin.specs.declared.Joined.{Joined}
use Rattle.plain_join.specs.Outcome.{PlainJoins}
use Rattle.plain_join.specs.declared.PlainJoined.{PlainJoined}
use Rattle.engines.specs.Agree.{Agree}

pub both_engines_agree : {pool : List ℕ} {ts : Tables} {q : Query} {window : List ℕ} {r : Joined} {after : List ℕ} {p : PlainJoined} {plainly_after : List ℕ} → Joins pool ts q window r after → PlainJoins pool ts q window p plainly_after → Agree r after p plainly_after
both_engines_agree j k = record { number = j.number ∙ sym k.number; rows = j.rows ∙ sym k.rows; words = j.words ∙ sym k.words }
