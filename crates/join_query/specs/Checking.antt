-- Internal: contracts of the checks' inner functions: what the checks compute on the way, and what one of them may rely on.
use Rattle.std.specs.Prelude.{ℕ, suc, ◌≤◌, ◌<◌, List, [], ◌∷◌, drop}
use Rattle.relation.specs.Order.{pick}
use Rattle.query.specs.Limits.{max_atoms}
use Rattle.query.specs.Solve.{headed}
use Rattle.column_trie.specs.Limits.{max_arity}
use Rattle.join_query.specs.Query.{atom_at}
use Rattle.join_query.specs.declared.Query.{Query}

-- how many of a list's variables the variables vs of an order give a word to: each in its turn, where it heads what is left of the list
unfoldable pub reached : List ℕ → List ℕ → ℕ
unfolding headed
reached [] xs = 0
reached (v ∷ vs) xs = pick (headed v xs) (suc (reached vs (drop 1 xs))) (reached vs xs)

-- what check 11 may rely on: no list is longer than its array
pub record Listed (q : Query) : Type 0 where
  pub few : q.atom_count ≤ max_atoms
  pub short : (i : ℕ) → i < q.atom_count → (atom_at q i).len ≤ max_arity
