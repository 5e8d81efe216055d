-- Of theorems: what the checker's answer says, in the words of demand 3 and of request 13.
use Rattle.std.specs.Prelude.{ℕ, suc, ◌*◌, ◌≡◌, List, [], length, get_or, take}
use Rattle.relation.specs.Order.{Row}
use Rattle.query.specs.Meaning.{Atom, Answer}
use Rattle.listing_verdict.specs.Facts.{Earlier}

-- a row of n words whose part for each atom is a stored row
pub record IsAnswer (n : ℕ) (atoms : List Atom) (v : Row) : Type 0 where
  pub wide : length v ≡ n
  pub stored : Answer atoms v

-- row i of those listed is an answer, and comes strictly after the row before it
pub record Fine (n : ℕ) (order : List ℕ) (atoms : List Atom) (rows : List Row) (i : ℕ) : Type 0 where
  pub answer : IsAnswer n atoms (get_or rows i [])
  pub after : (j : ℕ) → suc j ≡ i → Earlier order (get_or rows j []) (get_or rows i [])

-- the words that the first rows of n words take in a window
abbrev pub recorded : ℕ → ℕ → List ℕ → List ℕ
recorded n rows window = take (rows * n) window
