-- Of theorems: what the verdict says, as facts: a row that is right, rows in sequence, and the least row that is missing.
use Rattle.std.specs.Prelude.{ℕ, suc, ◌<◌, ◌≡◌, List, [], length, get_or}
use Rattle.relation.specs.Order.{Row, ◌≺◌}
use Rattle.relation.specs.Lists.{◌∈◌, Ascends}
use Rattle.query.specs.Meaning.{part}

-- row a comes strictly before row b, as read in the order
abbrev pub Earlier : List ℕ → Row → Row → Type 0
Earlier order a b = part order a ≺ part order b

-- rows that ascend strictly, as read in the order
abbrev pub InOrder : List ℕ → List Row → Type 0
InOrder order rows = Ascends (Earlier order) rows

-- row i of those listed is one of all, and comes strictly after the one before it
pub record Right (order : List ℕ) (all rows : List Row) (i : ℕ) : Type 0 where
  pub among : get_or rows i [] ∈ all
  pub after : (j : ℕ) → suc j ≡ i → Earlier order (get_or rows j []) (get_or rows i [])

-- every row listed is
abbrev pub AllRight : List ℕ → List Row → List Row → Type 0
AllRight order all rows = (i : ℕ) → i < length rows → Right order all rows i

-- row i is the first that is not
pub record FirstWrong (order : List ℕ) (all rows : List Row) (i : ℕ) : Type 0 where
  pub inside : i < length rows
  pub wrong : Right order all rows i → ⊥
  pub before : (j : ℕ) → j < i → Right order all rows j

-- r is one of all and not listed, and none that comes before it is missing
pub record LeastMissing (order : List ℕ) (all rows : List Row) (r : Row) : Type 0 where
  pub among : r ∈ all
  pub missing : r ∈ rows → ⊥
  pub least : (s : Row) → s ∈ all → Earlier order s r → s ∈ rows
