-- Public: the checks of a query as computed tests, for refusals 8, 10 and 11. They look at the query's numbers alone, so each can be made before a table is read.
use Rattle.std.specs.Prelude.{ℕ, zero, suc, Bool, true, false, ◌&&◌, ◌||◌, not, List, [], ◌∷◌, length, eqb, ltb}
use Rattle.query.specs.Meaning.{follows}
use Rattle.query.specs.Meet.{has}

module _ {A : Type 0} (p : A → Bool) where
  -- every element passes the test
  unfoldable pub every : List A → Bool
  every [] = true
  every (x ∷ xs) = p x && every xs

  -- some element does
  unfoldable pub some : List A → Bool
  some [] = false
  some (x ∷ xs) = p x || some xs

-- no number stands twice
unfoldable pub single : List ℕ → Bool
unfolding has
single [] = true
single (x ∷ xs) = not (has xs x) && single xs

-- not 8: the order, n numbers long, is a permutation of 0 to n - 1
unfoldable pub permutes : ℕ → List ℕ → Bool
unfolding every single
permutes n order = eqb (length order) n && (every (λ (x : ℕ). ltb x n) order && single order)

-- not 10, of one atom: its list is as long as its table's arity, holds no number from n up, and strictly follows the order
unfoldable pub listed : ℕ → List ℕ → ℕ → List ℕ → Bool
unfolding every follows
listed n order arity vars = eqb (length vars) arity && (every (λ (x : ℕ). ltb x n) vars && follows order vars)

-- not 11: each of the variables 0 to n - 1 is in some atom's list
unfoldable pub covers : ℕ → List (List ℕ) → Bool
unfolding some has
covers zero lists = true
covers (suc n) lists = some (λ (l : List ℕ). has l n) lists && covers n lists
