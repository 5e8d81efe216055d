-- Internal: the rows that a plain engine finds, variable by variable. Nothing here speaks of runs that meet: one atom gives the keys to try, and an atom is looked at
-- again only when its last variable has a word.
use Rattle.std.specs.Prelude.{ℕ, suc, Bool, true, length, set, take, get_or, eqb, ltb}
use mathlib.Core.List.{List, [], ◌∷◌, flat_map}
use Rattle.relation.specs.Order.{Row, pick}
use Rattle.relation.specs.Layers.{keys_under}
use Rattle.relation.specs.Tests.{every}
use Rattle.query.specs.Meaning.{Atom, part}
use Rattle.query.specs.Meet.{has}
use Rattle.query.specs.Descend.{nobody}

-- how many variables of a list stand before v; its length, where v is not one of them
unfoldable pub column : ℕ → List ℕ → ℕ
column v [] = 0
column v (x ∷ xs) = pick (eqb x v) 0 (suc (column v xs))

-- the number of the first atom that holds v
unfoldable pub holder : ℕ → List Atom → ℕ
unfolding column
holder v [] = 0
holder v (a ∷ l) = pick (ltb (column v a.vars) (length a.vars)) 0 (suc (holder v l))

-- the keys that follow, in an atom's rows, the words that `row` has for its variables before v
unfoldable pub keys_at : ℕ → Row → Atom → List ℕ
unfolding column keys_under
keys_at v row a = keys_under (take (column v a.vars) (part a.vars row)) a.rows

-- the keys to try for v: those of the first atom that holds it
unfoldable pub tried : ℕ → Row → List Atom → List ℕ
unfolding holder keys_at
tried v row atoms = keys_at v row (get_or atoms (holder v atoms) nobody)

-- an atom whose last variable is v is complete: its last word is one of the keys that follow the others, so that its part is one of its rows
unfoldable pub holds : ℕ → Row → Atom → Bool
unfolding column keys_at has
holds v row a = pick (eqb (suc (column v a.vars)) (length a.vars)) (has (keys_at v row a) (get_or row v 0)) true

-- every atom that is complete with v
unfoldable pub all_hold : ℕ → Row → List Atom → Bool
unfolding holds every
all_hold v row atoms = every (length atoms) (λ (i : ℕ). holds v row (get_or atoms i nobody))

-- the rows that complete `row` by words for the variables vs, in the sequence found
unfoldable pub plainly : ℕ → List ℕ → List Atom → Row → List Row
unfolding flat_map tried all_hold
plainly n [] atoms row = take n row ∷ []
plainly n (v ∷ vs) atoms row = flat_map (λ (k : ℕ). pick (all_hold v (set row v k) atoms) (plainly n vs atoms (set row v k)) []) (tried v row atoms)
