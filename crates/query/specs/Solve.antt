-- Public: the listing computed by descent. At each variable of the order the atoms whose list is headed by it take part. Of an atom there stands what is
-- left of its list, and the rows that begin with the words given so far, with these dropped.
use Rattle.std.specs.Prelude.{ℕ, Bool, false, length, set, take, drop, replicate, eqb}
use mathlib.Core.List.{List, [], ◌∷◌, map, flat_map}
use Rattle.relation.specs.Order.{Row, pick}
use Rattle.relation.specs.Layers.{under, keys_under}
use Rattle.query.specs.Meaning.{Atom}
use Rattle.query.specs.Meet.{meet}

-- the rows that begin with p, with p dropped
unfoldable pub beyond : Row → List Row → List Row
unfolding under
beyond p rows = map (drop (length p)) (under p rows)

-- what stands of an atom once its first variables have the words p
abbrev pub standing : Row → Atom → Atom
standing p a = record { vars = drop (length p) a.vars; rows = beyond p a.rows }

-- whether a list of variables is headed by v
unfoldable pub headed : ℕ → List ℕ → Bool
headed v [] = false
headed v (x ∷ xs) = eqb x v

-- an atom once v has the word k: it changes where it is headed by v
unfoldable pub bind : ℕ → ℕ → Atom → Atom
unfolding headed beyond
bind v k a = pick (headed v a.vars) (standing (k ∷ []) a) a

-- the keys of each atom that takes part at v, in atom order
unfoldable pub runs : ℕ → List Atom → List (List ℕ)
unfolding headed keys_under
runs v [] = []
runs v (a ∷ l) = pick (headed v a.vars) (keys_under [] a.rows ∷ runs v l) (runs v l)

-- the rows that complete `row`, whose first n words are the variables', by words for the variables vs, in the sequence found
unfoldable pub extend : ℕ → List ℕ → List Atom → Row → List Row
unfolding flat_map bind runs meet
extend n [] atoms row = take n row ∷ []
extend n (v ∷ vs) atoms row = flat_map (λ (k : ℕ). extend n vs (map (bind v k) atoms) (set row v k)) (meet (runs v atoms))

-- the whole listing
unfoldable pub listing : ℕ → List ℕ → List Atom → List Row
unfolding extend
listing n order atoms = extend n order atoms (replicate n 0)
