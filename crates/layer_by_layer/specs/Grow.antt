-- Internal: a layer with a key more.
use Rattle.std.specs.Prelude.{ℕ, suc, Bool, ◌∷◌, ◌++◌, map, take, drop}
use Rattle.relation.specs.Order.{pick}
use Rattle.relation.specs.Layers.{Layer}

-- a key more at place `at` of the data. Under a parent that was there, i, the later groups start one further on; a new parent i has a new interval,
-- which starts there
abbrev pub branched : ℕ → ℕ → ℕ → Layer → Layer
branched i at key l = record { keys = take at l.keys ++ key ∷ drop at l.keys; intervals = take (suc i) l.intervals ++ map suc (drop (suc i) l.intervals) }

abbrev pub sprouted : ℕ → ℕ → ℕ → Layer → Layer
sprouted i at key l = record { keys = take at l.keys ++ key ∷ drop at l.keys; intervals = take i l.intervals ++ at ∷ map suc (drop i l.intervals) }

abbrev pub grown : Bool → ℕ → ℕ → ℕ → Layer → Layer
grown fresh i at key l = pick fresh (sprouted i at key l) (branched i at key l)
