-- Public: words in the pool: a list laid over it, a table's layers stored in it, and layers read from it.
use Rattle.std.specs.Prelude.{ℕ, zero, suc, ◌+◌, List, [], ◌∷◌, take, drop}
use Rattle.std.proofs.lemmas.List.Edits.{sets}
use Rattle.relation.specs.Layers.{Layer}

-- the pool with the words xs laid over it from `at` on
unfoldable pub lay : List ℕ → ℕ → List ℕ → List ℕ
lay pool at xs = sets pool at xs

-- each layer has c words for its keys, then c words for its intervals
unfoldable pub store : ℕ → ℕ → List Layer → List ℕ → List ℕ
unfolding lay
store at c [] pool = pool
store at c (l ∷ ls) pool = store (at + c + c) c ls (lay (lay pool at l.keys) (at + c) l.intervals)

-- where layer d's keys start
unfoldable pub spot : ℕ → ℕ → ℕ → ℕ
spot at c zero = at
spot at c (suc d) = spot (at + c + c) c d

-- the layers whose lengths are ks and is, read from the pool
unfoldable pub reads : ℕ → ℕ → List ℕ → List ℕ → List ℕ → List Layer
reads at c [] ns pool = []
reads at c (k ∷ ks) [] pool = []
reads at c (k ∷ ks) (n ∷ ns) pool = record { keys = take k (drop at pool); intervals = take n (drop (at + c) pool) } ∷ reads (at + c + c) c ks ns pool
