-- Internal: how often a layer's keys fall.
use Rattle.std.specs.Prelude.{ℕ, zero, suc, ◌+◌, List, get_or, leb}
use Rattle.relation.specs.Order.{pick}

-- 1 where the key behind place j isn't above the key at it, else 0
abbrev pub fall_at : List ℕ → ℕ → ℕ
fall_at keys j = pick (leb (get_or keys (suc j) 0) (get_or keys j 0)) 1 0

-- behind how many of the first n places it is so
unfoldable pub falls_in : List ℕ → ℕ → ℕ
falls_in keys zero = 0
falls_in keys (suc n) = falls_in keys n + fall_at keys n
