-- Public: the layers of a relation: at each depth the keys under each beginning, group by group, and where each group starts.
use Rattle.std.specs.Prelude.{ℕ, zero, suc, ◌+◌, List, [], ◌∷◌, ◌++◌, map, length, take, get_or}
use Rattle.relation.specs.Order.{Row, pick}
use Rattle.relation.specs.Rows.{same, as_set}

pub record Layer : Type 0 where
  pub keys : List ℕ
  pub intervals : List ℕ

abbrev pub no_layer : Layer
no_layer = record { keys = []; intervals = [] }

abbrev pub layer : List Layer → ℕ → Layer
layer ls d = get_or ls d no_layer

-- the different beginnings of d words, ascending
unfoldable pub prefixes : ℕ → List Row → List Row
unfolding as_set
prefixes d rows = as_set (map (take d) rows)

-- the rows that begin with p, one that is p itself among them
unfoldable pub under : Row → List Row → List Row
unfolding same
under p [] = []
under p (q ∷ qs) = pick (same p (take (length p) q)) (q ∷ under p qs) (under p qs)

-- the keys that follow p in rows: its children, ascending
unfoldable pub keys_under : Row → List Row → List ℕ
unfolding under prefixes
keys_under p rows = map (λ q. get_or q (length p) 0) (under p (prefixes (suc (length p)) rows))

-- the groups of depth d: the keys under each beginning of d words
unfoldable pub groups_at : ℕ → List Row → List (List ℕ)
unfolding prefixes keys_under
groups_at d rows = map (λ p. keys_under p rows) (prefixes d rows)

unfoldable pub joined : List (List ℕ) → List ℕ
joined [] = []
joined (g ∷ gs) = g ++ joined gs

-- where each group starts, the first at `at`
unfoldable pub starts : ℕ → List (List ℕ) → List ℕ
starts at [] = []
starts at (g ∷ gs) = at ∷ starts (at + length g) gs

-- layer d of the rows: the keys under each beginning of d words, one group behind the other, and where each group starts
unfoldable pub layer_at : ℕ → List Row → Layer
unfolding groups_at joined starts
layer_at d rows = record { keys = joined (groups_at d rows); intervals = starts 0 (groups_at d rows) }

unfoldable pub layers_from : ℕ → ℕ → List Row → List Layer
unfolding layer_at
layers_from d zero rows = []
layers_from d (suc n) rows = layer_at d rows ∷ layers_from (suc d) n rows

-- the layers of rows of a words
abbrev pub layers_of : ℕ → List Row → List Layer
layers_of a rows = layers_from 0 a rows
