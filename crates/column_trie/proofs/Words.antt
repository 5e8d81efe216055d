-- A word of a part of the pool, and the layer that stands at a depth of a table which holds a relation: the relation's own, by ranks.
use Prim.Native.Nat.{ℕ, ◌+◌, ◌<◌}
use mathlib.Core.Path.{◌≡◌, sym, ap, ◌∙◌}
use mathlib.Core.List.{List}
use lib.ListN.{length, take, drop, get_or}
use lib.Seq.{get_or-take, get_or-drop}
use Rattle.relation.specs.Order.{Row}
use Rattle.relation.specs.Layers.{Layer, layer}
use Rattle.relation.proofs.Layers.{ranked_at}
use Rattle.relation.proofs.Intervals.{layer_ranked}
use Rattle.column_trie.specs.Table.{layer_in}
use Rattle.column_trie.specs.declared.ColumnTrie.{ColumnTrie}
use Rattle.column_trie.proofs.Header.{InPool}
use Rattle.column_trie.proofs.Layers.{Whole, layers_at}
use Rattle.column_trie.proofs.Tables.{Holds}

pub part_at : (pool : List ℕ) (at n j : ℕ) → j < n → get_or (take n (drop at pool)) j 0 ≡ get_or pool (at + j) 0
part_at pool at n j h = get_or-take n (drop at pool) j 0 h ∙ get_or-drop at pool j 0

module _ {pool : List ℕ} {t : ColumnTrie} {rows : List Row} (o : Whole t) (p : InPool (length pool) t) (h : Holds pool t rows) (d : ℕ) (b : d < t.arity) where
  pub layer_is : layer_in pool t d ≡ ranked_at d rows
  layer_is = sym (layers_at pool t o p.few d b) ∙ ap (λ (ls : List Layer). layer ls d) h.layers ∙ layer_ranked h.width d b
