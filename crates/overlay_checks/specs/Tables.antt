-- Public: what is asked first of two tables, a school's laid over a maker's.
use Rattle.std.specs.Prelude.{ℕ, List}
use Rattle.relation.specs.Order.{pick}
use Rattle.column_trie.specs.Table.{undamaged}
use Rattle.column_trie.specs.declared.ColumnTrie.{ColumnTrie}
use Rattle.laid_over.specs.Shape.{same_shape}
use Rattle.overlay_checks.specs.declared.Side.{Side}
use Rattle.overlay_checks.specs.declared.Side.TheVariants.{School, Maker}

-- of what both have, that of one of them
abbrev pub of_side : {A : Type 0} → Side → A → A → A
of_side School school maker = school
of_side Maker school maker = maker

-- "else new 17, after 6 on either"; 0 where neither is given
unfoldable pub tables_number : List ℕ → ColumnTrie → List ℕ → ColumnTrie → ℕ
tables_number school_pool school maker_pool maker = pick (undamaged school_pool school) (pick (undamaged maker_pool maker) (pick (same_shape school maker) 0 17) 6) 6
