-- A path to the last layer is that of a row; one that ends before it leads to none.
use Prim.Native.Nat.{ℕ, suc, ◌<◌}
use mathlib.Core.Path.{◌≡◌, subst}
use mathlib.Core.List.{List}
use lib.ListN.{length}
use Rattle.relation.specs.Order.{Row}
use Rattle.relation.specs.Lists.{◌∈◌}
use Rattle.relation.specs.Rows.{Asc, Width}
use Rattle.relation.proofs.Insert.{PrefixStored, stored_below, stored_whole}
use Rattle.column_trie_path.specs.declared.Path.{Path}
use Rattle.column_trie_path.specs.Place.{PathOf}

module _ {a : ℕ} {rows : List Row} {r : Row} {p : Path} (s : Asc rows) (w : Width a rows) (l : length r ≡ a) (q : PathOf a rows r p) where
  pub path_there : p.depth ≡ a → r ∈ rows
  path_there e = (stored_whole a rows r w l s).1 (subst (PrefixStored rows r) e q.stored)

  pub path_absent : p.depth < a → r ∈ rows → ⊥
  path_absent h m = q.leaves h (stored_below a rows r w l (suc p.depth) a h ((stored_whole a rows r w l s).0 m))
