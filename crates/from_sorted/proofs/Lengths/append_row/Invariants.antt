-- `from_sorted::Lengths::append_row` meets its contract. The loop's invariant, for any rows that may be there: the layers before column d are the new
-- ones, those from it on the old ones, in the lengths and in the pool.
use Prim.Native.Nat.{◌≤◌}
use mathlib.Core.List.{List, [], ◌∷◌, ◌++◌}
use lib.ListN.{length, take}
use Rattle.relation.specs.Order.{Row}
use Rattle.relation.specs.Layers.{layers_of}
use Rattle.from_sorted.specs.Push.{Pushing}
use Rattle.from_sorted.proofs.Columns.{mid, Held}
use Rattle.from_sorted.proofs.Lengths.append_row.Given as goal

abbrev pub invariant-loop-d : goal.invariant-loop-d
invariant-loop-d l = (l.from ≤ l.d) × (l.d ≤ l.t.arity) × ((old : List Row) → Pushing (length l.initial.pool) l.t l.initial.self.data l.initial.self.intervals old (take l.t.arity l.row) l.from l.opens → Held l.t l.initial.pool (layers_of l.t.arity old) l.pool l.self.data l.self.intervals (mid l.d (layers_of l.t.arity old) (layers_of l.t.arity (old ++ (take l.t.arity l.row ∷ [])))))
