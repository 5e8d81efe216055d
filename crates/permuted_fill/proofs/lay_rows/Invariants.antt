-- `permuted_fill::lay_rows` meets its contract. The loop's invariant: the table holds the first j rows, and the last of them is kept.
use Prim.Native.Nat.{◌-◌}
use mathlib.Core.Path.{◌≡◌}
use mathlib.Core.List.{[]}
use lib.ListN.{length, take, get_or}
use Rattle.relation.specs.Rows.{sort}
use Rattle.column_trie.specs.Limits.{max_arity}
use Rattle.from_sorted.specs.Push.{Filled}
use Rattle.permuted_rows.specs.Seen.{rows_seen}
use Rattle.permuted_fill.proofs.lay_rows.Given as goal

abbrev pub invariant-loop-j : goal.invariant-loop-j
invariant-loop-j l = Filled l.empty (sort (rows_seen l.rows)) l.initial.into l.into l.lengths.data l.lengths.intervals l.j × (length l.last ≡ max_arity) × (take l.empty.arity l.last ≡ get_or (sort (rows_seen l.rows)) (l.j - 1) [])
