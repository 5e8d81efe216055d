-- `file_check::rows_ascend` meets its contract. The loop's invariant: the first i rows ascend, and the last of them is kept.
use Prim.Native.Nat.{◌-◌}
use mathlib.Core.Path.{◌≡◌}
use mathlib.Core.List.{[]}
use lib.ListN.{length, take, get_or}
use Rattle.column_trie.specs.Limits.{max_arity}
use Rattle.file_check.specs.Checks.{given, rows_from}
use Rattle.file_check.proofs.Whole.{Ascended}
use Rattle.file_check.proofs.Body.ascends.Given as goal

abbrev pub invariant-loop-i : goal.invariant-loop-i
invariant-loop-i l = Ascended (given (rows_from l.self.bytes.now l.self.at l.self.arity)) l.i × (length l.last ≡ max_arity) × (take l.self.arity l.last ≡ get_or (given (rows_from l.self.bytes.now l.self.at l.self.arity)) (l.i - 1) [])
