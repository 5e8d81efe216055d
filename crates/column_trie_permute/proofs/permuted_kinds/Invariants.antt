-- `column_trie_permute::permuted_kinds` meets its contract. The loop's invariant: the kinds of the first d columns are set.
use Prim.Native.Nat.{ℕ}
use mathlib.Core.Path.{◌≡◌}
use mathlib.Core.Bool.{false}
use mathlib.Core.List.{map}
use lib.ListN.{take, get_or}
use Rattle.from_sorted.specs.Answer.{kept_kinds}
use Rattle.column_trie_permute.proofs.permuted_kinds.Given as goal

abbrev pub invariant-loop-d : goal.invariant-loop-d
invariant-loop-d l = l.kinds ≡ kept_kinds l.d (map (λ (c : ℕ). get_or l.grade c false) (take l.arity l.columns))
